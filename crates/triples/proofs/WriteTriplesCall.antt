-- Writing a text: the refusals, and what is done. Assumes nothing.
use Prim.Native.Nat.{ℕ, ◌≤◌, ◌<◌}
use mathlib.Core.Path.{◌≡◌, sym, ap, ◌∙◌}
use mathlib.Core.List.{List, ◌++◌}
use lib.Dec.{ltb}
use Rattle.std.proofs.Common.{Ok, Err}
use Rattle.table.specs.Refused.{number}
use Rattle.table.specs.declared.refusals.Refusal.{Refusal}
use Rattle.table.specs.declared.refusals.Refusal.TheVariants.{ShortOutput}
use Rattle.triples.proofs.Numbered.{number_some}
use lib.ListN.{length, drop}
use borrow.Author.Tests.{lt-ltb, le-ltb}
use Rattle.rdfs.specs.Numbers.{product}
use Rattle.rdfs.specs.Refusals.{or_else, table_refusal}
use Rattle.rdfs.specs.Register.{Table}
use Rattle.rdfs.proofs.Tickets.Steps.{table_passes, table_stops}
use Rattle.triples.specs.WriteTriples.{table_text, write_triples_answer, WriteTriplesPromise}
use Rattle.triples.proofs.WriteAnswer.{written_length, written_bytes, written_refused}

module _ (t out : List ℕ) where
  abbrev text : List ℕ
  text = table_text t

  refused : (r : Refusal) → number r ≡ write_triples_answer t out → WriteTriplesPromise t out (Err r) out
  refused r e =
      let k = written_refused t out (λ z. number_some r (e ∙ z)) in
      record { answer_is = e; length_is = sym k.0; bytes_are = sym k.1 }

  -- 13, or 0.
  abbrev last : ℕ
  last = or_else (ltb (length out) (length text)) 13 0

  -- 1, 2 and 3.
  pub write_refused : (r : Refusal) → number r ≡ table_refusal product t 0 → WriteTriplesPromise t out (Err r) out
  write_refused r e = refused r (e ∙ table_stops product t last (λ z. number_some r (e ∙ z)))

  module _ (consistent : Table product t) where
    -- 13.
    pub write_short : length out < length text → WriteTriplesPromise t out (Err ShortOutput) out
    write_short h = refused ShortOutput (sym (table_passes product t consistent last
        ∙ ap (λ b. or_else b 13 0) (lt-ltb (length out) (length text) h)))

    pub write_done : length text ≤ length out → (size : ℕ) → size ≡ length text → (out' : List ℕ)
        → out' ≡ text ++ drop (length text) out → WriteTriplesPromise t out (Ok size) out'
    write_done h size s out' q =
        let zero-answer : write_triples_answer t out ≡ 0 =
        table_passes product t consistent last ∙ ap (λ b. or_else b 13 0) (le-ltb (length out) (length text) h) in
        record {
          answer_is = sym zero-answer;
          length_is = s ∙ sym (written_length t out zero-answer);
          bytes_are = q ∙ sym (written_bytes t out zero-answer);
        }
