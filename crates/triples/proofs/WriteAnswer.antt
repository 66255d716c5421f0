-- The answer of writing a text, and the bytes that it leaves. Assumes nothing.
use Prim.Native.Nat.{ℕ, ◌≤◌}
use mathlib.Core.Path.{◌≡◌, refl, sym, ap, ◌∙◌}
use mathlib.Core.Bool.{false, cond}
use mathlib.Core.List.{List, ◌++◌}
use native.Mathlib.Omega.{arith}
use native.Mathlib.Decide.{ℕ_discrete}
use lib.Dec.{eqb, ltb}
use lib.ListN.{length, take, drop}
use lib.Seq.{take_at}
use borrow.Author.Tests.{eq-eqb, ne_eqb, ltb-false}
use Rattle.rdfs.specs.Numbers.{product}
use Rattle.rdfs.specs.Refusals.{or_else, table_refusal}
use Rattle.rdfs.specs.Register.{Table}
use Rattle.rdfs.proofs.Tickets.FirstTrue.{passed_link}
use Rattle.rdfs.proofs.Tickets.Steps.{checked_table, table_passes, table_stops}
use Rattle.table.proofs.TestAnswers.{is_false}
use Rattle.triples.specs.WriteTriples.{table_text, write_triples_answer, write_triples_length, write_triples_bytes}

module _ (t output : List ℕ) where
  abbrev text : List ℕ
  text = table_text t

  -- 13, or 0.
  abbrev last : ℕ
  last = or_else (ltb (length output) (length text)) 13 0

  -- Not refused: the table is consistent and the output is long enough.
  pub written_parts : write_triples_answer t output ≡ 0 → Table product t × (length text ≤ length output)
  written_parts e = elim (ℕ_discrete (table_refusal product t 0) 0) [
    | yes z ↦
        let table : Table product t = checked_table product t z in
        let short : last ≡ 0 = sym (table_passes product t table last) ∙ e in (
          table,
          ltb-false (length output) (length text) (is_false (passed_link (ltb (length output) (length text)) 13 0 0
              (omega arith) short).0),
        )
    | no h ↦ absurd (h (table_stops product t last h ∙ e))
  ]

  -- The length and the bytes; cut to the length, they are the text.
  pub written_length : write_triples_answer t output ≡ 0 → write_triples_length t output ≡ length text
  written_length e = ap (λ b. cond b (length text) 0) (eq-eqb (write_triples_answer t output) 0 e)

  pub written_bytes : write_triples_answer t output ≡ 0 → write_triples_bytes t output ≡ text ++ drop (length text) output
  written_bytes e = ap (λ b. cond b (text ++ drop (length text) output) output) (eq-eqb (write_triples_answer t output) 0 e)

  pub written_taken : write_triples_answer t output ≡ 0
      → take (write_triples_length t output) (write_triples_bytes t output) ≡ text
  written_taken e = (λ i. take (written_length e i) (written_bytes e i))
      ∙ take_at text (drop (length text) output) (length text) refl

  -- Refused: no length, and the bytes as they were.
  pub written_refused : (write_triples_answer t output ≡ 0 → ⊥)
      → (write_triples_length t output ≡ 0) × (write_triples_bytes t output ≡ output)
  written_refused h =
      let no : eqb (write_triples_answer t output) 0 ≡ false = ne_eqb (write_triples_answer t output) 0 h in
      (ap (λ b. cond b (length text) 0) no, ap (λ b. cond b (text ++ drop (length text) output) output) no)
