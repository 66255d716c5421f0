-- The ways through a host's call with one ticket, whatever the ticket's answer s: refused by reading, by the ticket, by writing,
-- and done. Assumes nothing.
use Prim.Native.Nat.{ℕ}
use mathlib.Core.Path.{◌≡◌, refl, sym, ap, subst, ◌∙◌}
use mathlib.Core.Bool.{Bool, cond}
use mathlib.Core.List.{List}
use native.Mathlib.Omega.{arith}
use lib.Dec.{eqb}
use Rattle.rdfs.specs.Numbers.{product}
use Rattle.rdfs.specs.Register.{Answer, Table}
use Rattle.rdfs.specs.Operators.{step_as}
use Rattle.rdfs.proofs.Operators.OperatorSteps.{as_keeps}
use Rattle.rdfs.proofs.Theorems.{product_sound}
use Rattle.writing.specs.WritePromise.{write_answer, write_length, write_bytes, length_of, WritePromise}
use Rattle.reading.specs.ReadPromise.{read_answer, read_words}
use Rattle.std.specs.Prelude.{Result, Ok, Err}
use Rattle.table.specs.declared.refusals.Refusal.{Refusal}
use Rattle.table.specs.Refused.{number, answer_of}
use Rattle.table.proofs.RefusalNumbers.{number_some}
use Rattle.ticket.specs.Answered.{Outcome, Answered}
use Rattle.ticket.specs.declared.answer.Applied.{Applied}
use Rattle.exchange.specs.ToText.{room}
use Rattle.exchange.proofs.Between.{refused_keeps, passed_leaves, read_table}
use Rattle.packing.proofs.Refused.{refused_is, passed_is}
use Rattle.packing.specs.Packed.{packed, refused_else}
use Rattle.host_ticket.specs.HostTicket.{applied, host_number, host_bytes, HostPromiseOf}

-- Words that a ticket leaves are a consistent table, as those that were read are.
pub applied_table : (operator : Bool) (image ticket : List ℕ) → read_answer room image ≡ 0
    → Table product (applied operator image ticket).table
unfolding applied
applied_table operator image ticket e =
    (as_keeps product product_sound operator).rules (read_words room image) ticket (read_table image 0 (sym e) refl refl)

pub left_table : (operator : Bool) {w v : List ℕ} (ticket : List ℕ) → Table product w → (a : Outcome)
    → Answered a v (step_as operator product w ticket) → Table product v
left_table operator {w} ticket t a did =
    subst (Table product) (sym did.words) ((as_keeps product product_sound operator).rules w ticket t)

-- The ticket's answer on the words that were read.
pub applied_from : (operator : Bool) {w v : List ℕ} (image ticket : List ℕ) → w ≡ read_words room image → (a : Outcome)
    → Answered a v (step_as operator product w ticket) → Answered a v (applied operator image ticket)
unfolding applied
applied_from operator {v = v} image ticket from a did = subst (λ x. Answered a v (step_as operator product x ticket)) from did

module _ (image output : List ℕ) (s : Answer) where
  -- The refusals after reading, and the end.
  abbrev later : ℕ
  later = refused_else (write_answer s.table output) (packed 0 s.added s.removed (write_length s.table output))

  pub way_unread : (refusal : Refusal) → number refusal ≡ read_answer room image
      → HostPromiseOf image output s (packed (number refusal) 0 0 0) output
  unfolding host_number host_bytes
  way_unread refusal e =
      let no : read_answer room image ≡ 0 → ⊥ = λ z. omega (arith, e, z, number_some refusal) in (
        ap (λ m. packed m 0 0 0) e ∙ sym (refused_is (read_answer room image) _ no),
        sym (refused_keeps (read_answer room image) _ output no),
      )

  -- Read.
  module _ (read : read_answer room image ≡ 0) where
    answer_read : host_number image output s ≡ refused_else s.number later
    unfolding host_number
    answer_read = passed_is (read_answer room image) (refused_else s.number later) read

    read_output : host_bytes image output s ≡ cond (eqb s.number 0) (write_bytes s.table output) output
    unfolding host_bytes
    read_output = passed_leaves (read_answer room image) (cond (eqb s.number 0) (write_bytes s.table output) output) output
        read

    -- Then the ticket leaves the words v.
    module _ {v : List ℕ} where
      pub way_unapplied : (refusal : Refusal) → Answered (Err refusal) v s
          → HostPromiseOf image output s (packed (number refusal) 0 0 0) output
      way_unapplied refusal same =
          let no : s.number ≡ 0 → ⊥ = λ z. omega (arith, same.number, z, number_some refusal) in (
            ap (λ m. packed m 0 0 0) same.number ∙ (sym (refused_is s.number later no) ∙ sym answer_read),
            sym (refused_keeps s.number (write_bytes s.table output) output no) ∙ sym read_output,
          )

      -- Accepted; then writing answers w and leaves the bytes u.
      module _ (a : Applied) (same : Answered (Ok a) v s) (w : Result ℕ Refusal) (u : List ℕ) (p : WritePromise v output w u) where
        applied_answer : host_number image output s ≡ later
        applied_answer = answer_read ∙ passed_is s.number later (sym same.number)

        left : u ≡ host_bytes image output s
        left = p.2 ∙ (ap (λ x. write_bytes x output) same.words
            ∙ (sym (passed_leaves s.number (write_bytes s.table output) output (sym same.number)) ∙ sym read_output))

        written : answer_of w ≡ write_answer s.table output
        written = p.0 ∙ ap (λ x. write_answer x output) same.words

        abbrev counts : ℕ
        counts = packed 0 s.added s.removed (write_length s.table output)

        pub way_unwritten : (answer_of w ≡ 0 → ⊥) → HostPromiseOf image output s (packed (answer_of w) 0 0 0) u
        way_unwritten h = (
          ap (λ m. packed m 0 0 0) written ∙ (sym (refused_is (write_answer s.table output) counts (λ q. h (written ∙ q)))
              ∙ sym applied_answer),
          left,
        )

        pub way_done : answer_of w ≡ 0 → HostPromiseOf image output s (packed 0 a.added a.removed (length_of w)) u
        way_done q =
            let long : length_of w ≡ write_length s.table output = p.1 ∙ ap (λ x. write_length x output) same.words in
            let filled : packed 0 a.added a.removed (length_of w) ≡ counts =
            λ i. packed 0 (same.added i) (same.removed i) (long i) in
            (filled ∙ (sym (passed_is (write_answer s.table output) counts (sym written ∙ q)) ∙ sym applied_answer), left)
