-- A list on a consistent table is refused with 14 or run, and a call that runs it does as the register. Assumes nothing.
use Prim.Native.Nat.{ℕ, zero, suc, ◌≤◌}
use mathlib.Core.Path.{◌≡◌, refl, ap, subst, ◌∙◌}
use mathlib.Core.Bool.{Bool, true, false}
use mathlib.Core.List.{List}
use native.Mathlib.Omega.{arith}
use lib.Dec.{ltb}
use lib.ListN.{length}
use borrow.Author.Tests.{le-ltb, ltb-false}
use Rattle.rdfs.specs.Numbers.{product, record_length}
use Rattle.rdfs.specs.Refusals.{or_else}
use Rattle.rdfs.specs.Register.{Done, cut, Table}
use Rattle.rdfs.specs.Operators.{register_as}
use Rattle.rdfs.proofs.Tickets.Steps.{table_passes}
use Rattle.table.specs.Refused.{answer_of}
use Rattle.list_form.specs.Listing.{ListOutcome, list_refusal, listing_by, listing_as, ListAnswered}
use Rattle.list.specs.Demand3.{Ran}

module _ (w bytes answers : List ℕ) (t : Table product w) where
  pub room_runs : length (cut record_length bytes) ≤ length answers → list_refusal w bytes answers ≡ 0
  room_runs h = table_passes product w t _ ∙ ap (λ b. or_else b 14 0) (le-ltb (length answers) (length (cut record_length bytes)) h)

  pub not_14_room : (list_refusal w bytes answers ≡ 14 → ⊥) → length (cut record_length bytes) ≤ length answers
  not_14_room n = go (ltb (length answers) (length (cut record_length bytes))) refl
    where
      go : (b : Bool) → ltb (length answers) (length (cut record_length bytes)) ≡ b → length (cut record_length bytes) ≤ length
          answers
      go true e = absurd (n (table_passes product w t _ ∙ ap (λ b. or_else b 14 0) e))
      go false e = omega (arith, ltb-false (length answers) (length (cut record_length bytes)) e)

-- A call with operators' tickets or with anyone's answers the refusal; refused, it leaves the words.
module _ (w answers : List ℕ) (done : Done) where
  answer_is : (n : ℕ) → (listing_by n w answers done).answer ≡ n
  answer_is zero = refl
  answer_is (suc n) = refl

  kept_of : (n : ℕ) → (n ≡ 0 → ⊥) → (listing_by n w answers done).table ≡ w
  kept_of zero h = absurd (h refl)
  kept_of (suc n) h = refl

module _ (operator : Bool) (w bytes answers : List ℕ) (r : ListOutcome) (v out : List ℕ)
    (h : ListAnswered r v out (listing_as operator w bytes answers)) where
  pub answers_refusal : answer_of r ≡ list_refusal w bytes answers
  unfolding listing_as
  answers_refusal = h.answer ∙ answer_is w answers (register_as operator product w bytes) (list_refusal w bytes answers)

  pub refused_keeps : (list_refusal w bytes answers ≡ 0 → ⊥) → v ≡ w
  unfolding listing_as
  refused_keeps n = h.words ∙ kept_of w answers (register_as operator product w bytes) (list_refusal w bytes answers) n

-- A call that is not refused.
module _ (operator : Bool) (w bytes answers : List ℕ) (e : list_refusal w bytes answers ≡ 0) where
  listing_runs : listing_as operator w bytes answers ≡ listing_by 0 w answers (register_as operator product w bytes)
  unfolding listing_as
  listing_runs = ap (λ n. listing_by n w answers (register_as operator product w bytes)) e

  pub answered_ran : (r : ListOutcome) (v out : List ℕ) → ListAnswered r v out (listing_as operator w bytes answers)
      → Ran answers r v out (register_as operator product w bytes)
  answered_ran r v out h =
      let k : ListAnswered r v out (listing_by 0 w answers (register_as operator product w bytes)) =
      subst (ListAnswered r v out) listing_runs h in
      record { answer = k.answer; words = k.words; numbers = k.numbers; accepted = k.accepted; refused = k.refused }
