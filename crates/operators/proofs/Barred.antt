-- Refusal 17 by a ticket's bytes, on a consistent table; and a table that is refused itself. Assumes nothing.
use Prim.Native.Nat.{ℕ}
use mathlib.Core.Path.{◌≡◌, refl, sym, ap, subst, ◌∙◌}
use mathlib.Core.Bool.{Bool, true, false, ◌&&◌}
use mathlib.Core.List.{List}
use lib.Dec.{T, eqb, eqb→eq}
use Rattle.rdfs.specs.Numbers.{product}
use Rattle.rdfs.specs.Tickets.{decoded}
use Rattle.rdfs.specs.Refusals.{first_true, table_refusal, sender_tests}
use Rattle.rdfs.specs.Register.{refused_with, step, Table}
use Rattle.rdfs.specs.Operators.{not_for_operators, earlier_tests, barred, operator_step, step_as}
use Rattle.rdfs.proofs.Lists.Tests.{and_both}
use Rattle.rdfs.proofs.Tickets.Steps.{table_passes, table_stops}
use Rattle.rdfs.proofs.Operators.OperatorSteps.{operator_barred, operator_plain}
use Rattle.ticket.proofs.RefusedSteps.{table_refused}
use Rattle.operators.specs.Operator.{is_barred}

-- On a consistent table.
module _ (w bytes : List ℕ) (t : Table product w) where
  same_barred : barred product w bytes ≡ is_barred bytes
  same_barred = ap (λ n. eqb n 0 && not_for_operators (decoded bytes)) (table_passes product w t (first_true (sender_tests product
      bytes)))

  pub barred_refused : (operator : Bool) → operator ≡ true → is_barred bytes ≡ true
      → step_as operator product w bytes ≡ refused_with 17 w
  barred_refused true o e = operator_barred product w bytes (subst T (sym (same_barred ∙ e)) tt)
  barred_refused false o e = absurd (subst T (sym o) tt)

  pub free_plain : (operator : Bool) → (operator ≡ true → is_barred bytes ≡ false)
      → step_as operator product w bytes ≡ step product w bytes
  free_plain false h = refl
  free_plain true h = operator_plain product w bytes (λ b. subst T (same_barred ∙ h refl) b)

-- A table that is refused is refused first.
pub table_first : (w bytes : List ℕ) (n : ℕ) → table_refusal product w 0 ≡ n → (n ≡ 0 → ⊥)
    → operator_step product w bytes ≡ refused_with n w
table_first w bytes n e d = operator_plain product w bytes (λ b. d (sym e ∙ (table_stops product w (first_true (sender_tests product
    bytes)) (λ z. d (sym e ∙ z)) ∙ eqb→eq (first_true (earlier_tests product w bytes)) 0 (and_both (eqb (first_true (earlier_tests
    product w bytes)) 0) (not_for_operators (decoded bytes)) b).0))) ∙ table_refused w bytes n e d
