-- The check's answer from the refusals of the layout and the visit of the rules. Assumes nothing.
use Prim.Native.Nat.{ℕ, ◌≤◌, ◌<◌}
use mathlib.Core.Path.{◌≡◌, refl, sym, ap, ◌∙◌}
use mathlib.Core.Bool.{Bool, true, false, not}
use mathlib.Core.Logic.{inr}
use mathlib.Core.List.{List}
use native.Mathlib.Omega.{arith}
use native.Mathlib.Decide.{dec_lt}
use lib.Dec.{T}
use lib.ListN.{length}
use Rattle.rdfs.specs.Numbers.{product}
use Rattle.rdfs.specs.Facts.{Fact, graph}
use Rattle.rdfs.specs.Words.{laid_out, facts}
use Rattle.rdfs.specs.Clashes.{is_consistent}
use Rattle.rdfs.specs.Refusals.{or_else, bad_size, bad_layout, inconsistent, layout_refusal, table_refusal}
use Rattle.rdfs.proofs.Consistency.Decision.{check_sound, check_complete}
use Rattle.table.proofs.TestAnswers.{is_true, is_false}
use Rattle.table.proofs.Sizes.{tests_size}
use Rattle.table.proofs.TableRefusals.{taken_laid}
use Rattle.consistency.specs.Order.{rules_in_order, MetFirst}
use Rattle.consistency.proofs.MetLaws.{met_all, met_broken, broken_not, all_counted}
use Rattle.consistency.proofs.Visiting.{all_consistent, consistent_all}

-- Facts of which n rules are met before the first that is broken are consistent exactly if n is the number of all rules.
module _ (K : List Fact) {n : ℕ} (m : MetFirst (graph K) rules_in_order n) where
  met_consistent : length rules_in_order ≤ n → T (is_consistent K)
  met_consistent h = check_complete K (all_consistent (graph K) (met_all m h))

  broken_inconsistent : n < length rules_in_order → T (is_consistent K) → ⊥
  broken_inconsistent h t = broken_not (met_broken m h) (consistent_all (graph K) (check_sound K t))

  pub inconsistent_broken : (T (is_consistent K) → ⊥) → n < length rules_in_order
  inconsistent_broken h = elim (dec_lt n (length rules_in_order)) [
    | yes l ↦ l
    | no q ↦ absurd (h (met_consistent (omega (arith, q))))
  ]

-- Consistent facts meet all rules.
pub consistent_counted : (K : List Fact) → T (is_consistent K) → MetFirst (graph K) rules_in_order (length rules_in_order)
consistent_counted K t = all_counted (consistent_all (graph K) (check_sound K t))

-- Refusals 1 and 2 come first.
first_two : (size layout : Bool) (rest a : ℕ) → a ≡ or_else size 1 (or_else layout 2 0) → (a ≡ 0 → ⊥)
    → a ≡ or_else size 1 (or_else layout 2 rest)
first_two true layout rest a e n = e
first_two false true rest a e n = e
first_two false false rest a e n = absurd (n e)

past_two : (size layout : Bool) (rest : ℕ) → or_else size 1 (or_else layout 2 0) ≡ 0
    → or_else size 1 (or_else layout 2 rest) ≡ rest
past_two true layout rest e = absurd (omega arith)
past_two false true rest e = absurd (omega arith)
past_two false false rest e = refl

size_good : (size layout : Bool) → or_else size 1 (or_else layout 2 0) ≡ 0 → T size → ⊥
size_good true layout e t = omega arith
size_good false layout e t = t

-- A table refused with 3 is laid out, and not too long.
third : (size layout rest : Bool) → 3 ≡ or_else size 1 (or_else layout 2 (or_else rest 3 0))
    → or_else size 1 (or_else layout 2 0) ≡ 0
third true layout rest e = absurd (omega arith)
third false true rest e = absurd (omega arith)
third false false rest e = refl

module _ (table : List ℕ) (a : ℕ) (e : a ≡ layout_refusal product table 0) where
  pub refused_first : (a ≡ 0 → ⊥) → a ≡ table_refusal product table 0
  refused_first n = first_two (bad_size product table) (bad_layout product table) (or_else (inconsistent product table) 3 0) a e n

  module _ (z : a ≡ 0) where
    none : layout_refusal product table 0 ≡ 0
    none = sym e ∙ z

    pub past_laid : T (laid_out product 1 table)
    past_laid = taken_laid table none

    pub past_fits : length table ≤ product.most
    past_fits = elim (dec_lt product.most (length table)) [
      | yes h ↦ absurd (size_good (bad_size product table) (bad_layout product table) none ((tests_size product table).complete
          (inr h)))
      | no n ↦ omega (arith, n)
    ]

    by_rules : (b : Bool) → inconsistent product table ≡ b → or_else b 3 0 ≡ table_refusal product table 0
    by_rules b q = sym (past_two (bad_size product table) (bad_layout product table)
        (or_else (inconsistent product table) 3 0) none
        ∙ ap (λ i. or_else i 3 0) q)

    -- n rules are met before the first that is broken.
    module _ {n : ℕ} (m : MetFirst (graph (facts product table)) rules_in_order n) where
      pub past_broken : n < length rules_in_order → 3 ≡ table_refusal product table 0
      past_broken h = by_rules true
          (ap not (is_false {b = is_consistent (facts product table)} (broken_inconsistent (facts product table) m h)))

      pub past_met : length rules_in_order ≤ n → 0 ≡ table_refusal product table 0
      past_met h = by_rules false
          (ap not (is_true {b = is_consistent (facts product table)} (met_consistent (facts product table) m h)))

pub refused_laid : (table : List ℕ) → 3 ≡ table_refusal product table 0 → T (laid_out product 1 table)
    × (length table ≤ product.most)
refused_laid table e =
    let none : layout_refusal product table 0 ≡ 0 =
    third (bad_size product table) (bad_layout product table) (inconsistent product table) e in
    (past_laid table 0 (sym none) refl, past_fits table 0 (sym none) refl)
