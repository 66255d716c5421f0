-- The answers of the functions at the root, from what their parts find. Assumes nothing.
use Prim.Native.Nat.{ℕ}
use mathlib.Core.Path.{◌≡◌, refl, sym, ◌∙◌}
use mathlib.Core.Bool.{Bool, true, false}
use mathlib.Core.Logic.{inl, inr, ⊎_elim}
use mathlib.Core.List.{List}
use lib.Dec.{T}
use Rattle.std.specs.Prelude.{Option}
use Rattle.std.proofs.lemmas.Option.{same_Some}
use Rattle.rdfs.specs.Lists.{◌∈◌}
use Rattle.rdfs.specs.Facts.{Fact, pi, excl}
use Rattle.rdfs.specs.Clashes.{two_holders}
use Rattle.rdfs.specs.Lookups.{values_shared, value_taken}
use Rattle.rdfs.proofs.Lists.Tests.{tests_as}
use Rattle.rdfs.proofs.Consistency.Holders.{tests_two_holders}
use Rattle.table.specs.Answers.{Decides}
use Rattle.table.proofs.TestAnswers.{is_true, is_false, decides_tests}
use Rattle.flags.specs.Flags.{Says}
use Rattle.exclusive.specs.Above.{exclusive_above}
use Rattle.exclusive.specs.Holders.{Holders, Filled, HeldOtherwise}
use Rattle.exclusive.proofs.AboveFlags.{tests_above}
use Rattle.exclusive.proofs.HeldFacts.{otherwise_met, met_otherwise, taken_met, shared_met}

-- No property at p or over it is exclusive.
module _ (K : List Fact) where
  pub none_above : (p : ℕ) → ((x : ℕ) → excl x ∈ K → ⊥) → (x : ℕ) × T (exclusive_above K p x) → ⊥
  none_above p n s = n s.0 ((tests_above K p s.0).sound s.1).0

  pub none_taken : (a b c : ℕ) → ((x : ℕ) × T (exclusive_above K c x) → ⊥) → false ≡ value_taken K a b c
  none_taken a b c n = sym (is_false (λ t. let m = (taken_met K a b c).sound t in n (
    m.0,
    (tests_above K c m.0).complete
        m.1,
  )))

  pub none_shared : (a b : ℕ) → ((x : ℕ) × T (exclusive_above K b x) → ⊥) → false ≡ values_shared K a b
  none_shared a b n = sym (is_false (λ t. let s = ((shared_met K a b).sound t).0 in n (
    s.0,
    (tests_above K b s.0).complete
        s.1,
  )))

  -- Two hold a value of a.
  pub two_shared : (a b : ℕ) → (x : ℕ) × T (exclusive_above K b x) → T (two_holders K a) → true ≡ values_shared K a b
  two_shared a b s h = sym (is_true ((shared_met K a b).complete (
    (s.0, (tests_above K b s.0).sound s.1),
    inl
        ((tests_two_holders K a).sound h),
  )))

  -- A value has one holder.
  not_two : {H : List (Option ℕ)} (p : ℕ) → Holders H (λ x y. pi x y p ∈ K) → T (two_holders K p) → ⊥
  not_two p h t =
      let two = (tests_two_holders K p).sound t in
      two.other (same_Some two.one two.another
      (sym (h.complete two.one two.value two.first) ∙ h.complete two.another two.value two.second))

  pub filled_two : (r : Bool) {H : List (Option ℕ)} (p : ℕ) → Filled r K p H → r ≡ two_holders K p
  filled_two true p f = sym (is_true (f.two refl))
  filled_two false p f = sym (is_false (not_two p (f.one refl)))

  module _ {flags : List Bool} {H : List (Option ℕ)} where
    -- b is held by a.
    pub taken_held : (r : Bool) (a b c : ℕ) → Says flags (exclusive_above K c) → Holders H (λ x y. (a ≡ x) × (b ≡ y))
        → Decides r (HeldOtherwise K flags H) → r ≡ value_taken K a b c
    taken_held r a b c s h d = decides_tests r (value_taken K a b c) d (tests_as (taken_met K a b c)
        (met_otherwise s h) (otherwise_met s h))

    -- The values of a are held by one each.
    pub shared_held : (r : Bool) (a b : ℕ) → (x : ℕ) × T (exclusive_above K b x) → Says flags (exclusive_above K b)
        → Holders H (λ x y. pi x y a ∈ K) → Decides r (HeldOtherwise K flags H) → r ≡ values_shared K a b
    shared_held r a b some s h d = decides_tests r (values_shared K a b) d (tests_as (shared_met K a b)
        (λ m. ⊎_elim (λ two. absurd (not_two a h ((tests_two_holders K a).complete two))) (met_otherwise s h) m.1)
        (λ o. ((some.0, (tests_above K b some.0).sound some.1), inr (otherwise_met s h o))))
