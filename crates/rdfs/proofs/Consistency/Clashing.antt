-- A list clashes exactly if it breaks a rule that forbids. Assumes nothing.
use Prim.Native.Nat.{ℕ}
use mathlib.Core.Path.{◌≡◌, refl, sym, subst}
use mathlib.Core.Bool.{not, ◌&&◌}
use mathlib.Core.Logic.{inl, inr, ⊎_elim}
use mathlib.Core.List.{List}
use native.Mathlib.Decide.{ℕ_discrete}
use lib.Dec.{T, eqb, eqb→eq}
use Rattle.rdfs.specs.Lists.{◌∈◌, here, there, any}
use Rattle.rdfs.specs.Facts.{Fact, cl, pr, ind, lit, csub, psub, dom, rng, ci, pi, excl, second, has, Graph, graph}
use Rattle.rdfs.specs.Demands.{with_a}
use Rattle.rdfs.specs.Clashes.{bars, mixed, unequal, clash, clashes}
use Rattle.rdfs.proofs.Lists.Tests.{and_both, both_and, or_either, either_or, differ, differs}
use Rattle.rdfs.proofs.Lists.ListLaws.{in_cons, in_one, none_in, any_in, in_any}
use Rattle.rdfs.proofs.Words.FactLaws.{has_in, in_has, from_a, to_a}
use Rattle.rdfs.proofs.Consistency.LawfulParts.{Forbids, All}
use Rattle.rdfs.proofs.Consistency.Holders.{tests_two_holders}

not_mixed : (z w : ℕ) → (T (mixed z w) → ⊥) → (z ≡ 1 → w ≡ 1) × (w ≡ 1 → z ≡ 1)
not_mixed z w n = (
  (λ e. elim (ℕ_discrete w 1) [
    | yes p ↦ p
    | no q ↦ absurd (n (either_or (eqb z 1 && not (eqb w 1)) _
        (inl (both_and (eqb z 1) (not (eqb w 1)) (subst (λ m. T (eqb m 1)) (sym e) tt) (differs w 1 q)))))
  ]),
  (λ e. elim (ℕ_discrete z 1) [
    | yes p ↦ p
    | no q ↦ absurd (n (either_or (eqb z 1 && not (eqb w 1)) (not (eqb z 1) && eqb w 1)
        (inr (both_and (not (eqb z 1)) (eqb w 1) (differs z 1 q) (subst (λ m. T (eqb m 1)) (sym e) tt)))))
  ]),
)

-- A list with no clash breaks no rule that forbids.
module _ (C : List Fact) (free : T (clashes C) → ⊥) where
  no_bar : (f g : Fact) → f ∈ C → g ∈ bars f → g ∈ C → ⊥
  no_bar f g h m k =
      free (in_any (clash C) h (either_or (any (has C) (bars f)) (unequal C f) (inl (in_any (has C) m (in_has C g k)))))

  no_unequal : (f : Fact) → f ∈ C → T (unequal C f) → ⊥
  no_unequal f h t = free (in_any (clash C) h (either_or (any (has C) (bars f)) (unequal C f) (inr t)))

  one_value : (y z : ℕ) → (T (not (eqb y z)) → ⊥) → y ≡ z
  one_value y z n = elim (ℕ_discrete y z) [ yes p ↦ p | no q ↦ absurd (n (differs y z q)) ]

  pub clash_free : Forbids (graph C)
  unfolding bars unequal
  clash_free = record {
    f4 = λ x h k. no_bar (cl x) (pr x) h (here refl) k;
    f5 = λ x h k. no_bar (cl x) (ind x) h (there (here refl)) k;
    f6 = λ x h k. no_bar (pr x) (ind x) h (here refl) k;
    f16 = λ x y z h k. one_value y z (λ t. no_unequal (dom x y) h (in_any (λ f. not (eqb y (second f))) (to_a C k) t));
    f17 = λ x y z h k. one_value y z (λ t. no_unequal (rng x y) h (in_any (λ f. not (eqb y (second f))) (to_a C k) t));
    f19 = λ x y h k. no_bar (csub x y) (csub y x) h (here refl) k;
    f21 = λ x y h k. no_bar (psub x y) (psub y x) h (here refl) k;
    fh2 = λ x h. (
      (λ k. no_bar (cl x) (lit x) k (there (there (here refl))) h),
      (λ k. no_bar (pr x) (lit x) k (there (here refl)) h),
      (λ k. no_bar (ind x) (lit x) k (here refl) h),
    );
    fh4 = λ x y z w h k m. not_mixed z w (λ t. no_unequal (psub x y) h
        (in_any (λ f. any (λ g. mixed (second f) (second g)) (with_a C 8 y)) (to_a C k) (in_any (λ g. mixed z (second g))
        (to_a C m) t)));
    fe2 = λ x y z w h k m. one_value x w (λ t. no_unequal (excl z) h ((tests_two_holders C z).complete
        record { one = x; another = w; value = y; first = k; second = m; other = differ t }));
  }

-- A list with a clash lies in no graph that keeps the rules that forbid.
module _ (C : List Fact) (G : Graph) (p : Forbids G) (inG : All G C) where
  bar_none : (f g : Fact) → G f → g ∈ bars f → G g → ⊥
  unfolding bars
  bar_none (cl x) g h m k = ⊎_elim (λ e. p.f4 x h (subst G e k)) (λ m. ⊎_elim (λ e. p.f5 x h (subst G e k))
      (λ m. (p.fh2 x (subst G (in_one m) k)).0 h) (in_cons m)) (in_cons m)
  bar_none (pr x) g h m k = ⊎_elim (λ e. p.f6 x h (subst G e k)) (λ m. (p.fh2 x (subst G (in_one m) k)).1 h) (in_cons m)
  bar_none (ind x) g h m k = (p.fh2 x (subst G (in_one m) k)).2 h
  bar_none (lit x) g h m k = none_in m
  bar_none (csub x y) g h m k = p.f19 x y h (subst G (in_one m) k)
  bar_none (psub x y) g h m k = p.f21 x y h (subst G (in_one m) k)
  bar_none (dom x y) g h m k = none_in m
  bar_none (rng x y) g h m k = none_in m
  bar_none (ci x y) g h m k = none_in m
  bar_none (pi x y z) g h m k = none_in m
  bar_none (excl x) g h m k = none_in m

  unequal_none : (f : Fact) → G f → T (unequal C f) → ⊥
  unfolding unequal
  unequal_none (cl x) h t = t
  unequal_none (pr x) h t = t
  unequal_none (ind x) h t = t
  unequal_none (lit x) h t = t
  unequal_none (csub x y) h t = t
  unequal_none (psub x y) h t =
      let r = any_in (λ f. any (λ g. mixed (second f) (second g)) (with_a C 8 y)) (with_a C 8 x) t in
      let s = any_in (λ g. mixed (second r.0) (second g)) (with_a C 8 y) r.2 in
      let z : ℕ = second r.0 in
      let w : ℕ = second s.0 in
      let q = p.fh4 x y z w h (inG _ (from_a C 8 x r.1)) (inG _ (from_a C 8 y s.1)) in
      ⊎_elim
      (λ a. let u = and_both (eqb z 1) (not (eqb w 1)) a in differ u.1 (q.0 (eqb→eq z 1 u.0)))
      (λ a. let u = and_both (not (eqb z 1)) (eqb w 1) a in differ u.0 (q.1 (eqb→eq w 1 u.1)))
      (or_either (eqb z 1 && not (eqb w 1)) (not (eqb z 1) && eqb w 1) s.2)
  unequal_none (dom x y) h t =
      let r = any_in (λ f. not (eqb y (second f))) (with_a C 7 x) t in
      differ r.2 (p.f16 x y (second r.0) h (inG _ (from_a C 7 x r.1)))
  unequal_none (rng x y) h t =
      let r = any_in (λ f. not (eqb y (second f))) (with_a C 8 x) t in
      differ r.2 (p.f17 x y (second r.0) h (inG _ (from_a C 8 x r.1)))
  unequal_none (ci x y) h t = t
  unequal_none (pi x y z) h t = t
  unequal_none (excl z) h t =
      let s = (tests_two_holders C z).sound t in
      s.other (p.fe2 s.one s.value z s.another h (inG _ s.first) (inG _ s.second))

  pub clash_none : T (clashes C) → ⊥
  clash_none t =
      let r = any_in (clash C) C t in
      ⊎_elim
      (λ a. let s = any_in (has C) (bars r.0) a in bar_none r.0 s.0 (inG _ r.1) s.1 (inG _ (has_in
      C s.0 s.2)))
      (λ b. unequal_none r.0 (inG _ r.1) b)
      (or_either (any (has C) (bars r.0)) (unequal C r.0) r.2)
