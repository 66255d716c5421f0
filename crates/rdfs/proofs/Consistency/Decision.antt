-- The decision `is_consistent` is consistency. Assumes nothing.
use mathlib.Core.Bool.{Bool, true, not, ◌&&◌}
use mathlib.Core.Logic.{inl, inr, ⊎_elim}
use mathlib.Core.List.{List}
use lib.Dec.{T, T_not, not_T}
use Rattle.rdfs.specs.Lists.{◌∈◌, all, any}
use Rattle.rdfs.specs.Facts.{Fact, cl, pr, ind, lit, csub, psub, dom, rng, ci, pi, excl, second, has, graph}
use Rattle.rdfs.specs.Consistency.{Consistent}
use Rattle.rdfs.specs.Demands.{with_a, needs}
use Rattle.rdfs.specs.Clashes.{clashes, exists_for, is_consistent}
use Rattle.rdfs.proofs.Lists.Tests.{and_both, both_and, or_either, either_or}
use Rattle.rdfs.proofs.Lists.ListLaws.{all_in, in_all, any_in, in_any}
use Rattle.rdfs.proofs.Words.FactLaws.{has_in, in_has, from_a, to_a}
use Rattle.rdfs.proofs.Consistency.LawfulParts.{Exists, demands, forbids, lawful_of}
use Rattle.rdfs.proofs.Consistency.Needs.{needs_in, meets}
use Rattle.rdfs.proofs.Consistency.Clashing.{clash_free, clash_none}

module _ (K : List Fact) where
  -- what the test asks of each fact
  abbrev each : Fact → Bool
  each f = all (has K) (needs K f) && exists_for K f

  exist : ((f : Fact) → f ∈ K → T (exists_for K f)) → cl 0 ∈ K → Exists (graph K)
  unfolding exists_for
  exist h top = record {
    e12 = λ x y z m. ⊎_elim (λ i. inl (has_in K (ind y) i)) (λ l. inr (has_in
        K (lit y) l)) (or_either (has K (ind y)) (has K (lit y)) (h (pi x y z) m));
    e15 = λ x m. let e = and_both (any (λ f. true) (with_a K 7 x)) (any (λ f. true) (with_a K 8 x)) (h (pr x) m) in
        let y = any_in (λ f. true) (with_a K 7 x) e.0 in
        let z = any_in (λ f. true) (with_a K 8 x) e.1 in
        ((second y.0, from_a K 7 x y.1), (second z.0, from_a K 8 x z.1));
    eh1 = top;
  }

  pub check_sound : T (is_consistent K) → Consistent (graph K)
  unfolding is_consistent
  check_sound t =
      let a = and_both (not (clashes K)) (all each K && has K (cl 0)) t in
      let b = and_both (all each K) (has K (cl 0)) a.1 in
      let of : (f : Fact) → f ∈ K → T (all (has K) (needs K f)) × T (exists_for K f) =
      λ f h. and_both (all (has K) (needs K f)) (exists_for K f) (all_in each b.0 h) in
      lawful_of (graph K) (meets K (λ g h f m. has_in K f (all_in (has K) (of g h).0 m)))
      (clash_free K (T_not (clashes K) a.0))
      (exist (λ f h. (of f h).1) (has_in K (cl 0) b.1))

  found : Consistent (graph K) → (f : Fact) → f ∈ K → T (exists_for K f)
  unfolding exists_for
  found c (cl x) h = tt
  found c (pr x) h = let q = c.rule_15 x h in
      both_and (any (λ f. true) (with_a K 7 x)) (any (λ f. true) (with_a K 8 x)) (in_any (λ f. true) (to_a K q.0.1) tt)
      (in_any (λ f. true) (to_a K q.1.1) tt)
  found c (ind x) h = tt
  found c (lit x) h = tt
  found c (csub x y) h = tt
  found c (psub x y) h = tt
  found c (dom x y) h = tt
  found c (rng x y) h = tt
  found c (ci x y) h = tt
  found c (pi x y z) h = either_or (has K (ind y)) (has K (lit y)) (⊎_elim (λ i. inl (in_has K (ind y) i))
      (λ l. inr (in_has K (lit y) l)) (c.rule_12 x y z h).2)
  found c (excl x) h = tt

  pub check_complete : Consistent (graph K) → T (is_consistent K)
  unfolding is_consistent
  check_complete c =
      both_and (not (clashes K)) (all each K && has K (cl 0)) (not_T (clashes K) (clash_none K (graph K) (forbids (graph K) c)
      (λ f h. h)))
      (both_and (all each K) (has K (cl 0))
      (in_all each K (λ f h. both_and (all (has K) (needs K f)) (exists_for K f)
      (in_all (has K) (needs K f) (λ g m. in_has K g (needs_in K (graph K) (demands (graph K) c) (λ f h. h) f h g m)))
      (found c f h)))
      (in_has K (cl 0) c.rule_h1))
