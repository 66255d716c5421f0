-- What the rules forbid, and the decision of consistency.
use Rattle.std.specs.Prelude.{ℕ, Bool, true, false, not, ◌&&◌, ◌||◌, cond, List, [], ◌∷◌, eqb}
use Rattle.rdfs.specs.Lists.{all, any}
use Rattle.rdfs.specs.Facts.{
  Fact,
  cl,
  pr,
  ind,
  lit,
  csub,
  psub,
  dom,
  rng,
  ci,
  pi,
  excl,
  kind,
  first,
  second,
  has,
}
use Rattle.rdfs.specs.Demands.{with_a, with_c, needs}

-- The facts that may not stand beside one: rules 4, 5, 6, H2, 19, 21.
unfoldable pub bars : Fact → List Fact
bars (cl x) = pr x ∷ ind x ∷ lit x ∷ []
bars (pr x) = ind x ∷ lit x ∷ []
bars (ind x) = lit x ∷ []
bars (lit x) = []
bars (csub x y) = csub y x ∷ []
bars (psub x y) = psub y x ∷ []
bars (dom x y) = []
bars (rng x y) = []
bars (ci x y) = []
bars (pi x y z) = []
bars (excl x) = []

-- Exactly one is the mark.
abbrev pub mixed : ℕ → ℕ → Bool
mixed z w = (eqb z 1 && not (eqb w 1)) || (not (eqb z 1) && eqb w 1)

-- Another individual than x has the value y through z.
abbrev pub held_by_other : List Fact → ℕ → ℕ → ℕ → Bool
held_by_other K x y z = any (λ f. eqb (second f) y && not (eqb (first f) x)) (with_c K 10 z)

-- Two individuals have one value through z.
abbrev pub two_holders : List Fact → ℕ → Bool
two_holders K z = any (λ f. held_by_other K (first f) (second f) z) (with_c K 10 z)

-- Facts of K that may not stand beside one by their ids: H4; 16 and 17; E2.
unfoldable pub unequal : List Fact → Fact → Bool
unequal K f =
    cond (eqb (kind f) 6)
    (any (λ lower. any (λ upper. mixed (second lower) (second upper)) (with_a K 8 (second f)))
    (with_a K 8 (first f)))
    (cond (eqb (kind f) 7 || eqb (kind f) 8)
    (any (λ g. not (eqb (second f) (second g))) (with_a K (kind f) (first f)))
    (cond (eqb (kind f) 11) (two_holders K (first f)) false))

abbrev pub clash : List Fact → Fact → Bool
clash K f = any (has K) (bars f) || unequal K f

-- A rule that only forbids is broken.
abbrev pub clashes : List Fact → Bool
clashes K = any (clash K) K

-- Rule 15, and the object of rule 12.
unfoldable pub exists_for : List Fact → Fact → Bool
exists_for K f =
    cond (eqb (kind f) 2) (any (λ g. true) (with_a K 7 (first f)) && any (λ g. true) (with_a K 8 (first f)))
    (cond (eqb (kind f) 10) (has K (ind (second f)) || has K (lit (second f))) true)

-- Whether the facts of a list are a consistent graph.
unfoldable pub is_consistent : List Fact → Bool
is_consistent K = not (clashes K) && (all (λ f. all (has K) (needs K f) && exists_for K f) K && has K (cl 0))
