-- What the tests of single rules ask of the ids of a fact.
use Rattle.std.specs.Prelude.{ℕ, ◌≡◌, ◌⊎◌}
use Rattle.rdfs.specs.Facts.{Graph, cl, pr, ind, lit, csub, dom, rng, ci}

-- Rule 10, of Rng(a,b).
abbrev pub RangeRoles : Graph → ℕ → ℕ → Type 0
RangeRoles G a b = G (pr a) × ((b ≡ 1 → ⊥) → G (cl b))

-- Rule 12, of PI(a,b,c).
abbrev pub ValueRoles : Graph → ℕ → ℕ → ℕ → Type 0
ValueRoles G a b c = G (ind a) × G (pr c) × (G (ind b) ⊎ G (lit b))

-- Rule 13, of Cl(a).
abbrev pub UnderResource : Graph → ℕ → Type 0
UnderResource G a = (a ≡ 0 → ⊥) → G (csub a 0)

-- Rule H2, of Lit(a).
abbrev pub LiteralOnly : Graph → ℕ → Type 0
LiteralOnly G a = (G (cl a) → ⊥) × (G (pr a) → ⊥) × (G (ind a) → ⊥)

-- Rule 15, of Pr(a).
abbrev pub DomainAndRange : Graph → ℕ → Type 0
DomainAndRange G a = ((y : ℕ) × G (dom a y)) × ((z : ℕ) × G (rng a z))

-- Rules 22, 23 and H4, of PSub(a,b).
abbrev pub LinkedDomains : Graph → ℕ → ℕ → Type 0
LinkedDomains G a b = (y z : ℕ) → G (dom a y) → G (dom b z) → (y ≡ z → ⊥) → G (csub y z)

abbrev pub LinkedRanges : Graph → ℕ → ℕ → Type 0
LinkedRanges G a b = (y z : ℕ) → G (rng a y) → G (rng b z) → (y ≡ z → ⊥) → (y ≡ 1 → ⊥) → (z ≡ 1 → ⊥)
    → G (csub y z)

abbrev pub LikeRanges : Graph → ℕ → ℕ → Type 0
LikeRanges G a b = (y z : ℕ) → G (rng a y) → G (rng b z) → (y ≡ 1 → z ≡ 1) × (z ≡ 1 → y ≡ 1)

-- Rules 25 and H3, of PI(a,b,c).
abbrev pub ObjectMember : Graph → ℕ → ℕ → Type 0
ObjectMember G b c = (z : ℕ) → G (rng c z) → (z ≡ 1 → ⊥) → G (ci b z)

abbrev pub ObjectLiteral : Graph → ℕ → ℕ → Type 0
ObjectLiteral G b c = G (rng c 1) → G (lit b)
