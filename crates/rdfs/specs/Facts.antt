-- Facts, by kind and ids. Ids are numbers with no bound: the highest id and a word's base enter in `Words`.
use Rattle.std.specs.Prelude.{ℕ, Bool, ◌&&◌, cond, List, [], ◌∷◌, eqb, get_or}
use Rattle.rdfs.specs.Lists.{◌∈◌, any}

-- Cl, Pr, Ind, Lit and Excl of a; CSub(a,b), PSub(a,b), Dom(a,b), Rng(a,b), CI(a,b); PI(a,b,c).
pub data Fact : Type 0 where
  cl pr ind lit excl : ℕ → Fact
  csub psub dom rng ci : ℕ → ℕ → Fact
  pi : ℕ → ℕ → ℕ → Fact

-- The number of document 01, for Excl of 02, for the kind of a fact.
abbrev pub kind : Fact → ℕ
kind (cl a) = 1
kind (pr a) = 2
kind (ind a) = 3
kind (lit a) = 4
kind (csub a b) = 5
kind (psub a b) = 6
kind (dom a b) = 7
kind (rng a b) = 8
kind (ci a b) = 9
kind (pi a b c) = 10
kind (excl a) = 11

abbrev pub ids : Fact → List ℕ
ids (cl a) = a ∷ []
ids (pr a) = a ∷ []
ids (ind a) = a ∷ []
ids (lit a) = a ∷ []
ids (csub a b) = a ∷ b ∷ []
ids (psub a b) = a ∷ b ∷ []
ids (dom a b) = a ∷ b ∷ []
ids (rng a b) = a ∷ b ∷ []
ids (ci a b) = a ∷ b ∷ []
ids (pi a b c) = a ∷ b ∷ c ∷ []
ids (excl a) = a ∷ []

-- The ids a, b and c of a fact, 0 where it has fewer.
abbrev pub first : Fact → ℕ
first f = get_or (ids f) 0 0

abbrev pub second : Fact → ℕ
second f = get_or (ids f) 1 0

abbrev pub third : Fact → ℕ
third f = get_or (ids f) 2 0

-- The fact of a kind and its ids; a number that is no kind is taken for 10.
abbrev pub made : ℕ → ℕ → ℕ → ℕ → Fact
made k a b c =
    cond (eqb k 1) (cl a) (cond (eqb k 2) (pr a) (cond (eqb k 3) (ind a) (cond (eqb k 4) (lit a)
    (cond (eqb k 5) (csub a b) (cond (eqb k 6) (psub a b) (cond (eqb k 7) (dom a b) (cond (eqb k 8) (rng a b)
    (cond (eqb k 9) (ci a b) (cond (eqb k 11) (excl a) (pi a b c))))))))))

abbrev pub same : Fact → Fact → Bool
same f g = eqb (kind f) (kind g) && (eqb (first f) (first g) && (eqb (second f) (second g) && eqb (third f)
    (third g)))

abbrev pub has : List Fact → Fact → Bool
has K f = any (same f) K

-- A graph, as far as the rules go: which facts stand in it.
abbrev pub Graph : Type 1
Graph = Fact → Type 0

-- G lies within H.
abbrev pub ◌⊑◌ : Graph → Graph → Type 0
◌⊑◌ G H = (f : Fact) → G f → H f

abbrev pub graph : List Fact → Graph
graph K f = f ∈ K
