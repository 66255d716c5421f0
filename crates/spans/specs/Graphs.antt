-- The graph of the words of a table, and the facts of one kind and one first id.
use Rattle.std.specs.Prelude.{ℕ, ◌<◌, ◌≡◌, cond, List, eqb, length, Option, Some, None}
use Rattle.rdfs.specs.Facts.{Graph, kind, first, second, third}
use Rattle.table.specs.Parts.{kind_of, first_of, second_of, third_of, word_of}
use Rattle.table.specs.Counted.{Id}
use Rattle.spans.specs.Spans.{at, Has}

-- The fact of kind k with the ids a, b, c is among the words.
abbrev pub Stands : List ℕ → ℕ → ℕ → ℕ → ℕ → Type 0
Stands table k a b c = (Id a × Id b × Id c) × Has table (word_of k a b c)

-- `graph_of table (csub a b)` is `Stands table 5 a b 0`, and so for each kind.
abbrev pub graph_of : List ℕ → Graph
graph_of table f = Stands table (kind f) (first f) (second f) (third f)

-- Each word of kind k has ids with Q.
abbrev pub Each : List ℕ → ℕ → (ℕ → ℕ → ℕ → Type 0) → Type 0
Each table k Q = (i : ℕ) → i < length table → kind_of (at table i) ≡ k
    → Q (first_of (at table i)) (second_of (at table i)) (third_of (at table i))

-- The last id of a fact of kind k, which has two ids or three.
abbrev pub last_of : ℕ → ℕ → ℕ → ℕ
last_of k b c = cond (eqb k 10) c b

-- What the last id of a fact of kind k with the ids a, b, c has by kind l, a has by kind m.
abbrev pub Carried : List ℕ → ℕ → ℕ → ℕ → ℕ → ℕ → ℕ → Type 0
Carried table k m l a b c = (z : ℕ) → Stands table l (last_of k b c) z 0 → Stands table m a z 0

-- What y has by kind l, x has by kind k, if x has y by kind k.
abbrev pub Carries : List ℕ → ℕ → ℕ → Type 0
Carries table k l = (x y z : ℕ) → Stands table k x y 0 → Stands table l y z 0 → Stands table k x z 0

-- a has the value b for each property over c.
abbrev pub Inherited : List ℕ → ℕ → ℕ → ℕ → Type 0
Inherited table a b c = (z : ℕ) → Stands table 6 c z 0 → Stands table 10 a b z

-- An id has at most one fact of kind k.
abbrev pub Single : List ℕ → ℕ → Type 0
Single table k = (x y z : ℕ) → Stands table k x y 0 → Stands table k x z 0 → y ≡ z

-- b is the second id of a's only fact of kind k.
pub record Only (table : List ℕ) (k a b : ℕ) : Type 0 where
  pub some : Stands table k a b 0
  pub all : (z : ℕ) → Stands table k a z 0 → z ≡ b

-- That id, or that there is none.
abbrev pub OnlySecond : List ℕ → ℕ → ℕ → Option ℕ → Type 0
OnlySecond table k a (Some b) = Only table k a b
OnlySecond table k a None = (z : ℕ) → Stands table k a z 0 → ⊥
