-- One pass over a span and over the words that it is looked for in, and words that stand together.
use Rattle.std.specs.Prelude.{ℕ, ◌+◌, ◌-◌, ◌≤◌, ◌<◌, ◌≡◌, List, length}
use Rattle.rdfs.specs.Numbers.{product, kind_count}
use Rattle.table.specs.Parts.{kind_of, second_of, third_of, word_of}
use Rattle.spans.specs.Spans.{
  IsSpan,
  span_of,
  at,
  Has,
  FactWord,
  FactWords,
  Before,
  NotPast,
}

-- The second id of each word of a span, upon a base, is among the words.
abbrev pub Covered : List ℕ → ℕ → ℕ → Type 0
Covered table span base = (i : ℕ) → i < length table → span_of (at table i) ≡ span
    → Has table (base + second_of (at table i))

-- What such a pass is given: a span, a base that leaves room for an id, a place that is not past the base's.
pub record Coverable (table : List ℕ) (span from base : ℕ) : Type 0 where
  pub counted : IsSpan span
  pub place : NotPast table from base
  pub room : base ≤ word_of kind_count product.top product.top 0

-- The word with 0 as its third id.
abbrev pub group_of : ℕ → ℕ
group_of word = word - third_of word

-- `group` is the place of the first word that has the kind and the first two ids of the word at a place.
pub record GroupStart (table : List ℕ) (place group : ℕ) : Type 0 where
  pub within : group ≤ place
  pub same : group_of (at table group) ≡ group_of (at table place)
  pub before : Before table group (group_of (at table place))

-- The same for the word before a place, if there is one that counts.
pub record GroupSoFar (table : List ℕ) (place group : ℕ) : Type 0 where
  pub words : FactWords table
  pub here : place < length table
  pub within : group ≤ place
  pub last : group < place → GroupStart table (place - 1) group
  pub first : group ≡ place → Before table place (group_of (at table place))

-- The word of a value, and a place that is not past the first with its subject and object.
pub record ValueWord (table : List ℕ) (group word : ℕ) : Type 0 where
  pub fact : FactWord word
  pub value : kind_of word ≡ 10
  pub place : NotPast table group (group_of word)

-- The words of kind k, as they stand together: ascending, and all that the table has.
pub record OfKind (table : List ℕ) (k : ℕ) (words : List ℕ) : Type 0 where
  pub facts : FactWords words
  pub here : (i : ℕ) → i < length words → (kind_of (at words i) ≡ k) × Has table (at words i)
  pub all : (i : ℕ) → i < length table → kind_of (at table i) ≡ k → Has words (at table i)
