-- The words of a table before its zeros, and where each span of them starts. A span is the words of one kind
-- and one first id.
use Rattle.std.specs.Prelude.{ℕ, suc, ◌+◌, ◌-◌, ◌*◌, ◌≤◌, ◌<◌, ◌≡◌, List, length, get_or, drop}
use Rattle.rdfs.specs.Numbers.{product, kind_count}
use Rattle.table.specs.Parts.{kind_of, first_of, second_of, third_of, Shaped, Allowed}

-- How many ids there are, and how many spans: one for each kind and first id.
abbrev pub id_count : ℕ
id_count = suc product.top

abbrev pub span_count : ℕ
span_count = kind_count * id_count

-- The number of a span, by its kind and first id; a word's span.
abbrev pub span_at : ℕ → ℕ → ℕ
span_at k a = k * id_count + a

abbrev pub span_of : ℕ → ℕ
span_of word = span_at (kind_of word) (first_of word)

-- A span's place in an index of spans. The first spans are those of kind 1.
abbrev pub entry_of : ℕ → ℕ
entry_of span = span - id_count

-- The number is that of a span.
abbrev pub IsSpan : ℕ → Type 0
IsSpan span = (id_count ≤ span) × (entry_of span < span_count)

abbrev pub at : List ℕ → ℕ → ℕ
at l i = get_or l i 0

-- A word is among the words.
abbrev pub Has : List ℕ → ℕ → Type 0
Has table word = (i : ℕ) × (i < length table) × (at table i ≡ word)

-- The word of a fact.
pub record FactWord (word : ℕ) : Type 0 where
  pub shaped : Shaped (kind_of word) (second_of word) (third_of word)
  pub allowed : Allowed product.top (kind_of word) (first_of word) (second_of word) (third_of word)

-- Words of facts, ascending, none twice.
pub record FactWords (table : List ℕ) : Type 0 where
  pub ascending : (i j : ℕ) → i < j → j < length table → at table i < at table j
  pub facts : (i : ℕ) → i < length table → FactWord (at table i)

-- The words before a place are below a word.
abbrev pub Before : List ℕ → ℕ → ℕ → Type 0
Before table place word = (i : ℕ) → i < place → at table i < word

-- A place that is not past that of a word: the words before it are below the word.
pub record NotPast (table : List ℕ) (place word : ℕ) : Type 0 where
  pub within : place ≤ length table
  pub before : Before table place word

-- The place is the number of words below a word.
pub record Below (table : List ℕ) (word place : ℕ) : Type 0 where
  pub within : place ≤ length table
  pub before : Before table place word
  pub after : (i : ℕ) → place ≤ i → i < length table → word ≤ at table i

-- The index has a place for each span: no word of the span stands before it, and one of its words stands
-- there if it has any.
pub record Index (table index : List ℕ) : Type 0 where
  pub spans : length index ≡ span_count
  pub before : (span i : ℕ) → IsSpan span → i < at index (entry_of span) → span_of (at table i) < span
  pub start : (i : ℕ) → i < length table → (at index (entry_of (span_of (at table i))) < length table)
      × (span_of (at table (at index (entry_of (span_of (at table i))))) ≡ span_of (at table i))

-- What an index is filled from: words of facts, no more than an index can count, and an index of zeros.
pub record Fillable (table index : List ℕ) : Type 0 where
  pub words : FactWords table
  pub few : length table ≤ 65536
  pub spans : length index ≡ span_count
  pub zeros : (i : ℕ) → at index i ≡ 0

-- The words of a table, no more than a table has, with the index of their spans.
pub record Indexed (table index : List ℕ) : Type 0 where
  pub words : FactWords table
  pub few : length table ≤ product.most
  pub starts : Index table index

-- The place is that of the first word of a span, or the number of words if the span has none.
pub record SpanStart (table : List ℕ) (span place : ℕ) : Type 0 where
  pub within : place ≤ length table
  pub here : place < length table → span_of (at table place) ≡ span
  pub before : place < length table → (i : ℕ) → i < place → span_of (at table i) < span
  pub none : length table ≤ place → (i : ℕ) → i < length table → span_of (at table i) ≡ span → ⊥

-- The words from the first of a span on; none, if the span has none.
pub record FromSpan (table : List ℕ) (span : ℕ) (words : List ℕ) : Type 0 where
  pub place : ℕ
  pub start : SpanStart table span place
  pub rest : words ≡ drop place table
