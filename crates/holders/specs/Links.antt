-- Links from word to word of one property's values. A link is one more than a place; 0 leads nowhere.
use Rattle.std.specs.Prelude.{ℕ, ◌+◌, ◌-◌, ◌≤◌, ◌<◌, ◌≡◌, List, length}
use Rattle.rdfs.specs.Numbers.{product}
use Rattle.spans.specs.Spans.{id_count, at, FactWords}
use Rattle.holders.specs.Values.{ValueAt}

-- The link leads to the last value of property z before place `end`, or nowhere if there is none.
pub record LinkTo (table : List ℕ) (z end link : ℕ) : Type 0 where
  pub within : link ≤ end
  pub here : 0 < link → ValueAt table z (link - 1)
  pub past : (i : ℕ) → link ≤ i → i < end → ValueAt table z i → ⊥

-- The place of property z's link, after those of the words.
abbrev pub latest_at : ℕ → ℕ
latest_at z = product.most + z

-- A place for each word, and one for each id.
pub record Linkable (table links : List ℕ) : Type 0 where
  pub words : FactWords table
  pub few : length table ≤ product.most
  pub places : length links ≡ latest_at id_count

-- No property has a link yet.
abbrev pub NoneLinked : List ℕ → Type 0
NoneLinked links = (z : ℕ) → at links (latest_at z) ≡ 0

-- Each property has the link to its last value, and each value the link to the one of the same property
-- before it.
pub record Linked (table links : List ℕ) : Type 0 where
  pub linkable : Linkable table links
  pub last : (z : ℕ) → LinkTo table z (length table) (at links (latest_at z))
  pub next : (z i : ℕ) → ValueAt table z i → LinkTo table z i (at links i)
