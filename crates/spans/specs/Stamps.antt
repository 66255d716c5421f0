-- Stamps for the second ids of a span: a place for each id, which has the span's number if the span has that
-- id.
use Rattle.std.specs.Prelude.{ℕ, ◌≤◌, ◌<◌, ◌≡◌, List, length}
use Rattle.table.specs.Parts.{second_of}
use Rattle.spans.specs.Spans.{id_count, IsSpan, span_of, at}
use Rattle.spans.specs.Sought.{Kind, TwoIds}

-- The span has a word with z as its second id.
abbrev pub InSpan : List ℕ → ℕ → ℕ → Type 0
InSpan table span z =
    (i : ℕ) × (i < length table) × (span_of (at table i) ≡ span) × (second_of (at table i) ≡ z)

-- Each second id of the span has the stamp.
abbrev pub AllStamped : List ℕ → List ℕ → ℕ → ℕ → Type 0
AllStamped table stamps stamp span = (i : ℕ) → i < length table → span_of (at table i) ≡ span
    → at stamps (second_of (at table i)) ≡ stamp

-- The second ids of the span, and no others, have its number; no stamp is higher.
pub record Stamped (table stamps : List ℕ) (span : ℕ) : Type 0 where
  pub ids : length stamps ≡ id_count
  pub most : (z : ℕ) → at stamps z ≤ span
  pub all : AllStamped table stamps span span
  pub only : (z : ℕ) → at stamps z ≡ span → InSpan table span z

-- No stamp is the span's number or higher.
abbrev pub AllLower : List ℕ → ℕ → Type 0
AllLower stamps span = (z : ℕ) → at stamps z < span

-- A span, and a stamp for each id.
pub record Stampable (stamps : List ℕ) (span : ℕ) : Type 0 where
  pub counted : IsSpan span
  pub ids : length stamps ≡ id_count

-- The stamps are at most that of the last span, which does not come after this one.
pub record StampedUpTo (table stamps : List ℕ) (last span : ℕ) : Type 0 where
  pub order : last ≤ span
  pub most : (z : ℕ) → at stamps z ≤ last
  pub same : last ≡ span → Stamped table stamps span

-- A kind to go through, and two kinds with two ids.
pub record Carriable (k m l : ℕ) : Type 0 where
  pub kind : Kind k
  pub upper : TwoIds m
  pub lower : TwoIds l
