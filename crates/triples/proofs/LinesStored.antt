-- The words of a text's lines stored in a table, line by line. Assumes nothing.
use Prim.Native.Nat.{ℕ, ◌<◌}
use mathlib.Core.Path.{ap, subst, ◌∙◌}
use mathlib.Core.Bool.{Bool}
use mathlib.Core.List.{List, [], ◌∷◌, map}
use lib.Dec.{T}
use lib.ListN.{length}
use Rattle.rdfs.specs.Numbers.{product}
use Rattle.rdfs.specs.Words.{word, filled}
use Rattle.table.specs.Counted.{Counted}
use Rattle.triple_form.specs.LineRead.{LineRead, NoLine}
use Rattle.triples.specs.TextRead.{lines_read, all_inside}
use Rattle.triples.specs.Storing.{put_all, Grown, line_words}
use Rattle.triples.proofs.LinesRead.{top, lines_read_none}
use Rattle.triples.proofs.Pending.{Pending, pending_start, pending_as, pending_more, pending_full, pending_done}
use Rattle.triples.proofs.LinesLeft.{at_end, line_inside, line_words_lem}

-- The lines that are left are inside the profile, and their words are still to be stored.
pub record LinesPending (before text table left : List ℕ) (count : ℕ) : Type 0 where
  pub inside : T (all_inside top left)
  pub pending : Pending before (line_words text) (line_words left) table count

pub lines_start : {t text : List ℕ} {n : ℕ} → Counted t n → T (all_inside top text) → LinesPending t text t text n
lines_start {text = text} c h = record { inside = h; pending = pending_start (line_words text) c }

module _ {before text table left : List ℕ} {count : ℕ} (p : LinesPending before text table left count) where
  module _ {w : ℕ} {literal : Bool} {next : List ℕ} (r : LineRead left w literal next) where
    first : Pending before (line_words text) (w ∷ line_words next) table count
    first = pending_as (line_words_lem r) p.pending

    pub lines_more : {after : List ℕ} {total : ℕ} → Grown table (w ∷ []) after total
        → LinesPending before text after next total
    lines_more g = record {
      inside = subst T (line_inside r) p.inside;
      pending = pending_more (w ∷ []) (line_words next) first g;
    }

    pub lines_full : length table < length (put_all (w ∷ []) (filled table))
        → length before < length (put_all (line_words text) (filled before))
    lines_full l = pending_full (w ∷ []) (line_words next) first l

  pub lines_done : NoLine left → Grown before (line_words text) table count
  lines_done n = pending_done (pending_as (ap (map (λ x. word product.base x.fact))
      (ap (lines_read top) (at_end n p.inside) ∙ lines_read_none)) p.pending)
