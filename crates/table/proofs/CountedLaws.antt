-- A table that is laid out, with the number of its facts: its first words are the facts', ascending. Assumes nothing.
use Prim.Native.Nat.{ℕ, ◌≤◌, ◌<◌}
use mathlib.Core.Path.{◌≡◌, sym, ap, subst, ◌∙◌}
use mathlib.Core.List.{List}
use native.Mathlib.Omega.{arith}
use lib.Dec.{T}
use lib.ListN.{length, get_or, take}
use lib.Seq.{get_or-take, take_all}
use Rattle.rdfs.specs.Numbers.{product}
use Rattle.rdfs.specs.Lists.{◌∈◌, Ascending}
use Rattle.rdfs.specs.Words.{is_fact, filled}
use Rattle.rdfs.proofs.Words.LaidOut.{laid_is_fact, laid_ascending}
use Rattle.table.specs.Counted.{Counted, Full}
use Rattle.table.proofs.Filled.{at_in, counted_filled, counted_ascending}

module _ {t : List ℕ} {n : ℕ} (c : Counted t n) where
  pub counted_first : take n t ≡ filled t
  counted_first = counted_filled product t c.laid n c.size

  -- So a search in them is possible.
  pub counted_search : (n ≤ length t) × Ascending (take n t)
  counted_search = counted_ascending product t c.laid n c.size

  -- The word at a place before n is one of the facts'.
  module _ (i : ℕ) (h : i < n) where
    pub counted_at : get_or (filled t) i 0 ≡ get_or t i 0
    counted_at = ap (λ l. get_or l i 0) (sym counted_first) ∙ get_or-take n t i 0 h

    pub counted_in : get_or t i 0 ∈ filled t
    counted_in = subst (λ w. w ∈ filled t) counted_at (at_in (filled t) i (omega (arith, c.size)))

    pub counted_fact : T (is_fact product (get_or t i 0))
    counted_fact = laid_is_fact product t c.laid (get_or t i 0) counted_in

-- Facts with nothing after them.
module _ {l : List ℕ} (q : Full l) where
  pub full_filled : l ≡ filled l
  full_filled = sym (take_all (length l) l (omega arith)) ∙ counted_first q

  pub full_ascending : Ascending l
  full_ascending = subst Ascending (sym full_filled) (laid_ascending product l q.laid)
