-- A table cut to its facts: for callers that have a table and the number of its facts, and pass the words up to there.
-- Assumes nothing.
use Prim.Native.Nat.{ℕ, ◌≤◌}
use mathlib.Core.Path.{◌≡◌, sym, ap, subst, ◌∙◌}
use mathlib.Core.Bool.{not}
use mathlib.Core.List.{List, map, append-nil}
use native.Mathlib.Omega.{arith}
use lib.Dec.{T, eqb}
use lib.ListN.{length, take}
use lib.Seq.{length-take-le}
use Rattle.rdfs.specs.Numbers.{product}
use Rattle.rdfs.specs.Lists.{Ascending}
use Rattle.rdfs.specs.Facts.{Fact, has}
use Rattle.rdfs.specs.Words.{fact, laid_out, filled}
use Rattle.rdfs.proofs.Lists.Tests.{differs}
use Rattle.rdfs.proofs.Lists.Filters.{filter_all}
use Rattle.rdfs.proofs.Words.LaidOut.{fact_some, shape_laid, laid_is_fact, laid_ascending}
use Rattle.rdfs.proofs.Theorems.{product_sound}
use Rattle.table.specs.Counted.{Counted, Full, facts_of}
use Rattle.table.proofs.CountedLaws.{counted_first, counted_search}

module _ {t : List ℕ} {n : ℕ} (c : Counted t n) where
  pub cut_within : n ≤ length t
  cut_within = (counted_search c).0

  pub cut_length : n ≡ length (take n t)
  cut_length = sym (length-take-le n t cut_within)

  pub cut_ascending : Ascending (take n t)
  cut_ascending = (counted_search c).1

  -- None of its words is a zero.
  words_stay : filled (filled t) ≡ filled t
  words_stay = filter_all (λ w. not (eqb w 0)) (filled t)
      (λ w h. differs w 0 (λ e. omega (arith, e, fact_some product product_sound w (laid_is_fact product t c.laid w h))))

  pub cut_filled : filled (take n t) ≡ filled t
  cut_filled = ap filled (counted_first c) ∙ words_stay

  pub cut_facts : facts_of (take n t) ≡ facts_of t
  cut_facts = ap (map (fact product.base)) cut_filled

  pub cut_full : Full (take n t)
  cut_full = record {
    laid = subst (λ l. T (laid_out product 1 l)) (append-nil (filled t) ∙ sym (counted_first c)) (shape_laid product product_sound
        (filled t) 0 (laid_ascending product t c.laid) (laid_is_fact product t c.laid));
    size = ap length (counted_first c ∙ sym cut_filled);
  }

  -- So a lookup among them is one in the table.
  pub cut_has : (f : Fact) → has (facts_of (take n t)) f ≡ has (facts_of t) f
  cut_has f = ap (λ K. has K f) cut_facts
