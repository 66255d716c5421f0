-- The words of a table that is laid out are words of facts, and their graph is that of the table's facts. Assumes nothing.
use Prim.Native.Nat.{ℕ, ◌≤◌}
use mathlib.Core.Path.{◌≡◌, refl, sym, subst}
use mathlib.Core.List.{List}
use native.Mathlib.Omega.{arith}
use lib.Dec.{T}
use lib.ListN.{length, take}
use lib.Seq.{length-take-le}
use Rattle.rdfs.specs.Numbers.{product}
use Rattle.rdfs.specs.Lists.{◌∈◌}
use Rattle.rdfs.specs.Facts.{graph, ◌⊑◌}
use Rattle.rdfs.specs.Words.{fact, is_fact, laid_out, filled, facts}
use Rattle.rdfs.proofs.Lists.ListLaws.{map_in}
use Rattle.rdfs.proofs.Words.Digits.{fact_word}
use Rattle.rdfs.proofs.Words.LaidOut.{laid_is_fact, laid_ascending, laid_allowed, laid_word_in}
use Rattle.rdfs.proofs.Words.Allowed.{fields}
use Rattle.table.proofs.PartLaws.{tests_fact}
use Rattle.table.proofs.Filled.{at_in, counted_filled, counted_ascending}
use Rattle.spans.specs.Spans.{at, FactWord, FactWords}
use Rattle.spans.specs.Graphs.{graph_of}
use Rattle.consistency.proofs.Listed.{in_has, has_in, ascending_rises}

module _ (table : List ℕ) (laid : T (laid_out product 1 table)) where
  pub filled_words : FactWords (filled table)
  filled_words = record {
    ascending = ascending_rises (filled table) (laid_ascending product table laid);
    facts = λ i h. of_parts (at (filled table) i) (laid_is_fact product table laid (at (filled table) i) (at_in
        (filled table) i h));
  }
    where
      of_parts : (x : ℕ) → T (is_fact product x) → FactWord x
      of_parts x h = let p = (tests_fact x _ _ _ _ refl refl refl refl).sound h in record { shaped = p.0; allowed = p.1 }

  -- The first words, as many as there are facts.
  pub counted_words : (n : ℕ) → n ≡ length (filled table) → length table ≤ product.most → FactWords (take n table)
      × (length (take n table) ≤ product.most)
  counted_words n e h =
      let within : n ≤ length table = (counted_ascending product table laid n e).0 in
      (subst FactWords (sym (counted_filled product table laid n e)) filled_words, omega (arith, length-take-le n table within))

  pub filled_within : ◌⊑◌ (graph_of (filled table)) (graph (facts product table))
  filled_within f ((a, b, c), h) =
      subst (λ g. g ∈ facts product table) (fact_word product.base f (record {
        one = omega arith;
        two = omega arith;
        three = omega arith;
      }))
      (map_in (fact product.base) {l = filled table} (has_in h))

  pub facts_within : ◌⊑◌ (graph (facts product table)) (graph_of (filled table))
  facts_within f h =
      let p = fields product.top f (laid_allowed product table laid f h) in
      ((p.one, p.two, p.three), in_has (laid_word_in product table laid f h))
