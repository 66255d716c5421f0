-- `count_met` meets its contract: the rules are visited on the table's words before its zeros, whose graph is the table's; E2
-- comes last. Assumes nothing.
use Prim.Native.Nat.{ℕ}
use mathlib.Core.Path.{◌≡◌, sym, subst}
use mathlib.Core.List.{List}
use lib.Dec.{T}
use lib.ListN.{length, take}
use lib.Seq.{length-take-le}
use Rattle.rdfs.specs.Numbers.{product}
use Rattle.rdfs.specs.Facts.{graph}
use Rattle.rdfs.specs.Rules.{Meets, e2}
use Rattle.rdfs.specs.Words.{laid_out, filled, facts}
use Rattle.table.specs.Answers.{Decides}
use Rattle.table.proofs.Filled.{counted_filled, counted_ascending}
use Rattle.spans.specs.Graphs.{graph_of}
use Rattle.consistency.specs.Order.{rules_in_order, MetFirst}
use Rattle.consistency.proofs.Same.{met_same}
use Rattle.consistency.proofs.Linked.{counted_words, filled_within, facts_within}
use Rattle.consistency.proofs.Visiting.{indexed_stops, indexed_ends, indexed_breaks}
use Rattle.consistency.proofs.count_met.Goals as goal

-- What is met of the words is met of the table's facts.
of-table : (table : List ℕ) → T (laid_out product 1 table) → (n m : ℕ) → n ≡ length (filled table)
    → MetFirst (graph_of (take n table)) rules_in_order m → MetFirst (graph (facts product table)) rules_in_order m
of-table table laid n m e h =
    met_same (graph_of (filled table)) (graph (facts product table)) (filled_within table laid) (facts_within table laid)
    (subst (λ l. MetFirst (graph_of l) rules_in_order m) (counted_filled product table laid n e) h)

pub slice_bounds-words-end : goal.slice_bounds-words-end
slice_bounds-words-end c =
    sym (length-take-le c.count_facts-count.result c.args.table.now
    (counted_ascending product c.args.table.now c.requires.layout _ c.count_facts-count.ensures.answer).0)

pub count_indexed-met-requires-clause-words : goal.count_indexed-met-requires-clause-words
count_indexed-met-requires-clause-words c =
    (counted_words c.args.table.now c.requires.layout _ c.count_facts-count.ensures.answer c.requires.size).0

pub returns-then-met-lt-INDEXED : goal.returns-then-met-lt-INDEXED
returns-then-met-lt-INDEXED c =
    record {
      answer = of-table c.args.table.now c.requires.layout _ _ c.count_facts-count.ensures.answer
          (indexed_stops _ c.count_indexed-met.ensures.answer c.if-met-lt-INDEXED.true);
    }

pub all_exclusive-requires-clause-words : goal.all_exclusive-requires-clause-words
all_exclusive-requires-clause-words c =
    (counted_words c.args.table.now c.requires.layout _ c.count_facts-count.ensures.answer c.requires.size).0

pub returns-then-all_exclusive : goal.returns-then-all_exclusive
returns-then-all_exclusive c =
    record {
      answer = let G = graph_of (take c.count_facts-count.result c.args.table.now) in
          of-table c.args.table.now c.requires.layout _ _ c.count_facts-count.ensures.answer
          (indexed_ends G c.count_indexed-met.ensures.answer c.if-met-lt-INDEXED.false
          (subst (λ b. Decides b (Meets G e2)) c.if-all_exclusive.true c.all_exclusive.ensures.answer));
    }

pub returns : goal.returns
returns c =
    record {
      answer = let G = graph_of (take c.count_facts-count.result c.args.table.now) in
          of-table c.args.table.now c.requires.layout _ _ c.count_facts-count.ensures.answer
          (indexed_breaks G c.count_indexed-met.ensures.answer c.if-met-lt-INDEXED.false
          (subst (λ b. Decides b (Meets G e2)) c.if-all_exclusive.false c.all_exclusive.ensures.answer));
    }
