-- A text that reading refuses with 3 is inside the profile and its words fit, so stored after all they are a table that is laid
-- out, and the rules that the table meets are those of the text's graph. Assumes nothing.
use Prim.Native.Nat.{ℕ, ◌+◌, ◌≤◌}
use mathlib.Core.Path.{◌≡◌, sym, ap, subst, ◌∙◌}
use mathlib.Core.Bool.{false, not}
use mathlib.Core.List.{List, map}
use native.Mathlib.Omega.{arith}
use native.Mathlib.Numerals.{add-one}
use lib.Dec.{T, eqb, ltb}
use lib.ListN.{length}
use borrow.Author.Tests.{ltb-false, le-ltb}
use Rattle.rdfs.specs.Numbers.{product}
use Rattle.rdfs.specs.Lists.{◌∈◌, concat_map}
use Rattle.rdfs.specs.Facts.{Fact, graph}
use Rattle.rdfs.specs.Words.{fact, allowed, laid_out, filled, facts, words, padded}
use Rattle.rdfs.specs.Clashes.{is_consistent}
use Rattle.rdfs.specs.Refusals.{or_else, bad_size, inconsistent}
use Rattle.rdfs.proofs.Lists.ListLaws.{in_filter}
use Rattle.rdfs.proofs.Lists.Filters.{filter_all}
use Rattle.rdfs.proofs.Words.Tables.{padded_length, filled_padded, laid_padded}
use Rattle.rdfs.proofs.Tickets.FirstTrue.{passed_link}
use Rattle.rdfs.proofs.Theorems.{product_sound}
use Rattle.table.specs.Counted.{facts_of}
use Rattle.table.proofs.TestAnswers.{is_false}
use Rattle.consistency.specs.Order.{rules_in_order, MetFirst}
use Rattle.triples.specs.TextRead.{outside_profile, lines_read, given, text_words}
use Rattle.triples.specs.ReadTriples.{text_refusal, read_triples_answer}
use Rattle.triples.proofs.LinesRead.{read_profile}
use Rattle.triples.proofs.ReadFacts.{given_allowed}
use Rattle.exchange.specs.ToText.{room}
use Rattle.exchange.specs.PlaceTold.{PlaceTold, broken}
use Rattle.exchange.specs.ToImage.{text_graph}
use Rattle.exchange.proofs.PlaceLaws.{third_breaks}

module _ (text : List ℕ) (e : read_triples_answer room text ≡ 3) where
  abbrev W : List ℕ
  W = text_words product text

  abbrev last : ℕ
  last = or_else (inconsistent product W) 3 0

  -- What reading judged before 3.
  judged : (outside_profile product.top text ≡ false) × (length W ≤ length room) × (last ≡ 3)
  judged =
      let full : ℕ = or_else (ltb (length room) (length W)) 11 last in
      let a = passed_link (bad_size product room) 1 (or_else (outside_profile product.top text) 15 full) 3 (omega arith) e in
      let b = passed_link (outside_profile product.top text) 15 full 3 (omega arith) a.1 in
      let c = passed_link (ltb (length room) (length W)) 11 last 3 (omega arith) b.1 in
      (is_false b.0, ltb-false (length room) (length W) (is_false c.0), c.1)

  pub broken_fills : text_refusal text (length room) ≡ 0
  broken_fills = ap (λ b. or_else b 15 (or_else (ltb (length room) (length W)) 11 0)) judged.0
      ∙ ap (λ b. or_else b 11 0) (le-ltb (length room) (length W) judged.1)

  pub broken_inconsistent : T (is_consistent (facts product W)) → ⊥
  broken_inconsistent = third_breaks (is_consistent (facts product W)) judged.2

  abbrev G : List Fact
  G = concat_map given (lines_read product.top text)

  text_allowed : (f : Fact) → f ∈ G → T (allowed product.top f)
  text_allowed = given_allowed (lines_read product.top text) (read_profile text)

  -- The words of the text, stored in the table.
  module _ (after : List ℕ) (q : after ≡ padded (length room) W) where
    held : after ≡ padded (length room) (words product G)
    unfolding text_words
    held = q

    pub broken_laid : T (laid_out product 1 after)
    broken_laid = subst (λ l. T (laid_out product 1 l)) (sym held) (laid_padded product product_sound (length room) G text_allowed)

    pub broken_size : length after ≤ product.most
    broken_size = omega (arith, ap length q, padded_length (length room) W judged.1)

    same : facts_of after ≡ facts product W
    unfolding text_words
    same =
        let l : List ℕ = words product G in
        let kept : filled after ≡ l = ap filled held ∙ filled_padded product product_sound (length room) G text_allowed in
        let all : filled l ≡ l =
        ap filled (sym kept) ∙ (filter_all (λ n. not (eqb n 0)) (filled after) (λ n i. (in_filter (λ x. not (eqb x 0)) after i).1)
        ∙ kept) in
        ap (map (fact product.base)) (kept ∙ sym all)

    pub broken_place : (n : ℕ) → MetFirst (graph (facts_of after)) rules_in_order n
        → PlaceTold (read_triples_answer room text) (text_graph text) (n + 1)
    broken_place n m = subst (PlaceTold (read_triples_answer room text) (text_graph text)) (sym (add-one n))
        (broken e (subst (λ K. MetFirst (graph K) rules_in_order n) same m))
