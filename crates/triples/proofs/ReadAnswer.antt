-- The answer of reading a text, and the words that it leaves, by the words of the text's facts. Assumes nothing.
use Prim.Native.Nat.{ℕ, ◌≤◌, ◌<◌}
use mathlib.Core.Path.{◌≡◌, sym, ap, subst, ◌∙◌}
use mathlib.Core.Bool.{false, not, cond}
use mathlib.Core.Logic.{inl, inr}
use mathlib.Core.List.{List, map}
use native.Mathlib.Omega.{arith}
use native.Mathlib.Decide.{dec_lt}
use lib.Dec.{T, eqb, ltb, T_not}
use lib.ListN.{length}
use borrow.Author.Tests.{eq-eqb, ne_eqb, le-ltb, ltb-false}
use Rattle.rdfs.specs.Numbers.{product}
use Rattle.rdfs.specs.Lists.{◌∈◌}
use Rattle.rdfs.specs.Facts.{Fact, graph}
use Rattle.rdfs.specs.Consistency.{Consistent}
use Rattle.rdfs.specs.Clashes.{is_consistent}
use Rattle.rdfs.specs.Words.{fact, allowed, filled, facts, words, padded}
use Rattle.rdfs.specs.Refusals.{or_else, bad_size, inconsistent}
use Rattle.rdfs.specs.Register.{Table}
use Rattle.rdfs.proofs.Lists.ListLaws.{in_filter}
use Rattle.rdfs.proofs.Lists.Filters.{filter_all}
use Rattle.rdfs.proofs.Words.Tables.{padded_length, filled_padded, facts_padded, laid_padded}
use Rattle.rdfs.proofs.Consistency.LawfulParts.{lawful_same}
use Rattle.rdfs.proofs.Consistency.Decision.{check_sound, check_complete}
use Rattle.rdfs.proofs.Tickets.FirstTrue.{passed_link}
use Rattle.rdfs.proofs.Tickets.TicketTests.{stands}
use Rattle.rdfs.proofs.Theorems.{product_sound}
use Rattle.table.proofs.TestAnswers.{is_false}
use Rattle.table.proofs.Sizes.{tests_size}
use Rattle.triples.specs.TextRead.{outside_profile, text_words}
use Rattle.triples.specs.ReadTriples.{read_triples_answer, read_triples_words}

-- The words of a table before its zeros are refused with 3 exactly if the table is.
pub filled_rules : (l t : List ℕ) → l ≡ filled t → inconsistent product l ≡ inconsistent product t
filled_rules l t e = ap (inconsistent product) e ∙ ap (λ m. not (is_consistent (map (fact product.base) m)))
    (filter_all (λ n. not (eqb n 0)) (filled t) (λ n i. (in_filter (λ x. not (eqb x 0)) t i).1))

-- A table of allowed facts, by their words.
module _ (G : List Fact) (a : (f : Fact) → f ∈ G → T (allowed product.top f)) (n : ℕ) where
  abbrev held : List ℕ
  held = padded n (words product G)

  pub held_rules : inconsistent product (words product G) ≡ inconsistent product held
  held_rules = filled_rules (words product G) held (sym (filled_padded product product_sound n G a))

  pub held_consistent : Consistent (graph G) → inconsistent product (words product G) ≡ false
  held_consistent c =
      let f = facts_padded product product_sound n G a in
      held_rules ∙ is_false (λ t. T_not (is_consistent (facts product held)) t
      (check_complete (facts product held) (lawful_same (graph G) (graph (facts product held)) f.1 f.0 c)))

  pub held_table : 0 < n → n ≤ product.most → length (words product G) ≤ n → inconsistent product (words product G) ≡ false
      → Table product held
  held_table some most fits rules =
      let e : length held ≡ n = padded_length n (words product G) fits in
      record {
        some = subst (λ m. 0 < m) (sym e) some;
        fits = subst (λ m. m ≤ product.most) (sym e) most;
        laid = laid_padded product product_sound n G a;
        consistent = check_sound (facts product held) (stands (is_consistent (facts product held))
            (λ t. subst T (sym held_rules ∙ rules) t));
      }

pub size_parts : (u : List ℕ) → bad_size product u ≡ false → (0 < length u) × (length u ≤ product.most)
size_parts u e =
    let none : length u ≡ 0 → ⊥ = λ z. subst T e ((tests_size product u).complete (inl z)) in
    let more : product.most < length u → ⊥ = λ z. subst T e ((tests_size product u).complete (inr z)) in
    (omega (arith, none), elim (dec_lt product.most (length u)) [ yes l ↦ absurd (more l) | no n ↦ omega (arith, n) ])

-- A text that is read into a table of as many words as u.
pub record Readable (u text : List ℕ) : Type 0 where
  pub size : bad_size product u ≡ false
  pub inside : outside_profile product.top text ≡ false
  pub fits : length (text_words product text) ≤ length u
  pub rules : inconsistent product (text_words product text) ≡ false

module _ (u text : List ℕ) where
  abbrev W : List ℕ
  W = text_words product text

  -- 3, and 11 before it.
  abbrev last : ℕ
  last = or_else (inconsistent product W) 3 0

  abbrev full : ℕ
  full = or_else (ltb (length u) (length W)) 11 last

  pub readable : read_triples_answer u text ≡ 0 → Readable u text
  readable e =
      let a = passed_link (bad_size product u) 1 (or_else (outside_profile product.top text) 15 full) 0 (omega arith) e in
      let b = passed_link (outside_profile product.top text) 15 full 0 (omega arith) a.1 in
      let c = passed_link (ltb (length u) (length W)) 11 last 0 (omega arith) b.1 in
      let d = passed_link (inconsistent product W) 3 0 0 (omega arith) c.1 in
      record {
        size = is_false a.0;
        inside = is_false b.0;
        fits = ltb-false (length u) (length W) (is_false c.0);
        rules = is_false d.0;
      }

  pub readable_answer : Readable u text → read_triples_answer u text ≡ 0
  readable_answer p =
      ap (λ b. or_else b 1 (or_else (outside_profile product.top text) 15 full)) p.size
      ∙ (ap (λ b. or_else b 15 full) p.inside
      ∙ (ap (λ b. or_else b 11 last) (le-ltb (length u) (length W) p.fits) ∙ ap (λ b. or_else b 3 0) p.rules))

  pub read_holds : read_triples_answer u text ≡ 0 → read_triples_words u text ≡ padded (length u) W
  read_holds e = ap (λ b. cond b (padded (length u) W) u) (eq-eqb (read_triples_answer u text) 0 e)

  pub read_keeps : (read_triples_answer u text ≡ 0 → ⊥) → read_triples_words u text ≡ u
  read_keeps h = ap (λ b. cond b (padded (length u) W) u) (ne_eqb (read_triples_answer u text) 0 h)
