-- Texts with the same lines, in any order and each at least once, are read alike. Assumes nothing.
use Prim.Native.Nat.{ℕ}
use mathlib.Core.Path.{◌≡◌, refl, sym, ap, subst, ◌∙◌}
use mathlib.Core.Bool.{Bool, true, false, not, ◌||◌}
use mathlib.Core.List.{List}
use lib.Dec.{T, ltb, leb}
use lib.ListN.{length}
use Rattle.rdfs.specs.Numbers.{product}
use Rattle.rdfs.specs.Lists.{◌∈◌, ◌⊆◌, concat_map}
use Rattle.rdfs.specs.Words.{padded}
use Rattle.rdfs.specs.Refusals.{or_else, inconsistent}
use Rattle.rdfs.proofs.Lists.ListLaws.{in_map}
use Rattle.rdfs.proofs.Words.Tables.{words_same}
use Rattle.triple_form.specs.Lines.{Line, line_of}
use Rattle.triples.specs.TextRead.{cut_after, lines_read, all_inside, told_twice, outside_profile, given, text_words}
use Rattle.triples.specs.ReadTriples.{read_triples_answer, read_triples_words}
use Rattle.triples.proofs.Given.{told_twice_sub}
use Rattle.triples.proofs.ReadAnswer.{readable, read_holds}
use Rattle.triples.proofs.LinesRead.{read_profile}
use Rattle.triples.proofs.AllInside.{inside_cut, inside_by_lines}
use Rattle.triples.proofs.TextLines.{given_sub, passed, lines_sub}

same_test : (a b : Bool) → (T a → T b) → (T b → T a) → a ≡ b
same_test true true f g = refl
same_test true false f g = absurd (f tt)
same_test false true f g = absurd (g tt)
same_test false false f g = refl

-- The answer of reading, by the tests of a text.
abbrev answer_by : ℕ → Bool → List ℕ → ℕ
answer_by n out words = or_else (leb n 0 || ltb product.most n) 1
    (or_else out 15 (or_else (ltb n (length words)) 11 (or_else (inconsistent product words) 3 0)))

abbrev L : List ℕ → List Line
L text = lines_read product.top text

abbrev In : List ℕ → Bool
In text = all_inside product.top text

inside_too : (text other : List ℕ) → cut_after 10 other ⊆ cut_after 10 text → T (In text) → T (In other)
inside_too text other s t = inside_by_lines other (λ l i.
    let r = in_map line_of (L text) (subst (λ m. l ∈ m) (inside_cut text t) (s l i)) in
    (r.0, read_profile text r.0 r.1, sym r.2))

lines_too : (text other : List ℕ) → cut_after 10 text ⊆ cut_after 10 other → T (In text) → T (In other) → L text ⊆ L other
lines_too text other s t o = lines_sub (L text) (L other) (read_profile text) (read_profile other) (λ l i.
    subst (λ m. l ∈ m) (inside_cut other o) (s l (subst (λ m. l ∈ m) (sym (inside_cut text t)) i)))

module _ (text other : List ℕ) (to : cut_after 10 text ⊆ cut_after 10 other) (from : cut_after 10 other ⊆ cut_after 10 text) where
  same_inside : In text ≡ In other
  same_inside = same_test (In text) (In other) (inside_too text other from) (inside_too other text to)

  module _ (t : T (In text)) where
    there_too : L text ⊆ L other
    there_too = lines_too text other to t (inside_too text other from t)

    back_too : L other ⊆ L text
    back_too = lines_too other text from (inside_too text other from t) t

    same_told_twice : told_twice (L text) ≡ told_twice (L other)
    same_told_twice = same_test (told_twice (L text)) (told_twice (L other)) (told_twice_sub (L text) (L other) there_too)
        (told_twice_sub (L other) (L text) back_too)

    same_words : text_words product text ≡ text_words product other
    unfolding text_words
    same_words = words_same product (concat_map given (L text)) (concat_map given (L other))
        (given_sub (L text) (L other) there_too) (given_sub (L other) (L text) back_too)

  -- The same answer, into tables of the same length.
  pub any_order_answer : (u v : List ℕ) → length u ≡ length v → read_triples_answer u text ≡ read_triples_answer v other
  any_order_answer u v e = by (In text) refl
    where
      by : (b : Bool) → In text ≡ b → read_triples_answer u text ≡ read_triples_answer v other
      by true q =
          let t : T (In text) = subst T (sym q) tt in
          ap (λ n. answer_by n (outside_profile product.top text) (text_words product text)) e
          ∙ (ap (λ b. answer_by (length v) (not b || told_twice (L text)) (text_words product text)) same_inside
          ∙ (ap (λ b. answer_by (length v) (not (In other) || b) (text_words product text)) (same_told_twice t)
          ∙ ap (answer_by (length v) (outside_profile product.top other)) (same_words t)))
      by false q =
          ap (λ n. answer_by n (outside_profile product.top text) (text_words product text)) e
          ∙ (ap (λ b. answer_by (length v) (not b || told_twice (L text)) (text_words product text)) q
          ∙ sym (ap (λ b. answer_by (length v) (not b || told_twice (L other)) (text_words product other)) (sym same_inside ∙ q)))

  -- And, if it is 0, the same words.
  pub any_order_words : (u v : List ℕ) → length u ≡ length v → read_triples_answer u text ≡ 0
      → read_triples_words u text ≡ read_triples_words v other
  any_order_words u v e z =
      let t : T (In text) = (passed (In text) (told_twice (L text)) (readable u text z).inside).0 in
      read_holds u text z ∙ (ap (λ n. padded n (text_words product text)) e ∙ (ap (padded (length v)) (same_words t)
      ∙ sym (read_holds v other (sym (any_order_answer u v e) ∙ z))))
