-- The literals of a table, flagged by a walk over its words. Assumes nothing.
use Prim.Native.Nat.{ℕ, suc, ◌<◌, ◌≤◌}
use mathlib.Core.Path.{◌≡◌, refl, sym, ap, subst, ◌∙◌}
use mathlib.Core.Bool.{Bool, false, ◌&&◌}
use mathlib.Core.List.{List}
use lib.Dec.{T, eqb}
use lib.ListN.{length, get_or, take, replicate}
use native.Mathlib.Omega.{arith}
use lib.Seq.{slice}
use borrow.Author.Tests.{eq-eqb, ne_eqb}
use Rattle.rdfs.specs.Numbers.{product}
use Rattle.rdfs.specs.Facts.{Fact, lit, kind, first, second, same, has}
use Rattle.rdfs.specs.Words.{fact, is_fact, filled}
use Rattle.rdfs.proofs.Lists.Tests.{Tests, tests_and, tests_eq, tests_agree}
use Rattle.rdfs.proofs.Words.FactLaws.{same_eq, same_refl}
use Rattle.rdfs.proofs.Words.LaidOut.{laid_is_fact}
use Rattle.table.specs.Parts.{kind_of, first_of, second_of}
use Rattle.table.specs.Counted.{Counted, Full, Id, facts_of}
use Rattle.table.proofs.FactParts.{fact_kind_lem, fact_first, fact_second, made_same, word_allowed}
use Rattle.table.proofs.CountedLaws.{counted_first, counted_fact}
use Rattle.table.proofs.CutTable.{cut_full, cut_length}
use Rattle.flags.specs.Flags.{flagged, Adds}
use Rattle.flags.proofs.AnyOf.{any_map, any_same}
use Rattle.flags.proofs.Added.{says_none, adds_none, adds_as}
use Rattle.flags.proofs.Walks.{sets, sets_any}
use Rattle.triples.specs.Writing.{literal_by, Telling}

-- The word is a literal's.
abbrev pub is_literal_word : ℕ → Bool
is_literal_word w = eqb (kind_of w) 4

-- By its kind and its first id a word is that of Lit(x).
literal_word : (w x : ℕ) → T (is_fact product w) → same (lit x) (fact product.base w) ≡ sets first_of is_literal_word x w
literal_word w x h = tests_agree is_same (tests_and (tests_eq (first_of w) x) (tests_eq (kind_of w) 4))
  where
    is_same : Tests (same (lit x) (fact product.base w)) ((first_of w ≡ x) × (kind_of w ≡ 4))
    is_same = record {
      sound = λ t. let e : lit x ≡ fact product.base w = same_eq (lit x) (fact product.base w) t in
          (sym (ap first e ∙ fact_first w h), sym (ap kind e ∙ fact_kind_lem w h));
      complete = λ p.
          let e : fact product.base w ≡ lit x = made_same p.1 p.0 refl refl in
          subst (λ f. T (same (lit x) f)) (sym e) (same_refl (lit x));
    }

module _ {t : List ℕ} (c : Full t) where
  -- The ids have flags.
  pub literal_id : (i : ℕ) → i < length t → Id (first_of (get_or t i 0))
  literal_id i h = (word_allowed (get_or t i 0) (counted_fact c i h)).first

  has_literal : (x : ℕ) → sets_any first_of is_literal_word (slice 0 (length t) t) x ≡ has (facts_of t) (lit x)
  has_literal x =
      ap (λ l. sets_any first_of is_literal_word l x) (counted_first c)
      ∙ sym (any_map (fact product.base) (same (lit x)) (filled t)
      ∙ any_same (λ w. same (lit x) (fact product.base w)) (sets first_of is_literal_word x) (filled t)
      (λ w h. literal_word w x (laid_is_fact product t c.laid w h)))

  pub literals_flagged : {old new : List Bool} → Adds old new (sets_any first_of is_literal_word (slice 0 (length t) t))
      → Adds old new (λ x. has (facts_of t) (lit x))
  literals_flagged = adds_as (λ x. has (facts_of t) (lit x)) has_literal

-- Whether the object of a fact's line is a literal, by the word's kind.
module _ (literals : List Bool) (w : ℕ) (h : T (is_fact product w)) where
  abbrev its : Fact
  its = fact product.base w

  pub by_flag : {i : ℕ} → kind_of w ≡ 10 → i ≡ second_of w → flagged literals i ≡ literal_by literals its
  by_flag e p = sym (ap (λ b. b && flagged literals (second its)) (eq-eqb (kind its) 10 (fact_kind_lem w h ∙ e))
      ∙ ap (flagged literals) (fact_second w h ∙ sym p))

  pub by_kind : (kind_of w ≡ 10 → ⊥) → false ≡ literal_by literals its
  by_kind n = sym (ap (λ b. b && flagged literals (second its)) (ne_eqb (kind its) 10 (λ e. n (sym (fact_kind_lem w h) ∙ e))))

-- The facts of a table, with the literals among them flagged where no id was.
pub table_telling : {t : List ℕ} {n : ℕ} {literals : List Bool} → Counted t n → n ≤ product.most
    → Adds (replicate (suc product.top) false) literals (λ x. has (facts_of (take n t)) (lit x)) → Telling (take n t) literals
table_telling {n = n} c h a = record {
  full = cut_full c;
  fits = omega (arith, h, cut_length c);
  flags = adds_none (says_none (suc product.top)) a;
}
