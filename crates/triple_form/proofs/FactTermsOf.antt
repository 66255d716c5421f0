-- The terms of a fact's line, by the fact's kind and ids. Assumes nothing.
use Prim.Native.Nat.{ℕ}
use mathlib.Core.Path.{◌≡◌, refl, sym, ap, ◌∙◌}
use mathlib.Core.Bool.{Bool, true, not, ◌||◌}
use lib.Dec.{T, eqb}
use Rattle.std.proofs.Common.{Some}
use borrow.Author.Tests.{ne_eqb}
use Rattle.rdfs.specs.Numbers.{product}
use Rattle.rdfs.specs.Facts.{Fact, cl, pr, ind, lit, excl, csub, psub, dom, rng, ci, pi, kind, first, second, made}
use Rattle.rdfs.specs.Words.{fact, is_fact}
use Rattle.table.specs.Parts.{kind_of, first_of, second_of, third_of}
use Rattle.table.proofs.FactParts.{fact_kind_lem, fact_first, fact_second}
use Rattle.triple_form.specs.Lines.{has_line, subject, predicate, object}
use Rattle.terms.specs.declared.term.Term.TheVariants.{Id, RdfType}

-- With a line, the subject is the first id, the predicate of the other kinds rdf:type, the object of the others the second id.
pub subject_first : (f : Fact) → T (has_line f) → subject f ≡ Some (Id (first f))
subject_first (cl a) h = refl
subject_first (pr a) h = refl
subject_first (ind a) h = absurd h
subject_first (lit a) h = absurd h
subject_first (csub a b) h = refl
subject_first (psub a b) h = refl
subject_first (dom a b) h = refl
subject_first (rng a b) h = refl
subject_first (ci a b) h = refl
subject_first (pi a b c) h = refl
subject_first (excl a) h = refl

predicate_typed : (f : Fact) → T (has_line f) → (kind f ≡ 5 → ⊥) → (kind f ≡ 6 → ⊥) → (kind f ≡ 7 → ⊥) → (kind f ≡ 8 → ⊥)
    → (kind f ≡ 10 → ⊥) → predicate f ≡ Some RdfType
predicate_typed (cl a) h n5 n6 n7 n8 n10 = refl
predicate_typed (pr a) h n5 n6 n7 n8 n10 = refl
predicate_typed (ind a) h n5 n6 n7 n8 n10 = absurd h
predicate_typed (lit a) h n5 n6 n7 n8 n10 = absurd h
predicate_typed (csub a b) h n5 n6 n7 n8 n10 = absurd (n5 refl)
predicate_typed (psub a b) h n5 n6 n7 n8 n10 = absurd (n6 refl)
predicate_typed (dom a b) h n5 n6 n7 n8 n10 = absurd (n7 refl)
predicate_typed (rng a b) h n5 n6 n7 n8 n10 = absurd (n8 refl)
predicate_typed (ci a b) h n5 n6 n7 n8 n10 = refl
predicate_typed (pi a b c) h n5 n6 n7 n8 n10 = absurd (n10 refl)
predicate_typed (excl a) h n5 n6 n7 n8 n10 = refl

object_second : (literal : Bool) (f : Fact) → T (has_line f) → (kind f ≡ 1 → ⊥) → (kind f ≡ 2 → ⊥) → (kind f ≡ 10 → ⊥)
    → (kind f ≡ 11 → ⊥) → object literal f ≡ Some (Id (second f))
object_second literal (cl a) h n1 n2 n10 n11 = absurd (n1 refl)
object_second literal (pr a) h n1 n2 n10 n11 = absurd (n2 refl)
object_second literal (ind a) h n1 n2 n10 n11 = absurd h
object_second literal (lit a) h n1 n2 n10 n11 = absurd h
object_second literal (csub a b) h n1 n2 n10 n11 = refl
object_second literal (psub a b) h n1 n2 n10 n11 = refl
object_second literal (dom a b) h n1 n2 n10 n11 = refl
object_second literal (rng a b) h n1 n2 n10 n11 = refl
object_second literal (ci a b) h n1 n2 n10 n11 = refl
object_second literal (pi a b c) h n1 n2 n10 n11 = absurd (n10 refl)
object_second literal (excl a) h n1 n2 n10 n11 = absurd (n11 refl)

-- The same by the fact's word.
pub fact_of_kind : (w k : ℕ) → kind_of w ≡ k → fact product.base w ≡ made k (first_of w) (second_of w) (third_of w)
fact_of_kind w k e = ap (λ n. made n (first_of w) (second_of w) (third_of w)) e

module _ (w : ℕ) (h : T (is_fact product w)) where
  abbrev its : Fact
  its = fact product.base w

  pub line_none : (k : ℕ) → kind_of w ≡ k → has_line (fact product.base w) ≡ not (eqb k 3 || eqb k 4)
  line_none k e = ap (λ n. not (eqb n 3 || eqb n 4)) (fact_kind_lem w h ∙ e)

  pub line_there : (kind_of w ≡ 3 → ⊥) → (kind_of w ≡ 4 → ⊥) → has_line (fact product.base w) ≡ true
  line_there a b = line_none (kind_of w) refl ∙ rw (ne_eqb (kind_of w) 3 a, ne_eqb (kind_of w) 4 b) refl

  not_kind : {k : ℕ} → (kind_of w ≡ k → ⊥) → kind its ≡ k → ⊥
  not_kind n e = n (sym (fact_kind_lem w h) ∙ e)

  module _ (line : T (has_line (fact product.base w))) where
    pub word_subject : subject (fact product.base w) ≡ Some (Id (first_of w))
    word_subject = subject_first its line ∙ ap (λ n. Some (Id n)) (fact_first w h)

    pub word_typed : (kind_of w ≡ 5 → ⊥) → (kind_of w ≡ 6 → ⊥) → (kind_of w ≡ 7 → ⊥) → (kind_of w ≡ 8 → ⊥) → (kind_of w ≡ 10 → ⊥)
        → predicate (fact product.base w) ≡ Some RdfType
    word_typed n5 n6 n7 n8 n10 = predicate_typed its line (not_kind n5) (not_kind n6) (not_kind n7) (not_kind n8) (not_kind n10)

    pub word_object : (literal : Bool) → (kind_of w ≡ 1 → ⊥) → (kind_of w ≡ 2 → ⊥) → (kind_of w ≡ 10 → ⊥)
        → (kind_of w ≡ 11 → ⊥) → object literal (fact product.base w) ≡ Some (Id (second_of w))
    word_object literal n1 n2 n10 n11 =
        object_second literal its line (not_kind n1) (not_kind n2) (not_kind n10) (not_kind n11) ∙ ap (λ n. Some (Id n)) (fact_second w h)
