-- The kind and the ids that three terms tell, and the line that has them. Assumes nothing.
use Prim.Native.Nat.{ℕ, ◌<◌}
use mathlib.Core.Path.{◌≡◌, refl, subst}
use mathlib.Core.Bool.{Bool, true, false, ◌&&◌}
use native.Mathlib.Omega.{arith}
use lib.Dec.{T}
use Rattle.std.proofs.Common.{Option, None, Some}
use Rattle.std.specs.Option.{unwrap_or}
use Rattle.std.proofs.lemmas.Option.{none-some, same_Some}
use Rattle.rdfs.specs.Numbers.{product}
use Rattle.rdfs.specs.Facts.{Fact, cl, pr, ind, lit, excl, csub, psub, dom, rng, ci, pi, made}
use Rattle.rdfs.specs.Words.{word, allowed}
use Rattle.rdfs.proofs.Lists.Tests.{and_both}
use Rattle.table.specs.Parts.{word_of}
use Rattle.triple_form.specs.Lines.{Line, subject, predicate, object, in_profile}
use Rattle.triple_form.specs.FactTerms.{id_in, is_literal}
use Rattle.triple_form.specs.FactKinds.{typed_kind, linked_kind, value_kind, kind_by}
use Rattle.terms.specs.declared.term.Term.{Term}
use Rattle.terms.specs.declared.term.Term.TheVariants.{
  Id,
  Literal,
  RdfType,
  Property,
  Class,
  SubClassOf,
  SubPropertyOf,
  Domain,
  Range,
  Exclusive,
}

-- What terms tell, where there may be none: the kind, an id and whether it is a literal; the line and the word with these.
abbrev pub kind_told : Option Term → Option Term → ℕ
kind_told None o = 0
kind_told (Some p) None = 0
kind_told (Some p) (Some o) = unwrap_or (kind_by p o) 0

abbrev pub id_told : Option Term → ℕ
id_told None = 0
id_told (Some t) = unwrap_or (id_in t) 0

abbrev pub literal_told : Option Term → Bool
literal_told None = false
literal_told (Some t) = is_literal t

abbrev pub line_from : Option Term → Option Term → Option Term → Line
line_from s p o = record { fact = made (kind_told p o) (id_told s) (id_told o) (id_told p); literal = literal_told o }

abbrev pub word_from : Option Term → Option Term → Option Term → ℕ
word_from s p o = word_of (kind_told p o) (id_told s) (id_told o) (id_told p)

-- A line inside the profile is the one that its terms tell, and so is its word.
no_literal : (b : Bool) → T (b && false) → ⊥
no_literal b h = (and_both b false h).1

again : (f : Fact) (l : Bool) → T (in_profile product.top (record { fact = f; literal = l }))
    → (line_from (subject f) (predicate f) (object l f) ≡ record { fact = f; literal = l })
    × (word_from (subject f) (predicate f) (object l f) ≡ word product.base f)
again (cl a) false h = (refl, refl)
again (cl a) true h = absurd (no_literal (allowed product.top (cl a)) h)
again (pr a) false h = (refl, refl)
again (pr a) true h = absurd (no_literal (allowed product.top (pr a)) h)
again (ind a) l h = absurd h
again (lit a) l h = absurd h
again (csub a b) false h = (refl, refl)
again (csub a b) true h = absurd (no_literal (allowed product.top (csub a b)) h)
again (psub a b) false h = (refl, refl)
again (psub a b) true h = absurd (no_literal (allowed product.top (psub a b)) h)
again (dom a b) false h = (refl, refl)
again (dom a b) true h = absurd (no_literal (allowed product.top (dom a b)) h)
again (rng a b) false h = (refl, refl)
again (rng a b) true h = absurd (no_literal (allowed product.top (rng a b)) h)
again (ci a b) false h = (refl, refl)
again (ci a b) true h = absurd (no_literal (allowed product.top (ci a b)) h)
again (pi a b c) false h = (refl, refl)
again (pi a b c) true h = (refl, refl)
again (excl a) false h = (refl, refl)
again (excl a) true h = absurd (no_literal (allowed product.top (excl a)) h)

module _ (x : Line) (h : T (in_profile product.top x)) where
  pub line_again : line_from (subject x.fact) (predicate x.fact) (object x.literal x.fact) ≡ x
  line_again = (again x.fact x.literal h).0

  pub word_again : word_from (subject x.fact) (predicate x.fact) (object x.literal x.fact)
      ≡ word product.base x.fact
  word_again = (again x.fact x.literal h).1

-- The predicates and objects that tell a kind.
pub data Pair : Term → Term → ℕ → Type 0 where
  a_class : Pair RdfType Class 1
  a_property : Pair RdfType Property 2
  a_subclass : (b : ℕ) → Pair SubClassOf (Id b) 5
  a_subproperty : (b : ℕ) → Pair SubPropertyOf (Id b) 6
  a_domain : (b : ℕ) → Pair Domain (Id b) 7
  a_range : (b : ℕ) → Pair Range (Id b) 8
  a_member : (b : ℕ) → Pair RdfType (Id b) 9
  a_value : (b c : ℕ) → Pair (Id c) (Id b) 10
  a_literal : (b c : ℕ) → Pair (Id c) (Literal b) 10
  an_exclusive : Pair RdfType Exclusive 11

at_kind : (p o : Term) (j : ℕ) {k : ℕ} → Pair p o j → Some j ≡ Some k → Pair p o k
at_kind p o j {k} h e = subst (Pair p o) (same_Some j k e) h

typed : (o : Term) {k : ℕ} → typed_kind o ≡ Some k → Pair RdfType o k
typed (Id n) e = at_kind RdfType (Id n) 9 (a_member n) e
typed (Literal n) {k} e = absurd (none-some k e)
typed RdfType {k} e = absurd (none-some k e)
typed Property e = at_kind RdfType Property 2 a_property e
typed Class e = at_kind RdfType Class 1 a_class e
typed SubClassOf {k} e = absurd (none-some k e)
typed SubPropertyOf {k} e = absurd (none-some k e)
typed Domain {k} e = absurd (none-some k e)
typed Range {k} e = absurd (none-some k e)
typed Exclusive e = at_kind RdfType Exclusive 11 an_exclusive e

valued : (c : ℕ) (o : Term) {k : ℕ} → value_kind o ≡ Some k → Pair (Id c) o k
valued c (Id n) e = at_kind (Id c) (Id n) 10 (a_value n c) e
valued c (Literal n) e = at_kind (Id c) (Literal n) 10 (a_literal n c) e
valued c RdfType {k} e = absurd (none-some k e)
valued c Property {k} e = absurd (none-some k e)
valued c Class {k} e = absurd (none-some k e)
valued c SubClassOf {k} e = absurd (none-some k e)
valued c SubPropertyOf {k} e = absurd (none-some k e)
valued c Domain {k} e = absurd (none-some k e)
valued c Range {k} e = absurd (none-some k e)
valued c Exclusive {k} e = absurd (none-some k e)

linked : (p : Term) (j : ℕ) (o : Term) {k : ℕ} → ((b : ℕ) → Pair p (Id b) j) → linked_kind j o ≡ Some k → Pair p o k
linked p j (Id n) f e = at_kind p (Id n) j (f n) e
linked p j (Literal n) {k} f e = absurd (none-some k e)
linked p j RdfType {k} f e = absurd (none-some k e)
linked p j Property {k} f e = absurd (none-some k e)
linked p j Class {k} f e = absurd (none-some k e)
linked p j SubClassOf {k} f e = absurd (none-some k e)
linked p j SubPropertyOf {k} f e = absurd (none-some k e)
linked p j Domain {k} f e = absurd (none-some k e)
linked p j Range {k} f e = absurd (none-some k e)
linked p j Exclusive {k} f e = absurd (none-some k e)

pub pair : (p o : Term) {k : ℕ} → kind_by p o ≡ Some k → Pair p o k
pair (Id n) o e = valued n o e
pair (Literal n) o {k} e = absurd (none-some k e)
pair RdfType o e = typed o e
pair Property o {k} e = absurd (none-some k e)
pair Class o {k} e = absurd (none-some k e)
pair SubClassOf o e = linked SubClassOf 5 o a_subclass e
pair SubPropertyOf o e = linked SubPropertyOf 6 o a_subproperty e
pair Domain o e = linked Domain 7 o a_domain e
pair Range o e = linked Range 8 o a_range e
pair Exclusive o {k} e = absurd (none-some k e)

-- A kind is a digit.
pub pair_below : {p o : Term} {k : ℕ} → Pair p o k → k < 16
pair_below a_class = omega arith
pair_below a_property = omega arith
pair_below (a_subclass b) = omega arith
pair_below (a_subproperty b) = omega arith
pair_below (a_domain b) = omega arith
pair_below (a_range b) = omega arith
pair_below (a_member b) = omega arith
pair_below (a_value b c) = omega arith
pair_below (a_literal b c) = omega arith
pair_below an_exclusive = omega arith
