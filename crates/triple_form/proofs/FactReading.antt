-- The fact whose line has three terms, by the word that they tell: for fact_of. Assumes nothing.
use Prim.Native.Nat.{ℕ, ◌≤◌, ◌<◌}
use mathlib.Core.Path.{◌≡◌, refl, ap, ◌∙◌}
use mathlib.Core.Bool.{Bool, true, false}
use native.Mathlib.Omega.{arith}
use lib.Dec.{T, leb, le→leb}
use Rattle.std.proofs.Common.{Some}
use Rattle.std.specs.Option.{unwrap_or}
use Rattle.terms.specs.Terms.{Proper}
use Rattle.rdfs.specs.Numbers.{product}
use Rattle.rdfs.specs.Facts.{Fact, cl, pr, excl, csub, psub, dom, rng, ci, pi, made}
use Rattle.rdfs.specs.Words.{word, fact, allowed, is_fact}
use Rattle.rdfs.proofs.Lists.Tests.{both_and}
use Rattle.rdfs.proofs.Words.LaidOut.{fact_allowed}
use Rattle.table.specs.Parts.{kind_of, first_of, second_of, third_of, word_of, Digits}
use Rattle.table.proofs.FactParts.{made_same}
use Rattle.triple_form.specs.Lines.{Line, has_line, subject, predicate, object, in_profile}
use Rattle.triple_form.specs.LineRead.{HasTerms, FactOf}
use Rattle.triple_form.specs.FactTerms.{id_in, is_literal}
use Rattle.triple_form.specs.FactKinds.{kind_by}
use Rattle.terms.specs.declared.term.Term.{Term}
use Rattle.terms.specs.declared.term.Term.TheVariants.{
  Id,
  Literal,
  RdfType,
  Property,
  Class,
  SubClassOf,
  SubPropertyOf,
  Domain,
  Range,
  Exclusive,
}
use Rattle.triple_form.proofs.TermParts.{word_from, line_again, literal_told, word_again, Pair, a_class, a_property, a_subclass, a_subproperty, a_domain, a_range, a_member, a_value, a_literal, an_exclusive, pair, pair_below}

own : (x : Line) {s p o : Term} → Some s ≡ subject x.fact → Some p ≡ predicate x.fact → Some o ≡ object x.literal x.fact
    → T (in_profile product.top x) → HasTerms s p o x
own x e f g h = record { inside = h; subject_is = e; predicate_is = f; object_is = g }

plain : (f : Fact) {s p o : Term} → Some s ≡ subject f → Some p ≡ predicate f → Some o ≡ object false f → T (has_line f)
    → T (allowed product.top f) → HasTerms s p o (record { fact = f; literal = false })
plain f d e g h k = own (record { fact = f; literal = false }) d e g
    (both_and (has_line f) _ h (both_and (allowed product.top f) true k tt))

-- The line that three terms tell has them.
tells : (a : ℕ) {p o : Term} {k : ℕ} → Pair p o k → Proper product.top o
    → T (allowed product.top (made k a (unwrap_or (id_in o) 0) (unwrap_or (id_in p) 0)))
    → HasTerms (Id a) p o (record { fact = made k a (unwrap_or (id_in o) 0) (unwrap_or (id_in p) 0); literal = is_literal o })
tells a a_class q h = plain (cl a) refl refl refl tt h
tells a a_property q h = plain (pr a) refl refl refl tt h
tells a (a_subclass b) q h = plain (csub a b) refl refl refl tt h
tells a (a_subproperty b) q h = plain (psub a b) refl refl refl tt h
tells a (a_domain b) q h = plain (dom a b) refl refl refl tt h
tells a (a_range b) q h = plain (rng a b) refl refl refl tt h
tells a (a_member b) q h = plain (ci a b) refl refl refl tt h
tells a (a_value b c) q h = plain (pi a b c) refl refl refl tt h
tells a (a_literal b c) q h = own (record { fact = pi a b c; literal = true }) refl refl refl
    (both_and (allowed product.top (pi a b c)) (leb 2 b) h (le→leb 2 b q.0))
tells a an_exclusive q h = plain (excl a) refl refl refl tt h

-- The ids of terms are digits.
id_below : (t : Term) → Proper product.top t → unwrap_or (id_in t) 0 < product.base
id_below (Id n) q = omega (arith, q)
id_below (Literal n) q = omega (arith, q.1)
id_below RdfType q = omega arith
id_below Property q = omega arith
id_below Class q = omega arith
id_below SubClassOf q = omega arith
id_below SubPropertyOf q = omega arith
id_below Domain q = omega arith
id_below Range q = omega arith
id_below Exclusive q = omega arith

-- The fact of digits.
fact_made : (k a b c : ℕ) → Digits k a b c → fact product.base (word_of k a b c) ≡ made k a b c
fact_made k a b c d =
    let kind_is : kind_of (word_of k a b c) ≡ k = omega (arith, d.first, d.second, d.third) in
    let first_is : first_of (word_of k a b c) ≡ a = omega (arith, d.first, d.second, d.third) in
    let second_is : second_of (word_of k a b c) ≡ b = omega (arith, d.second, d.third) in
    let third_is : third_of (word_of k a b c) ≡ c = omega (arith, d.third) in
    made_same kind_is first_is second_is third_is

module _ (a : ℕ) (p o : Term) (at-s : a ≤ product.top) (at_p : Proper product.top p) (at-o : Proper product.top o) {k b c : ℕ}
    (kind_is : kind_by p o ≡ Some k) (b_is : b ≡ unwrap_or (id_in o) 0) (c_is : c ≡ unwrap_or (id_in p) 0) where
  pub terms_digits : Digits k a b c
  terms_digits = record {
    kind = pair_below (pair p o kind_is);
    first = omega (arith, at-s);
    second = omega (arith, b_is, id_below o at-o);
    third = omega (arith, c_is, id_below p at_p);
  }

  module _ {w : ℕ} (e : w ≡ word_of k a b c) where
    -- A line inside the profile that has the terms.
    word_is : (x : Line) → HasTerms (Id a) p o x → w ≡ word product.base x.fact
    word_is x t =
        let kind : unwrap_or (kind_by p o) 0 ≡ k = ap (λ r. unwrap_or r 0) kind_is in
        let told : w ≡ word_from (Some (Id a)) (Some p) (Some o) = cc in
        told ∙ (ap (λ s. word_from s (Some p) (Some o)) t.subject_is
        ∙ (ap (λ q. word_from (subject x.fact) q (Some o)) t.predicate_is
        ∙ (ap (word_from (subject x.fact) (predicate x.fact)) t.object_is ∙ word_again x t.inside)))

    literal_is : (x : Line) → HasTerms (Id a) p o x → is_literal o ≡ x.literal
    literal_is x t = ap literal_told t.object_is ∙ ap (λ y. y.literal) (line_again x t.inside)

    pub fact_told : {literal : Bool} → literal ≡ is_literal o → T (is_fact product w) → FactOf (Id a) p o w literal
    fact_told {literal} l h =
        let fact_is : fact product.base w ≡ made k a b c = ap (fact product.base) e ∙ fact_made k a b c terms_digits in
        record {
          sound = (
            h,
            rw (fact_is, l, b_is, c_is) (tells a (pair p o kind_is) at-o (rw (← b_is, ← c_is, ← fact_is)
                (fact_allowed product w h))),
          );
          complete = λ x t. (word_is x t, l ∙ literal_is x t);
        }
