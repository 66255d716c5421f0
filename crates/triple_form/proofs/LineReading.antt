-- A line read by its three terms, its end and the fact that they tell: for read_line. Assumes nothing.
use Prim.Native.Nat.{ℕ}
use mathlib.Core.Path.{◌≡◌, refl, sym, ap, ◌∙◌}
use mathlib.Core.Bool.{Bool, false}
use mathlib.Core.List.{List, ◌++◌, append_cancel_left}
use lib.Dec.{T, eqb}
use lib.ListN.{length, take}
use Rattle.std.specs.Cmp.Lexicographic.{pointwise}
use Rattle.std.proofs.lemmas.Slice.Eq.{strip_prefix_is}
use Rattle.std.proofs.lemmas.Bool.Decides.{Decides-eqb}
use Rattle.std.proofs.Common.{Option, None, Some}
use lib.ListN.{length}
use Rattle.rdfs.specs.Numbers.{product}
use Rattle.terms.specs.Terms.{bytes, spelt, spelling, Proper, ProperSome}
use Rattle.terms.specs.Terms.{ended}
use Rattle.triple_form.specs.Lines.{Line, subject, predicate, object, line_of, in_profile}
use Rattle.terms.specs.TermRead.{EndedRead, NotEnded}
use Rattle.triple_form.specs.LineRead.{HasTerms, FactOf, NoFact, LineRead, NoLine, word_line}
use Rattle.terms.specs.declared.term.Term.{Term}
use Rattle.triple_form.proofs.LineLaws.{line_known, line_parts}

-- A line put together from its terms.
joined : (x : Line) {l l1 l2 l3 r : List ℕ} {s p o : Term} → HasTerms s p o x → l ≡ ended (spelt s) ++ l1
    → l1 ≡ ended (spelt p) ++ l2 → l2 ≡ ended (spelt o) ++ l3 → l3 ≡ bytes ".\n" ++ r → l ≡ line_of x ++ r
joined x {r = r} {s = s} {p = p} {o = o} t a b c d =
    rw (line_parts x r, ← t.subject_is, ← t.predicate_is, ← t.object_is)
    (a ∙ ap (λ m. ended (spelt s) ++ m) (b ∙ ap (λ m. ended (spelt p) ++ m) (c ∙ ap (λ m. ended (spelt o) ++ m) d)))

-- A term of a line: a proper one.
proper_term : (t : Option Term) → ProperSome product.top t → (u : Term) × (t ≡ Some u) × Proper product.top u
proper_term None p = absurd p
proper_term (Some u) p = (u, refl, p)

-- A line that stands there has a subject, and what stands behind it is the rest of the line; and so on.
abbrev behind : List ℕ → List ℕ
behind rest = bytes ".\n" ++ rest

abbrev behind_predicate : Line → List ℕ → List ℕ
behind_predicate x rest = ended (spelling (object x.literal x.fact)) ++ behind rest

abbrev behind_subject : Line → List ℕ → List ℕ
behind_subject x rest = ended (spelling (predicate x.fact)) ++ behind_predicate x rest

at_term : (t : Option Term) (m more : List ℕ) → ProperSome product.top t → m ≡ ended (spelling t) ++ more
    → (u : Term) × (t ≡ Some u) × Proper product.top u × (m ≡ ended (spelt u) ++ more)
at_term t m more p q =
    let term = proper_term t p in
    (term.0, term.1, term.2, q ∙ ap (λ v. ended (spelling v) ++ more) term.1)

module _ (x : Line) (l rest : List ℕ) (h : T (in_profile product.top x)) (e : l ≡ line_of x ++ rest) where
  no_first : NotEnded l → ⊥
  no_first n =
      let t = at_term (subject x.fact) l (behind_subject x rest) (line_known x h).0 (e ∙ line_parts x rest) in
      n.none t.0 (behind_subject x rest) t.2 t.3

  module _ {s : Term} {l1 : List ℕ} (one : EndedRead l s l1) where
    first : (Some s ≡ subject x.fact) × (l1 ≡ behind_subject x rest)
    first =
        let t = at_term (subject x.fact) l (behind_subject x rest) (line_known x h).0 (e ∙ line_parts x rest) in
        let read = one.complete t.0 (behind_subject x rest) t.2 t.3 in
        (ap Some read.0 ∙ sym t.1, read.1)

    no_second : NotEnded l1 → ⊥
    no_second n =
        let t = at_term (predicate x.fact) l1 (behind_predicate x rest) (line_known x h).1 first.1 in
        n.none t.0 (behind_predicate x rest) t.2 t.3

    module _ {p : Term} {l2 : List ℕ} (two : EndedRead l1 p l2) where
      second : (Some p ≡ predicate x.fact) × (l2 ≡ behind_predicate x rest)
      second =
          let t = at_term (predicate x.fact) l1 (behind_predicate x rest) (line_known x h).1 first.1 in
          let read = two.complete t.0 (behind_predicate x rest) t.2 t.3 in
          (ap Some read.0 ∙ sym t.1, read.1)

      no_third : NotEnded l2 → ⊥
      no_third n =
          let t = at_term (object x.literal x.fact) l2 (behind rest) (line_known x h).2 second.1 in
          n.none t.0 (behind rest) t.2 t.3

      module _ {o : Term} {l3 : List ℕ} (three : EndedRead l2 o l3) where
        third : (Some o ≡ object x.literal x.fact) × (l3 ≡ behind rest)
        third =
            let t = at_term (object x.literal x.fact) l2 (behind rest) (line_known x h).2 second.1 in
            let read = three.complete t.0 (behind rest) t.2 t.3 in
            (ap Some read.0 ∙ sym t.1, read.1)

        has_terms : HasTerms s p o x
        has_terms = record { inside = h; subject_is = first.0; predicate_is = second.0; object_is = third.0 }

-- No line stands there: a term, the end or the fact is missing.
module _ {l : List ℕ} where
  pub no_line_first : NotEnded l → NoLine l
  no_line_first n = record { none = λ x rest h e. no_first x l rest h e n }

  module _ {s : Term} {l1 : List ℕ} (one : EndedRead l s l1) where
    pub no_line_second : NotEnded l1 → NoLine l
    no_line_second n = record { none = λ x rest h e. no_second x l rest h e one n }

    module _ {p : Term} {l2 : List ℕ} (two : EndedRead l1 p l2) where
      pub no_line_third : NotEnded l2 → NoLine l
      no_line_third n = record { none = λ x rest h e. no_third x l rest h e one two n }

      module _ {o : Term} {l3 : List ℕ} (three : EndedRead l2 o l3) where
        pub no_line_end : ((rest : List ℕ) → l3 ≡ bytes ".\n" ++ rest → ⊥) → NoLine l
        no_line_end n = record { none = λ x rest h e. n rest (third x l rest h e one two three).1 }

        pub no_line_fact : NoFact s p o → NoLine l
        no_line_fact n = record { none = λ x rest h e. n.none x (has_terms x l rest h e one two three) }

        pub line_read : {left : List ℕ} → l3 ≡ bytes ".\n" ++ left → {w : ℕ} {literal : Bool} → FactOf s p o w literal
            → LineRead l w literal left
        line_read {left} b {w} {literal} f = record {
          sound = (
            f.sound.0,
            f.sound.1.inside,
            joined (word_line w literal) f.sound.1 one.sound.1 two.sound.1 three.sound.1 b,
          );
          complete = λ x rest h e.
              let g = f.complete x (has_terms x l rest h e one two three) in
              (g.0, g.1, append_cancel_left (bytes ".\n") left rest (sym b ∙ (third x l rest h e one two three).1));
        }

-- What `strip_prefix` answers of a prefix that is not there.
pub unstripped : (s p : List ℕ) → pointwise eqb (take (length p) s) p ≡ false → (rest : List ℕ) → s ≡ p ++ rest → ⊥
unstripped s p h = strip_prefix_is Decides-eqb s p None h
