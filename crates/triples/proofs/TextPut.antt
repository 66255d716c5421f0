-- The text of a table by its words, with the literals flagged: measured and put one word after another. Assumes nothing.
use Prim.Native.Nat.{ℕ, suc, ◌+◌, ◌*◌, ◌≤◌, ◌<◌}
use mathlib.Core.Path.{◌≡◌, refl, sym, ap, subst, ◌∙◌}
use mathlib.Core.Bool.{Bool, true, false, ◌&&◌, cond}
use mathlib.Core.List.{List, [], ◌∷◌, ◌++◌, map}
use native.Mathlib.Omega.{arith}
use native.Mathlib.Numerals.{add-one}
use lib.Dec.{eqb}
use lib.ListN.{length, get_or, drop, length-append, length-drop, drop_of_length-le}
use lib.Seq.{drop_at, drop-drop, drop-cons}
use Rattle.rdfs.specs.Numbers.{product}
use Rattle.rdfs.specs.Lists.{◌∈◌, here, there, filter, concat_map}
use Rattle.rdfs.specs.Facts.{Fact, lit, kind, second, has}
use Rattle.rdfs.specs.Words.{fact, filled}
use Rattle.rdfs.proofs.Words.LaidOut.{laid_is_fact}
use Rattle.table.specs.Counted.{facts_of}
use Rattle.table.specs.Overlay.{Overlaid}
use Rattle.table.proofs.Filled.{filled_within}
use Rattle.table.proofs.CountedLaws.{counted_at}
use Rattle.table.proofs.Overlaid.{overlaid_length, overlaid_more, overlaid_all}
use Rattle.flags.specs.Flags.{Says}
use Rattle.triple_form.specs.Lines.{Line, has_line, line_of}
use Rattle.terms.specs.Putting.{Puts}
use Rattle.triples.specs.Texts.{as_line, lines_for, text_of_lines, text_of}
use Rattle.triples.specs.Writing.{literal_by, text_by, Telling}
use Rattle.triples.proofs.WordText.{word_text, word_text_short}

concat_map_lem : {A B C : Type 0} (f : A → B) (each : B → List C) (l : List A)
    → concat_map each (map f l) ≡ concat_map (λ x. each (f x)) l
concat_map_lem f each [] = refl
concat_map_lem f each (x ∷ l) = ap (λ m. each (f x) ++ m) (concat_map_lem f each l)

-- With the literals of some facts flagged, their text is that of one fact after another.
module _ (K : List Fact) (literals : List Bool) (s : Says literals (λ x. has K (lit x))) where
  abbrev line_by : Fact → Line
  line_by f = record { fact = f; literal = literal_by literals f }

  line_by_lem : (f : Fact) → as_line K f ≡ line_by f
  line_by_lem f =
      let line : Bool → Line = λ b. record { fact = f; literal = eqb (kind f) 10 && b } in
      ap line (sym (s.at (second f)))

  lines_by : (l : List Fact) → text_of_lines (lines_for K l) ≡ concat_map (text_by literals) l
  lines_by [] = refl
  lines_by (f ∷ l) = step (has_line f) (lines_by l)
    where
      step : (b : Bool) → text_of_lines (lines_for K l) ≡ concat_map (text_by literals) l
          → text_of_lines (map (as_line K) (cond b (f ∷ filter has_line l) (filter has_line l)))
          ≡ cond b (line_of (line_by f)) [] ++ concat_map (text_by literals) l
      step true e = ap (λ x. line_of x ++ text_of_lines (lines_for K l)) (line_by_lem f) ∙ ap (λ m. line_of (line_by f) ++ m) e
      step false e = e

  text_by_lem : text_of K ≡ concat_map (text_by literals) K
  unfolding text_of
  text_by_lem = lines_by K

-- The text of the words before place i takes `at` bytes.
pub record Passed (t : List ℕ) (literals : List Bool) (i at : ℕ) : Type 0 where
  pub within : at ≤ length (text_of (facts_of t))
  pub rest : drop at (text_of (facts_of t)) ≡ concat_map (word_text literals) (drop i (filled t))

-- It stands over the bytes that were lent.
pub record Stands (t : List ℕ) (literals : List Bool) (out₀ out : List ℕ) (i at : ℕ) : Type 0 where
  pub passed : Passed t literals i at
  pub laid : Overlaid (text_of (facts_of t)) out₀ out at

module _ {t : List ℕ} {literals : List Bool} (s : Telling t literals) where
  abbrev n : ℕ
  n = length t

  abbrev text : List ℕ
  text = text_of (facts_of t)

  pub passed_start : Passed t literals 0 0
  passed_start = record {
    within = omega arith;
    rest = text_by_lem (facts_of t) literals s.flags ∙ concat_map_lem (fact product.base) (text_by literals) (filled t);
  }

  pub stands_start : (out : List ℕ) → Stands t literals out out 0 0
  stands_start out = record { passed = passed_start; laid = record { within = omega arith; so_far = refl } }

  module _ {i at : ℕ} (p : Passed t literals i at) where
    abbrev new : List ℕ
    new = word_text literals (get_or t i 0)

    abbrev later : List ℕ
    later = concat_map (word_text literals) (drop (i + 1) (filled t))

    module _ (h : i < n) where
      split : drop at text ≡ new ++ later
      split =
          let next : drop i (filled t) ≡ get_or t i 0 ∷ drop (i + 1) (filled t) =
          drop-cons (filled t) i 0 (omega (arith, h, s.full.size)) ∙ (ap (λ w. w ∷ drop (suc i) (filled t))
          (counted_at s.full i h) ∙ ap (λ m. get_or t i 0 ∷ drop m (filled t)) (sym (add-one i))) in
          p.rest ∙ ap (concat_map (word_text literals)) next

      pub passed_fits : at + length new ≤ length text
      passed_fits = omega (arith, p.within, length-drop at text, ap length split, length-append new later)

      pub passed_more : (next : ℕ) → next ≡ at + length new → Passed t literals (i + 1) next
      passed_more next e = record {
        within = omega (arith, e, passed_fits);
        rest = ap (λ m. drop m text) e ∙ (sym (drop-drop (length new) at text) ∙ (ap (drop (length new)) split
            ∙ drop_at new later (length new) refl));
      }

    pub passed_all : n ≤ i → at ≡ length text
    passed_all h =
        let none : drop i (filled t) ≡ [] = drop_of_length-le (filled t) {i = i} (omega (arith, h, s.full.size)) in
        omega (arith, p.within, length-drop at text, ap length (p.rest ∙ ap (concat_map (word_text literals)) none))

  module _ {out₀ out : List ℕ} {i at : ℕ} (e : Stands t literals out₀ out i at) where
    module _ (room : length text ≤ length out₀) where
      pub stands_length : length out ≡ length out₀
      stands_length = overlaid_length e.laid (omega (arith, e.laid.within, room))

      pub stands_room : i < n → at + length (word_text literals (get_or t i 0)) ≤ length out
      stands_room h = omega (arith, passed_fits e.passed h, stands_length, room)

    pub stands_more : i < n → (out' : List ℕ) (next : ℕ) → Puts out at (word_text literals (get_or t i 0)) out' next
        → Stands t literals out₀ out' (i + 1) next
    stands_more h out' next q = record {
      passed = passed_more e.passed h next q.end;
      laid = subst (Overlaid text out₀ out') (sym q.end) (overlaid_more e.laid (word_text literals (get_or t i 0)) _
          (split e.passed h) out' q.bytes_are);
    }

    pub stands_all : n ≤ i → out ≡ text ++ drop (length text) out₀
    stands_all h = overlaid_all e.laid (omega (arith, passed_all e.passed h))

-- It is no longer than the most words of a table with the longest line each.
parts_short : (each : ℕ → List ℕ) (l : List ℕ) → ((w : ℕ) → w ∈ l → length (each w) ≤ 154)
    → length (concat_map each l) ≤ 154 * length l
parts_short each [] h = omega arith
parts_short each (w ∷ l) h = omega (
  arith,
  length-append (each w) (concat_map each l),
  h w (here refl),
  parts_short each l (λ v i. h v (there i)),
)

pub text_short : {t : List ℕ} {literals : List Bool} → Telling t literals → length (text_of (facts_of t)) ≤ 154 * product.most
text_short {t} {literals = literals} s = omega (
  arith,
  ap length (passed_start s).rest,
  parts_short (word_text literals) (filled t) (λ w i. word_text_short literals w (laid_is_fact product t
      s.full.laid w i)),
  filled_within product t s.full.laid,
  s.fits,
)
