-- One line read at the start of the lines that are left of a text, and what it adds. Assumes nothing.
use Prim.Native.Nat.{ℕ, ◌≤◌, ◌<◌}
use mathlib.Core.Path.{◌≡◌, refl, sym, ap, subst, ◌∙◌}
use mathlib.Core.Bool.{Bool, false, ◌||◌, or_assoc, or-false}
use mathlib.Core.List.{List, [], ◌∷◌, map}
use native.Mathlib.Omega.{arith}
use native.Mathlib.Decide.{dec_lt}
use lib.Dec.{T, eqb}
use borrow.Author.Tests.{ne_eqb}
use lib.ListN.{length, length-append}
use Rattle.rdfs.specs.Numbers.{product}
use Rattle.rdfs.specs.Lists.{any}
use Rattle.rdfs.specs.Words.{word}
use Rattle.rdfs.proofs.Words.LaidOut.{fact_says}
use Rattle.flags.specs.Flags.{flagged, Adds}
use Rattle.triple_form.specs.Lines.{Line, line_of}
use Rattle.triple_form.specs.LineRead.{word_line, LineRead, NoLine}
use Rattle.triple_form.proofs.LineLength.{line_some}
use Rattle.triples.specs.TextRead.{lines_read, all_inside, as_literal, as_iri, is_member}
use Rattle.triples.specs.Storing.{FlagsLines, line_words}
use Rattle.triples.specs.declared.seen.Seen.{Seen}
use Rattle.triples.proofs.LinesRead.{top, lines_read_none, lines_read_more}
use Rattle.triples.proofs.AllInside.{inside_none, inside_more, inside_never}

-- No line stands there: all lines are inside the profile only at the end.
module _ {l : List ℕ} (n : NoLine l) where
  no_line_inside : 1 ≤ length l → all_inside top l ≡ false
  no_line_inside long = inside_never l long (λ x rest h e. n.none x rest h e)

  pub at_end : T (all_inside top l) → l ≡ []
  at_end t = elim (dec_lt 0 (length l)) [
    | yes h ↦ absurd (subst T (no_line_inside h) t)
    | no h ↦ length_none l (omega (arith, h))
  ]
    where
      length_none : (m : List ℕ) → length m ≡ 0 → m ≡ []
      length_none [] e = refl
      length_none (x ∷ m) e = absurd (omega (arith, e))

  pub is_end : {b : Bool} → b ≡ eqb (length l) 0 → b ≡ all_inside top l
  is_end {b} e = elim (dec_lt 0 (length l)) [
    | yes h ↦ e ∙ (ne_eqb (length l) 0 (λ z. omega (arith, z, h)) ∙ sym (no_line_inside h))
    | no h ↦ by l (omega (arith, h)) e
  ]
    where
      by : (m : List ℕ) → length m ≡ 0 → b ≡ eqb (length m) 0 → b ≡ all_inside top m
      by [] z q = q ∙ sym inside_none
      by (x ∷ m) z q = absurd (omega (arith, z))

-- A line stands there.
module _ {l : List ℕ} {w : ℕ} {literal : Bool} {left : List ℕ} (r : LineRead l w literal left) where
  line_first : lines_read top l ≡ word_line w literal ∷ lines_read top left
  line_first = ap (lines_read top) r.sound.2 ∙ lines_read_more (word_line w literal) left r.sound.1

  pub line_inside : all_inside top l ≡ all_inside top left
  line_inside = ap (all_inside top) r.sound.2 ∙ inside_more (word_line w literal) left r.sound.1

  pub line_shorter : length left < length l
  line_shorter = omega (
    arith,
    ap length r.sound.2,
    length-append (line_of (word_line w literal)) left,
    line_some (word_line w literal),
  )

  pub line_words_lem : line_words l ≡ w ∷ line_words left
  line_words_lem = ap (map (λ x. word product.base x.fact)) line_first
      ∙ ap (λ n. n ∷ line_words left) (fact_says product w r.sound.0)

  -- A test of its lines.
  line_any : (test : Line → Bool)
      → any test (lines_read top l) ≡ (test (word_line w literal) || any test (lines_read top left))
  line_any test = ap (any test) line_first

-- The lines in front of what is left are inside the profile, and the ids that they have by a test are flagged.
pub record Flagging (test : ℕ → Line → Bool) (text left : List ℕ) (old new : List Bool) : Type 0 where
  pub rest : (n : ℕ) → (flagged old n || any (test n) (lines_read top text)) ≡ (flagged new n || any (test n)
      (lines_read top left))

flagging_start : (test : ℕ → Line → Bool) (text : List ℕ) (old : List Bool) → Flagging test text text old old
flagging_start test text old = record { rest = λ n. refl }

module _ {test : ℕ → Line → Bool} {text left : List ℕ} {old new : List Bool} (f : Flagging test text left old new) where
  flagging_more : {w : ℕ} {literal : Bool} {next : List ℕ} → LineRead left w literal next → {newer : List Bool}
      → Adds new newer (λ n. test n (word_line w literal)) → Flagging test text next old newer
  flagging_more {w} {literal} {next} r {newer} a = record {
    rest = λ n.
        let x : Line = word_line w literal in
        let rest : Bool = any (test n) (lines_read top next) in
        f.rest n ∙ (ap (λ b. flagged new n || b) (line_any r (test n))
        ∙ (sym (or_assoc (flagged new n) (test n x) rest) ∙ ap (λ b. b || rest) (sym (a.at n))));
  }

  -- The end.
  flagging_done : {inside : Bool} → (T inside → left ≡ []) → FlagsLines test text inside old new
  flagging_done e = record {
    adds = λ t. record {
      at = λ n. sym (f.rest n ∙ (ap (λ m. flagged new n || any (test n) m)
          (ap (lines_read top) (e t) ∙ lines_read_none) ∙ or-false (flagged new n)));
    };
  }

-- The same of all three.
pub record Judging (text left : List ℕ) (before now : Seen) : Type 0 where
  pub inside : all_inside top text ≡ all_inside top left
  pub literals_are : Flagging as_literal text left before.literals now.literals
  pub values_are : Flagging as_iri text left before.values now.values
  pub members_are : Flagging is_member text left before.members now.members

pub judging_start : (text : List ℕ) (seen : Seen) → Judging text text seen seen
judging_start text seen = record {
  inside = refl;
  literals_are = flagging_start as_literal text seen.literals;
  values_are = flagging_start as_iri text seen.values;
  members_are = flagging_start is_member text seen.members;
}

module _ {text left : List ℕ} {before now : Seen} (j : Judging text left before now) where
  pub judging_more : {w : ℕ} {literal : Bool} {next : List ℕ} → LineRead left w literal next → (newer : Seen)
      → Adds now.literals newer.literals (λ n. as_literal n (word_line w literal))
      → Adds now.values newer.values (λ n. as_iri n (word_line w literal))
      → Adds now.members newer.members (λ n. is_member n (word_line w literal)) → Judging text next before newer
  judging_more r newer a b c = record {
    inside = j.inside ∙ line_inside r;
    literals_are = flagging_more j.literals_are r a;
    values_are = flagging_more j.values_are r b;
    members_are = flagging_more j.members_are r c;
  }

  -- No line stands there: the end, or a line outside the profile.
  module _ (n : NoLine left) {b : Bool} (e : b ≡ eqb (length left) 0) where
    pub judged : b ≡ all_inside top text
    judged = is_end n e ∙ sym j.inside

    ended : T b → left ≡ []
    ended t = at_end n (subst T (is_end n e) t)

    pub judged_literals : FlagsLines as_literal text b before.literals now.literals
    judged_literals = flagging_done j.literals_are ended

    pub judged_values : FlagsLines as_iri text b before.values now.values
    judged_values = flagging_done j.values_are ended

    pub judged_members : FlagsLines is_member text b before.members now.members
    judged_members = flagging_done j.members_are ended
