-- The length of a line: three terms, three blanks, a full stop and a newline. Inside the profile it is 154 at most; the line of
-- Pr(0) has as many. Assumes nothing.
use Prim.Native.Nat.{ℕ, ◌+◌, ◌≤◌}
use mathlib.Core.Path.{◌≡◌, refl, ap}
use mathlib.Core.Bool.{Bool, true, false, not, ◌&&◌, ◌||◌}
use mathlib.Core.List.{List, ◌++◌}
use native.Mathlib.Omega.{arith}
use lib.Dec.{T, eqb, leb}
use lib.ListN.{length, length-append}
use borrow.Author.Tests.{eqb-true, eqb-false}
use Rattle.rdfs.specs.Numbers.{product}
use Rattle.rdfs.specs.Facts.{Fact, cl, pr, ind, lit, excl, csub, psub, dom, rng, ci, pi, kind, second}
use Rattle.rdfs.specs.Words.{is_fact, allowed}
use Rattle.rdfs.proofs.Lists.Tests.{and_both}
use Rattle.rdfs.proofs.Words.Allowed.{Fields, fields}
use Rattle.rdfs.proofs.Words.LaidOut.{fact_allowed}
use Rattle.terms.specs.Terms.{bytes, id_term, spelling}
use Rattle.terms.specs.Terms.{ended}
use Rattle.triple_form.specs.Lines.{Line, has_line, subject, predicate, object, line_of, in_profile}
use Rattle.triple_form.specs.LineRead.{word_line}
use Rattle.terms.proofs.DigitCount.{count_three}
use Rattle.terms.proofs.IdSpelt.{id_resource, id_mark, number_length, literal_length}

ended_length : (term : List ℕ) → length (ended term) ≡ length term + 1
ended_length term = length-append term (bytes " ")

pub line_length : (line : Line) → length (line_of line) ≡ length (spelling (subject line.fact))
    + length (spelling (predicate line.fact)) + length (spelling (object line.literal line.fact)) + 5
unfolding line_of
line_length line =
    let s : List ℕ = spelling (subject line.fact) in
    let p : List ℕ = spelling (predicate line.fact) in
    let o : List ℕ = spelling (object line.literal line.fact) in
    let last : List ℕ = ended o ++ bytes ".\n" in
    omega (
      arith,
      length-append (ended s) (ended p ++ last),
      length-append (ended p) last,
      length-append (ended o) (bytes ".\n"),
      ended_length s,
      ended_length p,
      ended_length o,
    )

pub line_some : (line : Line) → 1 ≤ length (line_of line)
line_some line = omega (arith, line_length line)

-- A term with an id of the product.
id_short : (n : ℕ) → n ≤ product.top → length (id_term n) ≤ 47
id_short n h = by (eqb n 0) refl (eqb n 1) refl
  where
    by : (a : Bool) → eqb n 0 ≡ a → (b : Bool) → eqb n 1 ≡ b → length (id_term n) ≤ 47
    by true d b e = omega (arith, ap length (id_resource (eqb-true n 0 d)))
    by false d true e = omega (arith, ap length (id_mark (eqb-true n 1 e)))
    by false d false e = omega (arith, number_length n (eqb-false n 0 d) (eqb-false n 1 e), count_three n (omega arith))

value_short : (literal : Bool) (n : ℕ) (a c : ℕ) → n ≤ product.top → length (spelling (object literal (pi a n c))) ≤ 47
value_short true n a c h = omega (arith, literal_length n, count_three n (omega arith))
value_short false n a c h = id_short n h

terms_short : (literal : Bool) (f : Fact) → Fields product.top f
    → length (spelling (subject f)) + length (spelling (predicate f)) + length (spelling (object literal f)) ≤ 149
terms_short literal (cl a) h = omega (arith, id_short a h.one)
terms_short literal (pr a) h = omega (arith, id_short a h.one)
terms_short literal (ind a) h = omega arith
terms_short literal (lit a) h = omega arith
terms_short literal (csub a b) h = omega (arith, id_short a h.one, id_short b h.two)
terms_short literal (psub a b) h = omega (arith, id_short a h.one, id_short b h.two)
terms_short literal (dom a b) h = omega (arith, id_short a h.one, id_short b h.two)
terms_short literal (rng a b) h = omega (arith, id_short a h.one, id_short b h.two)
terms_short literal (ci a b) h = omega (arith, id_short a h.one, id_short b h.two)
terms_short literal (pi a b c) h =
    omega (arith, id_short a h.one, value_short literal b a c h.two, id_short c h.three)
terms_short literal (excl a) h = omega (arith, id_short a h.one)

allowed_short : (line : Line) → T (allowed product.top line.fact) → length (line_of line) ≤ 154
allowed_short line h =
    omega (arith, line_length line, terms_short line.literal line.fact (fields product.top line.fact h))

pub line_short : (line : Line) → T (in_profile product.top line) → length (line_of line) ≤ 154
line_short line h =
    let f : Fact = line.fact in
    let literal : Bool = not line.literal || (eqb (kind f) 10 && leb 2 (second f)) in
    let others : T (allowed product.top f && literal) = (and_both (has_line f) (allowed product.top f && literal) h).1 in
    allowed_short line (and_both (allowed product.top f) literal others).0

pub word_short : (w : ℕ) (literal : Bool) → T (is_fact product w) → length (line_of (word_line w literal)) ≤ 154
word_short w literal h = allowed_short (word_line w literal) (fact_allowed product w h)
