-- The line of a fact, and which lines are inside the profile.
use Rattle.std.specs.Prelude.{ℕ, Bool, not, ◌&&◌, ◌||◌, cond, List, ◌++◌, eqb, leb, Option, None, Some}
use Rattle.rdfs.specs.Facts.{Fact, cl, pr, ind, lit, excl, csub, psub, dom, rng, ci, pi, kind, second}
use Rattle.rdfs.specs.Words.{allowed}
use Rattle.terms.specs.Terms.{bytes, spelling, ended}
use Rattle.terms.specs.declared.term.Term.{Term}
use Rattle.terms.specs.declared.term.Term.TheVariants.{
  Id,
  Literal,
  RdfType,
  Class,
  Property,
  SubClassOf,
  SubPropertyOf,
  Domain,
  Range,
  Exclusive,
}

-- A line: a fact, and whether its object is a literal.
pub record Line : Type 0 where
  pub fact : Fact
  pub literal : Bool

-- Ind and Lit have no line.
abbrev pub has_line : Fact → Bool
has_line f = not (eqb (kind f) 3 || eqb (kind f) 4)

-- The three terms of a fact's line; a fact without a line has none. Of PI(a,b,c) they are a, c, b.
abbrev pub subject : Fact → Option Term
subject (cl a) = Some (Id a)
subject (pr a) = Some (Id a)
subject (ind a) = None
subject (lit a) = None
subject (csub a b) = Some (Id a)
subject (psub a b) = Some (Id a)
subject (dom a b) = Some (Id a)
subject (rng a b) = Some (Id a)
subject (ci a b) = Some (Id a)
subject (pi a b c) = Some (Id a)
subject (excl a) = Some (Id a)

abbrev pub predicate : Fact → Option Term
predicate (cl a) = Some RdfType
predicate (pr a) = Some RdfType
predicate (ind a) = None
predicate (lit a) = None
predicate (csub a b) = Some SubClassOf
predicate (psub a b) = Some SubPropertyOf
predicate (dom a b) = Some Domain
predicate (rng a b) = Some Range
predicate (ci a b) = Some RdfType
predicate (pi a b c) = Some (Id c)
predicate (excl a) = Some RdfType

abbrev pub object : Bool → Fact → Option Term
object literal (cl a) = Some Class
object literal (pr a) = Some Property
object literal (ind a) = None
object literal (lit a) = None
object literal (csub a b) = Some (Id b)
object literal (psub a b) = Some (Id b)
object literal (dom a b) = Some (Id b)
object literal (rng a b) = Some (Id b)
object literal (ci a b) = Some (Id b)
object literal (pi a b c) = Some (cond literal (Literal b) (Id b))
object literal (excl a) = Some Exclusive

-- Three terms with one blank between, then a blank, a full stop and a newline.
unfoldable pub line_of : Line → List ℕ
line_of line =
    ended (spelling (subject line.fact)) ++ (ended (spelling (predicate line.fact))
    ++ (ended (spelling (object line.literal line.fact)) ++ bytes ".\n"))

-- A line is inside the profile exactly if it is the line of a fact that a table can have; a literal is from 2
-- on and stands only as the object of a PI line.
abbrev pub in_profile : ℕ → Line → Bool
in_profile top line =
    has_line line.fact && (allowed top line.fact
    && (not line.literal || (eqb (kind line.fact) 10 && leb 2 (second line.fact))))

-- No line inside the profile has more bytes.
abbrev pub longest_line : ℕ
longest_line = 154
