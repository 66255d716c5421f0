-- The lines and the facts that a text gives, and which texts are outside the profile.
use Rattle.std.specs.Prelude.{ℕ, zero, suc, Bool, not, ◌&&◌, ◌||◌, cond, List, [], ◌∷◌, ◌++◌, eqb, take, get_or}
use Rattle.rdfs.specs.Numbers.{Numbers}
use Rattle.rdfs.specs.Lists.{filter, concat_map, any, same_list}
use Rattle.rdfs.specs.Facts.{Fact, ind, lit, kind, first, second, made}
use Rattle.rdfs.specs.Words.{words}
use Rattle.terms.specs.Terms.{spelt, ended}
use Rattle.triple_form.specs.Lines.{Line, line_of, in_profile}
use Rattle.terms.specs.declared.term.Term.TheVariants.{Id, Literal}
use Rattle.triples.specs.Texts.{text_of_lines}

-- A byte in front of the first of some runs.
abbrev pub onto : ℕ → List (List ℕ) → List (List ℕ)
onto x [] = (x ∷ []) ∷ []
onto x (l ∷ m) = (x ∷ l) ∷ m

-- Bytes cut after each byte of one value: a text's lines, each with its newline, and a line's parts, each
-- with its blank.
abbrev pub cut_after : ℕ → List ℕ → List (List ℕ)
cut_after end [] = []
cut_after end (x ∷ l) = cond (eqb x end) ((x ∷ []) ∷ cut_after end l) (onto x (cut_after end l))

-- A part is the IRI of n, or the literal n, with its blank.
abbrev pub names : List ℕ → ℕ → Bool
names part n = same_list part (ended (spelt (Id n))) || same_list part (ended (spelt (Literal n)))

-- The highest number up to a bound that a part names; 0 where it names none.
abbrev pub id_of : ℕ → List ℕ → ℕ
id_of zero part = 0
id_of (suc n) part = cond (names part (suc n)) (suc n) (id_of n part)

-- The kinds of the facts that have a line.
abbrev pub line_kinds : List ℕ
line_kinds = 1 ∷ 2 ∷ 5 ∷ 6 ∷ 7 ∷ 8 ∷ 9 ∷ 10 ∷ 11 ∷ []

-- Guesses at the line that some bytes are: of each kind, with the ids that the parts name. A guess counts
-- only if its own bytes are these (`line_read`), and no line is missed (`line_read_of`). Of PI(a,b,c) the parts
-- are a, c, b.
abbrev pub both_of : Fact → List Line
both_of f = record { fact = f; literal = Bool.false } ∷ record { fact = f; literal = Bool.true } ∷ []

abbrev pub could_be : ℕ → List ℕ → List Line
could_be top bytes =
    let parts : List (List ℕ) = cut_after 32 bytes in
    concat_map (λ k. both_of (made k (id_of top (get_or parts 0 [])) (id_of top (get_or parts 2 [])) (id_of top
    (get_or parts 1 [])))) line_kinds

-- The line inside the profile that some bytes are, if they are one.
unfoldable pub line_read : ℕ → List ℕ → List Line
line_read top bytes = take 1 (filter (λ x. same_list (line_of x) bytes && in_profile top x) (could_be top bytes))

-- The lines inside the profile that a text has.
unfoldable pub lines_read : ℕ → List ℕ → List Line
lines_read top text = concat_map (line_read top) (cut_after 10 text)

-- Each line of the text is inside the profile.
unfoldable pub all_inside : ℕ → List ℕ → Bool
all_inside top text = same_list text (text_of_lines (lines_read top text))

-- A line has id n as a literal, or as the IRI of a value.
abbrev pub as_literal : ℕ → Line → Bool
as_literal n x = x.literal && eqb (second x.fact) n

abbrev pub as_iri : ℕ → Line → Bool
as_iri n x = (eqb (kind x.fact) 10 && not x.literal) && eqb (second x.fact) n

-- A line has the IRI of an id as its value that another line has as a literal.
abbrev pub told_twice : List Line → Bool
told_twice L = any (λ x. as_iri (second x.fact) x && any (as_literal (second x.fact)) L) L

-- 15: a line outside the profile, or lines that tell of one id as an IRI and as a literal.
abbrev pub outside_profile : ℕ → List ℕ → Bool
outside_profile top text = not (all_inside top text) || told_twice (lines_read top text)

-- The facts that a line gives: its own, Ind(a) for CI(a,0), Lit(n) for a literal n.
abbrev pub is_member : ℕ → Line → Bool
is_member n x = (eqb (kind x.fact) 9 && eqb (second x.fact) 0) && eqb (first x.fact) n

abbrev pub given : Line → List Fact
given x =
    x.fact ∷ (cond (is_member (first x.fact) x) (ind (first x.fact) ∷ []) [] ++ cond x.literal
    (lit (second x.fact) ∷ []) [])

-- The words of the facts that a text gives.
unfoldable pub text_words : Numbers → List ℕ → List ℕ
text_words N text = words N (concat_map given (lines_read N.top text))
