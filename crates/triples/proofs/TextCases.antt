-- Worked examples of texts, computed on the definitions. Assumes nothing.
use Prim.Native.Nat.{ℕ}
use mathlib.Core.Path.{◌≡◌, refl}
use mathlib.Core.Bool.{true, false}
use mathlib.Core.List.{List, [], ◌∷◌, ◌++◌, map}
use lib.ListN.{length}
use Rattle.rdfs.specs.Numbers.{product}
use Rattle.rdfs.specs.Facts.{Fact, cl, pr, ind, lit, excl, csub, dom, rng, ci, pi}
use Rattle.rdfs.specs.Words.{words}
use Rattle.terms.specs.Terms.{bytes, rdf, rdfs, decimal}
use Rattle.triple_form.specs.Lines.{Line, line_of}
use Rattle.triples.specs.Texts.{lines_for, text_of}
use Rattle.triples.specs.TextRead.{lines_read, line_read, text_words}

-- The table after P1 to P7.
abbrev plant : List Fact
plant =
    cl 0 ∷ cl 2 ∷ cl 3 ∷ pr 5 ∷ ind 4 ∷ ind 6 ∷ lit 7 ∷ csub 2 0 ∷ csub 3 0 ∷ csub 3 2 ∷ dom 5 2 ∷ rng 5 1 ∷ ci 4 0 ∷ ci 6 0
    ∷ ci 6 2 ∷ pi 6 7 5 ∷ []

line_lengths : map (λ x. length (line_of x)) (lines_for plant plant)
    ≡ 145 ∷ 108 ∷ 108 ∷ 117 ∷ 111 ∷ 111 ∷ 74 ∷ 70 ∷ 105 ∷ 111 ∷ 111 ∷ 74 ∷ 28 ∷ []
unfolding line_of decimal
line_lengths = refl

text_length : length (text_of plant) ≡ 1273
unfolding text_of line_of decimal
text_length = refl

last_line : line_read product.top (bytes "<urn:id:6> <urn:id:5> \"7\" .\n") ≡ record { fact = pi 6 7 5; literal = true } ∷ []
unfolding line_read line_of decimal
last_line = refl

whole : text_words product (text_of plant) ≡ words product plant
unfolding text_words text_of lines_read line_read line_of decimal
whole = refl

-- The line of an exclusive property, of Excl(0), which is a fact, and of Excl(1), which is none; a table with such a line.
abbrev exclusive_line : List ℕ → List ℕ
exclusive_line subject = subject ++ (bytes " " ++ (rdf "type>" ++ bytes " <urn:mark:excl> .\n"))

abbrev read_as : List ℕ → List Line
read_as l = line_read product.top l

exclusive_line_lem : read_as (exclusive_line (bytes "<urn:id:5>")) ≡ record { fact = excl 5; literal = false } ∷ []
unfolding line_read line_of decimal
exclusive_line_lem = refl

exclusive_resource : read_as (exclusive_line (rdfs "Resource>")) ≡ record { fact = excl 0; literal = false } ∷ []
unfolding line_read line_of decimal
exclusive_resource = refl

exclusive_mark : read_as (exclusive_line (rdfs "Literal>")) ≡ []
unfolding line_read line_of decimal
exclusive_mark = refl

abbrev poller : List Fact
poller = cl 0 ∷ pr 5 ∷ dom 5 0 ∷ rng 5 0 ∷ excl 5 ∷ []

poller_lengths : map (λ x. length (line_of x)) (lines_for poller poller) ≡ 145 ∷ 117 ∷ 107 ∷ 106 ∷ 79 ∷ []
unfolding line_of decimal
poller_lengths = refl

poller_whole : text_words product (text_of poller) ≡ words product poller
unfolding text_words text_of lines_read line_read line_of decimal
poller_whole = refl
