-- The text of a table's facts.
use Rattle.std.specs.Prelude.{ℕ, Bool, ◌&&◌, List, map, eqb}
use Rattle.rdfs.specs.Lists.{filter, concat_map}
use Rattle.rdfs.specs.Facts.{Fact, lit, kind, second, has}
use Rattle.triple_form.specs.Lines.{Line, has_line, line_of}

-- Of PI(a,b,c) the object is a literal exactly if Lit(b) is among the facts.
abbrev pub literal_in : List Fact → Fact → Bool
literal_in K f = eqb (kind f) 10 && has K (lit (second f))

-- The lines of facts among the facts K, in order; Ind and Lit have none.
abbrev pub as_line : List Fact → Fact → Line
as_line K f = record { fact = f; literal = literal_in K f }

abbrev pub lines_for : List Fact → List Fact → List Line
lines_for K l = map (as_line K) (filter has_line l)

-- The text of some lines, and of the facts of a table.
abbrev pub text_of_lines : List Line → List ℕ
text_of_lines L = concat_map line_of L

unfoldable pub text_of : List Fact → List ℕ
text_of K = text_of_lines (lines_for K K)
