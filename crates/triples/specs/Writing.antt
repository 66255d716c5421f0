-- What the steps of writing a text find and leave.
use Rattle.std.specs.Prelude.{ℕ, ◌≤◌, Bool, ◌&&◌, cond, List, [], eqb, length}
use Rattle.rdfs.specs.Numbers.{product}
use Rattle.rdfs.specs.Facts.{Fact, lit, kind, second, has}
use Rattle.table.specs.Counted.{Full, facts_of}
use Rattle.flags.specs.Flags.{flagged, Says}
use Rattle.triple_form.specs.Lines.{has_line, line_of}

-- By the flags of the literals: whether the object of a fact's line is one, and the line, or nothing.
abbrev pub literal_by : List Bool → Fact → Bool
literal_by literals f = eqb (kind f) 10 && flagged literals (second f)

abbrev pub text_by : List Bool → Fact → List ℕ
text_by literals f = cond (has_line f) (line_of (record { fact = f; literal = literal_by literals f })) []

-- Facts that can be written as a text, with a flag for each literal.
pub record Telling (facts : List ℕ) (literals : List Bool) : Type 0 where
  pub full : Full facts
  pub fits : length facts ≤ product.most
  pub flags : Says literals (λ x. has (facts_of facts) (lit x))
