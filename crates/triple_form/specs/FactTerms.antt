-- What the functions that serve `fact_of` find in three terms. No promise rests on these: `FactOf` says what
-- is read, by the terms of the lines that are written.
use Rattle.std.specs.Prelude.{ℕ, Bool, true, false, Option, None, Some}
use Rattle.terms.specs.declared.term.Term.{Term}
use Rattle.terms.specs.declared.term.Term.TheVariants.{Id, Literal}

-- The id of an IRI or of a literal.
abbrev pub id_in : Term → Option ℕ
id_in (Id n) = Some n
id_in (Literal n) = Some n
id_in _ = None

-- Whether a term is a literal.
abbrev pub is_literal : Term → Bool
is_literal (Literal n) = true
is_literal _ = false
