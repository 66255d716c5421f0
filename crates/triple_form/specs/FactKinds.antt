-- The kind that a line's terms tell, for the functions that serve `fact_of`. No promise rests on these, as in
-- `FactTerms`.
use Rattle.std.specs.Prelude.{ℕ, Option, None, Some}
use Rattle.terms.specs.declared.term.Term.{Term}
use Rattle.terms.specs.declared.term.Term.TheVariants.{
  Id,
  Literal,
  RdfType,
  Property,
  Class,
  SubClassOf,
  SubPropertyOf,
  Domain,
  Range,
  Exclusive,
}

-- The kind of a line of rdf:type, by its object.
abbrev pub typed_kind : Term → Option ℕ
typed_kind (Id n) = Some 9
typed_kind Property = Some 2
typed_kind Class = Some 1
typed_kind Exclusive = Some 11
typed_kind _ = None

-- The kind k, if a term is the IRI of an id.
abbrev pub linked_kind : ℕ → Term → Option ℕ
linked_kind k (Id n) = Some k
linked_kind k _ = None

-- The kind of a line of a property.
abbrev pub value_kind : Term → Option ℕ
value_kind (Id n) = Some 10
value_kind (Literal n) = Some 10
value_kind _ = None

-- The kind of a line, by its predicate and its object.
abbrev pub kind_by : Term → Term → Option ℕ
kind_by (Id n) o = value_kind o
kind_by RdfType o = typed_kind o
kind_by SubClassOf o = linked_kind 5 o
kind_by SubPropertyOf o = linked_kind 6 o
kind_by Domain o = linked_kind 7 o
kind_by Range o = linked_kind 8 o
kind_by _ o = None
