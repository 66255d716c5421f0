-- The terms of the profile of N-Triples, each as the bytes that spell it.
use Rattle.std.specs.Prelude.{ℕ, zero, suc, ◌+◌, ◌/◌, ◌%◌, ◌≤◌, cond, List, [], ◌∷◌, ◌++◌, eqb, ltb, Option, None, Some}
use Prim.Native.String.{String, [] as none, ◌∷◌ as ◌then◌}
use Prim.Native.Char.{code}
use Rattle.terms.specs.declared.term.Term.{Term}
use Rattle.terms.specs.declared.term.Term.TheVariants.{
  Id,
  Literal,
  RdfType,
  Class,
  Property,
  SubClassOf,
  SubPropertyOf,
  Domain,
  Range,
  Exclusive,
}

-- The bytes of a text of ASCII characters.
abbrev pub bytes : String → List ℕ
bytes none = []
bytes (c then s) = code c ∷ bytes s

-- A number in decimal, without leading zeros. The first argument bounds the steps: a number has no more
-- digits before its last than its value.
abbrev pub decimal_within : ℕ → ℕ → List ℕ
decimal_within zero n = (48 + n) ∷ []
decimal_within (suc more) n =
    cond (ltb n 10) ((48 + n) ∷ []) (decimal_within more (n / 10) ++ ((48 + n % 10) ∷ []))

unfoldable pub decimal : ℕ → List ℕ
decimal n = decimal_within n n

-- The IRIs of RDF and of RDF Schema, by their local names with the closing `>`.
abbrev pub rdf : String → List ℕ
rdf name = bytes "<http://www.w3.org/1999/02/22-rdf-syntax-ns#" ++ bytes name

abbrev pub rdfs : String → List ℕ
rdfs name = bytes "<http://www.w3.org/2000/01/rdf-schema#" ++ bytes name

-- The IRI of an id: id 0 is rdfs:Resource, and the mark, id 1, rdfs:Literal.
abbrev pub id_term : ℕ → List ℕ
id_term n =
    cond (eqb n 0) (rdfs "Resource>") (cond (eqb n 1) (rdfs "Literal>")
    (bytes "<urn:id:" ++ (decimal n ++ bytes ">")))

-- The bytes of a term.
abbrev pub spelt : Term → List ℕ
spelt (Id n) = id_term n
spelt (Literal n) = bytes "\"" ++ (decimal n ++ bytes "\"")
spelt RdfType = rdf "type>"
spelt Property = rdf "Property>"
spelt Class = rdfs "Class>"
spelt SubClassOf = rdfs "subClassOf>"
spelt SubPropertyOf = rdfs "subPropertyOf>"
spelt Domain = rdfs "domain>"
spelt Range = rdfs "range>"
spelt Exclusive = bytes "<urn:mark:excl>"

-- The same where there may be no term: then no byte.
abbrev pub spelling : Option Term → List ℕ
spelling None = []
spelling (Some t) = spelt t

-- Bytes with a blank behind them.
abbrev pub ended : List ℕ → List ℕ
ended term = term ++ bytes " "

-- A term with ids up to the highest; a literal is from 2 on.
abbrev pub Proper : ℕ → Term → Type 0
Proper top (Id n) = n ≤ top
Proper top (Literal n) = (2 ≤ n) × (n ≤ top)
Proper top RdfType = Unit {0}
Proper top Property = Unit {0}
Proper top Class = Unit {0}
Proper top SubClassOf = Unit {0}
Proper top SubPropertyOf = Unit {0}
Proper top Domain = Unit {0}
Proper top Range = Unit {0}
Proper top Exclusive = Unit {0}

-- There is a term, and it is a proper one.
abbrev pub ProperSome : ℕ → Option Term → Type 0
ProperSome top None = ⊥
ProperSome top (Some t) = Proper top t
