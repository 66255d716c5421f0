-- The IRI of an id, by the id; how many bytes it and a literal take. Assumes nothing.
use Prim.Native.Nat.{ℕ, ◌+◌}
use mathlib.Core.Path.{◌≡◌, refl, ap, ◌∙◌}
use mathlib.Core.List.{◌++◌}
use native.Mathlib.Omega.{arith}
use lib.ListN.{length, length-append}
use borrow.Author.Tests.{ne_eqb}
use Rattle.terms.specs.Terms.{bytes, decimal, rdfs, id_term, spelt}
use Rattle.terms.specs.declared.term.Term.TheVariants.{Literal}

pub id_resource : {n : ℕ} → n ≡ 0 → id_term n ≡ rdfs "Resource>"
id_resource e = ap id_term e

pub id_mark : {n : ℕ} → n ≡ 1 → id_term n ≡ rdfs "Literal>"
id_mark e = ap id_term e

module _ (n : ℕ) where
  pub id_number : (n ≡ 0 → ⊥) → (n ≡ 1 → ⊥) → id_term n ≡ bytes "<urn:id:" ++ (decimal n ++ bytes ">")
  id_number z m = rw (ne_eqb n 0 z, ne_eqb n 1 m) refl

  pub number_length : (n ≡ 0 → ⊥) → (n ≡ 1 → ⊥) → length (id_term n) ≡ 9 + length (decimal n)
  number_length z m = ap length (id_number z m) ∙ omega (arith, length-append (decimal n) (bytes ">"))

  pub literal_length : length (spelt (Literal n)) ≡ 2 + length (decimal n)
  literal_length = omega (arith, length-append (decimal n) (bytes "\""))
