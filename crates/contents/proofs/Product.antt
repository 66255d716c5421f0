-- The laws at the product's numbers, for the forms that the code reads; the product's form. Assumes nothing.
use Prim.Native.Nat.{ℕ}
use mathlib.Core.Path.{◌≡◌, refl, sym, ap, subst}
use mathlib.Core.Bool.{Bool, true, false, not}
use mathlib.Core.List.{List}
use lib.Dec.{T, lit≤, lit<}
use Rattle.rdfs.specs.Numbers.{product}
use Rattle.rdfs.specs.Words.{laid_out}
use Rattle.rdfs.specs.Refusals.{bad_layout}
use Rattle.rdfs.proofs.Lists.Tests.{Tests}
use Rattle.table.specs.Answers.{Decides}
use Rattle.table.proofs.TestAnswers.{decides_tests, decides_second}
use Rattle.contents.specs.ImageForm.{Form, Proper, form}
use Rattle.contents.specs.Legible.{Legible, Complete}
use Rattle.contents.specs.Reading.{words_of, malformed}
use Rattle.contents.specs.Contents.{Contents}
use Rattle.contents.proofs.InBytes.{AllBytes}
use Rattle.contents.proofs.ImageRead.{image_contents}
use Rattle.contents.proofs.RoundTrip.{tests_well, read_well}

pub proper : Proper form
proper = record { id = lit< tt; field = lit< tt }

pub legible : Legible form
legible = record { proper = proper; ids = lit≤ tt; fields = lit≤ tt; few = lit≤ tt; digits = lit≤ tt }

pub complete : Complete form
complete = record { legible = legible; edition = lit< tt; held = lit< tt; many = lit≤ tt; long = lit< tt }

decides_self : (b : Bool) → Decides b (T b)
decides_self true = tt
decides_self false = λ h. h

-- Bytes are well formed exactly if their contents are right and their words are laid out.
module _ {F : Form} (legible : Legible F) (bytes : List ℕ) (b : AllBytes bytes) where
  tests : Tests (not (malformed product F bytes)) (Contents F bytes × T (laid_out product 1 (words_of product F bytes)))
  tests = tests_well product F legible.proper legible.few bytes b legible.digits

  pub rising_well : Contents F bytes → (r : Bool) → r ≡ laid_out product 1 (words_of product F bytes)
      → r ≡ not (malformed product F bytes)
  rising_well c r e = decides_second r (not (malformed product F bytes)) tests c
      (subst (λ s. Decides s (T (laid_out product 1 (words_of product F bytes)))) (sym e)
      (decides_self (laid_out product 1 (words_of product F bytes))))

  -- Bytes with right contents are malformed exactly if their words are not laid out.
  pub right_malformed : Contents F bytes → malformed product F bytes ≡ bad_layout product (words_of product F bytes)
  right_malformed c = turned (malformed product F bytes) (laid_out product 1 (words_of product F bytes))
      (rising_well c (laid_out product 1 (words_of product F bytes)) refl)
    where
      turned : (a b : Bool) → b ≡ not a → a ≡ not b
      turned true b e = sym (ap not e)
      turned false b e = sym (ap not e)

  pub wrong_malformed : (Contents F bytes → ⊥) → false ≡ not (malformed product F bytes)
  wrong_malformed n = decides_tests false (not (malformed product F bytes)) (λ h. n h.0) tests

pub well_contents : (F : Form) → Proper F → (bytes : List ℕ) → malformed product F bytes ≡ false → Contents F bytes
well_contents F proper bytes e = subst (Contents F) (sym (read_well product F bytes e).0) (image_contents product F proper
    (words_of product F bytes))
