-- The forms that images are read in: both can be read, and which of them some bytes are read in. Assumes nothing.
use Prim.Native.Nat.{ℕ, ◌+◌, ◌*◌, ◌≤◌, ◌<◌}
use mathlib.Core.Path.{◌≡◌, refl, sym, ap, subst}
use mathlib.Core.Bool.{Bool, true, false, cond}
use mathlib.Core.List.{List}
use native.Mathlib.Omega.{arith}
use lib.Dec.{eqb, lit≤}
use lib.ListN.{length, get_or, get_or-eq_default}
use borrow.Author.Tests.{eq-eqb, ne_eqb}
use Rattle.rdfs.specs.Numbers.{Numbers, product}
use Rattle.contents.specs.ImageForm.{Form, form, ten_form, TenEntries, image_form, largest_fact, first_body}
use Rattle.contents.specs.Legible.{Legible}
use Rattle.contents.specs.Image.{image_of}
use Rattle.contents.proofs.Product.{legible}

-- The ten-entry form has the product's sizes.
pub ten_legible : Legible ten_form
ten_legible = record {
  proper = record { id = legible.proper.id; field = legible.proper.field };
  ids = legible.ids;
  fields = legible.fields;
  few = lit≤ tt;
  digits = legible.digits;
}

module _ (bytes : List ℕ) where
  pub image_legible : Legible (image_form bytes)
  unfolding image_form
  image_legible = by_entries (eqb (get_or bytes 1 0) ten_form.entries)
    where
      by_entries : (b : Bool) → Legible (cond b ten_form form)
      by_entries true = ten_legible
      by_entries false = legible

  -- No form that is read has longer images than the product's.
  pub form_longest : first_body (image_form bytes) + largest_fact (image_form bytes) * product.most
      ≤ first_body form + largest_fact form * product.most
  unfolding image_form
  form_longest = by_entries (eqb (get_or bytes 1 0) ten_form.entries)
    where
      by_entries : (b : Bool) → first_body (cond b ten_form form) + largest_fact (cond b ten_form form) * product.most
          ≤ first_body form + largest_fact form * product.most
      by_entries true = lit≤ tt
      by_entries false = lit≤ tt

  pub legible_given : (F : Form) → F ≡ image_form bytes → Legible F
  legible_given F e = subst Legible (sym e) image_legible

  -- Bytes that give ten entries, and others.
  pub ten_form_lem : TenEntries bytes → image_form bytes ≡ ten_form
  unfolding image_form
  ten_form_lem e = ap (λ b. cond b ten_form form) (eq-eqb (get_or bytes 1 0) ten_form.entries e)

  pub product_form : (TenEntries bytes → ⊥) → image_form bytes ≡ form
  unfolding image_form
  product_form n = ap (λ b. cond b ten_form form) (ne_eqb (get_or bytes 1 0) ten_form.entries n)

  -- Bytes too few to give a number of entries.
  pub short_form : length bytes < 2 → image_form bytes ≡ form
  short_form h =
      let none : get_or bytes 1 0 ≡ 0 = get_or-eq_default bytes 0 (omega arith) in
      product_form (λ e. omega (arith, e, none))

-- A form whose images are read in it.
abbrev pub Own : Form → Type 0
Own F = (N : Numbers) (l : List ℕ) → image_form (image_of N F l) ≡ F

pub form_own : Own form
unfolding image_form image_of
form_own N l = refl

pub ten_own : Own ten_form
unfolding image_form image_of
ten_own N l = refl
