-- The ways through the host's check. An image that reading refuses with 3 is well formed and its words fit, so stored after all
-- they are a table that is laid out, and the rules that the table meets are those of the image's graph. Assumes nothing.
use Prim.Native.Nat.{ℕ, suc, ◌+◌, ◌≤◌}
use mathlib.Core.Path.{◌≡◌, sym, ap, subst, ◌∙◌}
use mathlib.Core.Bool.{false}
use mathlib.Core.List.{List, ◌++◌}
use native.Mathlib.Omega.{arith}
use native.Mathlib.Numerals.{add-one}
use lib.Dec.{T}
use lib.ListN.{length, drop}
use Rattle.rdfs.specs.Numbers.{product}
use Rattle.rdfs.specs.Facts.{graph}
use Rattle.rdfs.specs.Words.{laid_out, facts, padded}
use Rattle.rdfs.specs.Clashes.{is_consistent}
use Rattle.rdfs.specs.Refusals.{or_else, bad_size, inconsistent}
use Rattle.rdfs.proofs.Words.Tables.{padded_length}
use Rattle.table.specs.Counted.{facts_of}
use Rattle.table.proofs.Zeros.{drop_zeros}
use Rattle.contents.specs.ImageForm.{image_form}
use Rattle.contents.specs.Reading.{malformed}
use Rattle.contents.specs.Contents.{Contents}
use Rattle.contents.proofs.Product.{well_contents}
use Rattle.contents.proofs.ImageForms.{image_legible}
use Rattle.contents.proofs.RoundTrip.{read_well}
use Rattle.consistency.specs.Order.{rules_in_order, MetFirst}
use Rattle.reading.specs.ReadPromise.{image_words, read_answer, read_words}
use Rattle.reading.proofs.Held.{held_facts, held_laid}
use Rattle.reading.proofs.ReadCall.{read_refused, read_judged, read_parts}
use Rattle.exchange.specs.ToText.{room}
use Rattle.packing.specs.Packed.{packed}
use Rattle.exchange.specs.PlaceTold.{none, broken}
use Rattle.exchange.proofs.PlaceLaws.{third_breaks, zero_meets}
use Rattle.vimelosa.specs.HostCheck.{HostCheckPromise}

-- Accepted, or refused with another number.
pub way_other : (image : List ℕ) (n r : ℕ) → n ≡ read_answer room image → (n ≡ 3 → ⊥) → r ≡ packed n 0 0 0
    → HostCheckPromise image r
way_other image n r e h p = record { place = 0; number = p ∙ ap (λ m. packed m 0 0 0) e; rule = none (λ q. h (e ∙ q)) }

-- An image that is read is consistent.
pub accepted_consistent : (image : List ℕ) → read_answer room image ≡ 0 → T (is_consistent (facts product (image_words image)))
accepted_consistent image e = zero_meets (is_consistent (facts product (image_words image))) (read_parts room image (sym e)).3

module _ (image : List ℕ) (e : read_answer room image ≡ 3) where
  abbrev words : List ℕ
  words = image_words image

  -- What reading judged before 3.
  judged : (bad_size product room ≡ false) × (malformed product (image_form image) image ≡ false) × (length words ≤ length room)
      × (or_else (inconsistent product words) 3 0 ≡ 3)
  judged = read_judged room image 3 (omega arith) (omega arith) (sym e)

  pub refused_contents : Contents (image_form image) image
  refused_contents = well_contents (image_form image) (image_legible image).proper image judged.1

  pub refused_inconsistent : T (is_consistent (facts product words)) → ⊥
  refused_inconsistent = third_breaks (is_consistent (facts product words)) judged.3

  -- The words that reading leaves are as they were.
  module _ (table : List ℕ) (h : table ≡ read_words room image) where
    kept : table ≡ room
    kept = h ∙ sym (read_refused room image 3 (sym e) (omega arith)).1

    pub kept_fits : length words ≤ length table
    kept_fits = subst (λ l. length words ≤ length l) (sym kept) judged.2

    -- Then the image's words are stored.
    module _ (after : List ℕ) (q : after ≡ words ++ drop (length words) table) where
      held : after ≡ padded (length room) words
      held = q ∙ (ap (λ l. words ++ drop (length words) l) kept
          ∙ ap (λ l. words ++ l) (drop_zeros product.most (length words)))

      pub stored_laid : T (laid_out product 1 after)
      stored_laid =
          subst T (sym (ap (laid_out product 1) held ∙ held_laid room image judged.0 judged.2))
          (read_well product (image_form image) image judged.1).1

      pub stored_fits : length after ≤ product.most
      stored_fits = omega (arith, ap length held, padded_length (length room) words judged.2)

      pub way_broken : (n r : ℕ) → MetFirst (graph (facts_of after)) rules_in_order n → r ≡ packed 3 (n + 1) 0 0
          → HostCheckPromise image r
      way_broken n r m p =
          let same : facts_of after ≡ facts_of words = ap facts_of held ∙ held_facts room image judged.0 judged.2 in
          record {
            place = suc n;
            number = p ∙ (ap (λ k. packed 3 k 0 0) (add-one n) ∙ ap (λ k. packed k (suc n) 0 0) (sym e));
            rule = broken e (subst (λ K. MetFirst (graph K) rules_in_order n) same m);
          }
