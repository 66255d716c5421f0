-- The words that bytes give, in a table with zeros after them. Assumes nothing.
use Prim.Native.Nat.{ℕ, suc, ◌-◌, ◌≤◌, ◌<◌}
use mathlib.Core.Path.{◌≡◌, refl, sym, ap, ◌∙◌}
use mathlib.Core.Bool.{false, not, ◌&&◌, ◌||◌}
use mathlib.Core.List.{List, [], ◌∷◌, ◌++◌, map}
use native.Mathlib.Omega.{arith}
use lib.Dec.{ltb, leb}
use lib.ListN.{length, replicate}
use Rattle.rdfs.specs.Numbers.{product}
use Rattle.rdfs.specs.Lists.{◌∈◌, here, there}
use Rattle.rdfs.specs.Clashes.{is_consistent}
use Rattle.rdfs.specs.Words.{fact, is_fact, laid_out, filled, facts, padded}
use Rattle.rdfs.specs.Refusals.{or_else, bad_size, bad_layout, inconsistent, table_refusal}
use Rattle.rdfs.proofs.Lists.ListLaws.{none_in}
use Rattle.rdfs.proofs.Words.LaidOut.{filled_before, laid_from}
use Rattle.rdfs.proofs.Words.Tables.{padded_length}
use Rattle.rdfs.proofs.Theorems.{product_sound}
use Rattle.table.proofs.TestAnswers.{is_true}
use Rattle.table.proofs.LayoutWalks.{laid_some}
use Rattle.contents.specs.ImageForm.{image_form}
use Rattle.contents.specs.Reading.{words_of}
use Rattle.contents.proofs.RoundTrip.{words_some, words_full}

-- Words that are no zeros are laid out if they are with zeros after them, and only then.
laid_before : (last : ℕ) (l : List ℕ) (m : ℕ) → ((x : ℕ) → x ∈ l → 0 < x) → laid_out product (suc last) (l ++ replicate m 0)
    ≡ laid_out product (suc last) l
laid_before last [] m h = is_true {b = laid_out product (suc last) (replicate m 0)} (laid_from product (suc last) [] m
    (omega arith) tt (λ x k. absurd (none_in k)))
laid_before last (w ∷ l) m h =
    let some : 0 < w = h w (here refl) in
    laid_some (suc last) w (l ++ replicate m 0) some
    ∙ (ap (λ b. leb (suc last) w && (is_fact product w && b)) (laid_before w l m (λ x k. h x (there k)))
    ∙ sym (laid_some (suc last) w l some))

-- A table of right size that holds the words of some bytes, then zeros.
module _ (t bytes : List ℕ) (size : bad_size product t ≡ false) (h : length (words_of product
    (image_form bytes) bytes) ≤ length t) where
  abbrev l : List ℕ
  l = words_of product (image_form bytes) bytes

  abbrev held : List ℕ
  held = padded (length t) l

  pub held_filled : filled held ≡ l
  held_filled = filled_before l (length t - length l) (words_some product (image_form bytes) product_sound bytes)

  pub held_facts : facts product held ≡ facts product l
  held_facts = ap (map (fact product.base)) (held_filled ∙ sym (words_full product (image_form bytes) product_sound bytes))

  pub held_laid : laid_out product 1 held ≡ laid_out product 1 l
  held_laid = laid_before 0 l (length t - length l) (words_some product (image_form bytes) product_sound bytes)

  -- Its refusals are those of the words.
  pub held_checked : table_refusal product held 0 ≡ or_else (bad_layout product l) 2 (or_else (inconsistent product l) 3 0)
  held_checked =
      let sized : bad_size product held ≡ false = ap (λ n. leb n 0 || ltb product.most n) (padded_length (length t) l h)
      ∙ size in
      let laid : bad_layout product held ≡ bad_layout product l = ap not held_laid in
      let same : inconsistent product held ≡ inconsistent product l = ap (λ K. not (is_consistent K)) held_facts in
      ap (λ b. or_else b 1 (or_else (bad_layout product held) 2 (or_else (inconsistent product held) 3 0))) sized
      ∙ (ap (λ b. or_else b 2 (or_else (inconsistent product held) 3 0)) laid
      ∙ ap (λ b. or_else (bad_layout product l) 2 (or_else b 3 0)) same)
