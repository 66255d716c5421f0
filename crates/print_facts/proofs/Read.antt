-- What a table of zeros holds after an image is read into it; which images some bytes of the input can begin. Assumes nothing.
use Prim.Native.Nat.{ℕ, ◌+◌, ◌-◌, ◌*◌, ◌≤◌, ◌<◌}
use mathlib.Core.Path.{◌≡◌, refl, sym, ap, subst, ◌∙◌}
use mathlib.Core.Bool.{Bool, true, false, cond}
use mathlib.Core.List.{List, []}
use native.Mathlib.Omega.{arith}
use native.Mathlib.Decide.{ℕ_discrete}
use lib.Dec.{eqb}
use lib.ListN.{length, replicate, take, length-take}
use lib.Seq.{length-take-le, take_all}
use Rattle.rdfs.specs.Numbers.{product}
use borrow.Author.Tests.{ne_eqb}
use Rattle.rdfs.specs.Words.{filled, padded}
use Rattle.rdfs.proofs.Lists.ListLaws.{none_in}
use Rattle.rdfs.proofs.Words.LaidOut.{filled_before}
use Rattle.rdfs.proofs.Theorems.{product_sound}
use Rattle.contents.specs.ImageForm.{form, image_form, largest_fact, first_body}
use Rattle.contents.proofs.RoundTrip.{words_some}
use Rattle.reading.specs.ReadPromise.{image_words, read_answer, read_words}
use Rattle.image.proofs.ImageTheorems.{read_short}
use Rattle.print_facts.specs.FactLines.{WordsPrinted, FactsPrinted, ImageLent, words_read}

abbrev room : List ℕ
room = replicate product.most 0

pub filled_read : (image : List ℕ) → filled (read_words (replicate product.most 0) image) ≡ words_read image
filled_read image = by_answer (eqb (read_answer (replicate product.most 0) image) 0)
  where
    by_answer : (b : Bool) → filled (cond b (padded (length (replicate {A = ℕ} product.most 0)) (image_words image))
        (replicate product.most 0)) ≡ cond b (image_words image) []
    by_answer true = filled_before (image_words image) (length (replicate {A = ℕ} product.most 0) - length
        (image_words image)) (words_some product (image_form image) product_sound image)
    by_answer false = filled_before [] product.most (λ x h. absurd (none_in h))

-- More bytes than any image has are not read.
pub long_unread : (image : List ℕ) → first_body form + largest_fact form * product.most < length image → words_read image ≡ []
long_unread image h = elim (ℕ_discrete (read_answer room image) 0) [
  | yes e ↦ absurd (omega (arith, h, read_short room image (sym e)))
  | no n ↦ ap (λ b. cond b (image_words image) []) (ne_eqb (read_answer room image) 0 n)
]

-- The lines of the bytes read are those of any image that they begin: they are all of it, or too many.
module _ {n : ℕ} {buffer out : List ℕ} (lent : ImageLent n buffer out) where
  pub whole_printed : {r : ℕ} {new : List ℕ} → n ≤ first_body form + largest_fact form * product.most
      → WordsPrinted (words_read (take n buffer)) r new → FactsPrinted buffer n r new
  whole_printed {r} {new} few p image b =
      let all : length image ≡ n = b.all (omega (arith, few, lent.longer)) in
      let same : take n buffer ≡ image = sym b.first ∙ take_all n image (omega (arith, all)) in
      subst (λ i. WordsPrinted (words_read i) r new) same p

  pub none_printed : {new : List ℕ} → first_body form + largest_fact form * product.most < n → FactsPrinted buffer n 0 new
  none_printed {new} many image b =
      let long : first_body form + largest_fact form * product.most < length image =
      omega (arith, many, ap length b.first, length-take-le n buffer lent.within, length-take n image) in
      subst (λ l. WordsPrinted l 0 new) (sym (long_unread image long)) (record { lines = refl; within = omega arith })
