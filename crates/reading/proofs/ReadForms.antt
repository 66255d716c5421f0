-- Reading by a form that is the one the bytes are read in. Assumes nothing.
use Prim.Native.Nat.{ℕ, ◌≤◌, ◌<◌}
use mathlib.Core.Path.{◌≡◌, sym, subst}
use mathlib.Core.Bool.{Bool, true, false, not}
use mathlib.Core.List.{List}
use lib.ListN.{length}
use borrow.Author.Tests.{not-true, not-false}
use Rattle.rdfs.specs.Numbers.{product}
use Rattle.rdfs.specs.Refusals.{or_else, bad_size}
use Rattle.table.specs.Answers.{Decides}
use Rattle.table.proofs.TestAnswers.{decides_true, decides_false}
use Rattle.contents.specs.ImageForm.{Form, image_form}
use Rattle.contents.specs.Reading.{words_of, malformed}
use Rattle.contents.specs.Contents.{Contents}
use Rattle.contents.proofs.InBytes.{AllBytes}
use Rattle.contents.proofs.Product.{wrong_malformed}
use Rattle.contents.proofs.ImageForms.{legible_given}
use Rattle.reading.specs.Fitting.{Fitting}
use Rattle.reading.specs.ReadPromise.{read_answer}
use Rattle.reading.proofs.ReadCall.{overfull_some, read_overfull}

-- What the test of the contents found, right or wrong.
module _ (bytes : List ℕ) {F : Form} (own : F ≡ image_form bytes) (r : Bool) (found : Decides r (Contents F bytes)) where
  pub right_read : not r ≡ false → Contents F bytes
  right_read e = decides_true r found (not-false r e)

  pub wrong_read : AllBytes bytes → not r ≡ true → malformed product (image_form bytes) bytes ≡ true
  wrong_read b e = subst (λ G. malformed product G bytes ≡ true) own (not-false (malformed product F bytes)
      (sym (wrong_malformed (legible_given bytes F own) bytes b (decides_false r found (not-true r e)))))

module _ (t bytes : List ℕ) {F : Form} (own : F ≡ image_form bytes) (size : bad_size product t ≡ false) where
  -- More words than the table has: 12 or 11, which are refusals.
  pub overfull_read : length t < length (words_of product F bytes) → (r : ℕ) → r ≡ or_else (malformed product F bytes) 12 11
      → (r ≡ read_answer t bytes) × (r ≡ 0 → ⊥)
  overfull_read h r e = (
    read_overfull t bytes size (subst (λ G. length t < length (words_of product G bytes)) own h) r
        (subst (λ G. r ≡ or_else (malformed product G bytes) 12 11) own e),
    overfull_some (malformed product F bytes) r e,
  )

  -- No more.
  pub fitting_read : Contents F bytes → length (words_of product F bytes) ≤ length t → Fitting t bytes
  fitting_read right h = record {
    contents = subst (λ G. Contents G bytes) own right;
    fits = subst (λ G. length (words_of product G bytes) ≤ length t) own h;
    size = size;
  }
