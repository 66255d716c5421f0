-- A part of lent bytes: where it lies, and its bytes.
use Rattle.std.specs.Prelude.{ℕ, ◌+◌, ◌≡◌, List, take, drop}
use Rattle.std.specs.Borrow.{Bor}
use Rattle.rdfs.specs.Numbers.{product}
use Rattle.contents.specs.ImageForm.{image_form}
use Rattle.contents.specs.Reading.{body_start, body_size}

-- The part of `whole` that starts `start` bytes after its first and is `size` bytes long. It lies in the same
-- block of memory, so two empty parts at different places differ.
pub record IsPart (whole part : Bor (List ℕ)) (start size : ℕ) : Type 0 where
  pub block : part.ref_ptr.0 ≡ whole.ref_ptr.0
  pub offset : part.ref_ptr.1 ≡ whole.ref_ptr.1 + start
  pub bytes : part.now ≡ take size (drop start whole.now)

-- The promise of handing out a body, for all bytes of an image and all numbers: the part that it answers, in
-- the form that the bytes are read in.
abbrev pub BodyPromise : Bor (List ℕ) → ℕ → Bor (List ℕ) → Type 0
BodyPromise image kind part =
    let F = image_form image.now in
    IsPart image part (body_start product F image.now kind) (body_size product F image.now kind)
