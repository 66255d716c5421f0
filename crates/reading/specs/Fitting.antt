-- What reading through a work table asks of the table and of the bytes.
use Rattle.std.specs.Prelude.{ℕ, ◌≤◌, ◌≡◌, false, List, length}
use Rattle.rdfs.specs.Numbers.{product}
use Rattle.rdfs.specs.Refusals.{bad_size}
use Rattle.contents.specs.ImageForm.{image_form}
use Rattle.contents.specs.Reading.{words_of}
use Rattle.contents.specs.Contents.{Contents}

-- Bytes whose contents are right give no more words than a table has, whose size is right.
pub record Fitting (table bytes : List ℕ) : Type 0 where
  pub contents : Contents (image_form bytes) bytes
  pub fits : length (words_of product (image_form bytes) bytes) ≤ length table
  pub size : bad_size product table ≡ false
