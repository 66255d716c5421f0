-- Which forms the code reads and writes.
use Rattle.std.specs.Prelude.{ℕ, ◌+◌, ◌*◌, ◌^◌, ◌≤◌, ◌<◌}
use Rattle.rdfs.specs.Numbers.{product, kind_count}
use Rattle.contents.specs.ImageForm.{Form, Proper, byte_values, field_values, largest_fact, first_body}

-- The most bytes of a number that the code takes out of an image or puts into one.
abbrev pub widest : ℕ
widest = 4

-- No fact has more bytes: it has at most three ids.
abbrev pub fact_bytes : ℕ
fact_bytes = 3 * widest

-- A form whose images are read: an id and a field have no more bytes; an entry is a kind's; every id in a
-- body is a digit of a word.
pub record Legible (F : Form) : Type 0 where
  pub proper : Proper F
  pub ids : F.id_size ≤ widest
  pub fields : F.field_size ≤ widest
  pub few : F.entries ≤ kind_count
  pub digits : byte_values ^ F.id_size ≤ product.base

-- A form in which images are written: besides, the edition is a byte, an id in a body has room for every id,
-- each kind has an entry, and a field has room for the length of every image.
pub record Complete (F : Form) : Type 0 where
  pub legible : Legible F
  pub edition : F.edition < byte_values
  pub held : product.top < byte_values ^ F.id_size
  pub many : kind_count ≤ F.entries
  pub long : first_body F + largest_fact F * product.most < field_values F
