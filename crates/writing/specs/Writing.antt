-- What the steps of writing find and leave.
use Rattle.std.specs.Prelude.{ℕ, ◌+◌, ◌≤◌, ◌<◌, ◌≡◌, List, T, length, get_or, take, drop}
use Rattle.rdfs.specs.Numbers.{product, arity}
use Rattle.rdfs.specs.Lists.{concat_map}
use Rattle.rdfs.specs.Words.{is_fact, filled}
use Rattle.table.specs.Parts.{kind_of}
use Rattle.table.specs.Counted.{Counted}
use Rattle.table.specs.Overlay.{Overlaid}
use Rattle.contents.specs.ImageForm.{Form, field_values, first_body}
use Rattle.contents.specs.Legible.{Complete}
use Rattle.contents.specs.Image.{id_bytes, image_of}
use Rattle.contents.specs.WithinBytes.{HasEntry}
use Rattle.writing.specs.KindEnds.{KindEndsOf}

-- A table that can be written: it is laid out, `count` is the number of its facts, and it has at most the
-- most words.
pub record Writable (table : List ℕ) (count : ℕ) : Type 0 where
  pub counted : Counted table count
  pub few : length table ≤ product.most

-- It is written in a form.
pub record Writing (F : Form) (table : List ℕ) (count : ℕ) : Type 0 where
  pub form : Complete F
  pub writable : Writable table count

-- The facts of a table from place i up to place j have as many ids each.
pub record Stretch (table : List ℕ) (i j ids : ℕ) : Type 0 where
  pub order : i ≤ j
  pub within : j ≤ length (filled table)
  pub alike : (k : ℕ) → i ≤ k → k < j → ids ≡ arity (kind_of (get_or table k 0))

-- The ids of the first i facts are stored, behind the contents.
pub record Embodied (F : Form) (l out₀ out : List ℕ) (i at : ℕ) : Type 0 where
  pub within : i ≤ length l
  pub laid : Overlaid (image_of product F l) out₀ out at
  pub rest : drop at (image_of product F l) ≡ concat_map (id_bytes product F) (drop i l)

-- What a step asks: the entry of kind k is to be stored, with fields that have room;
pub record NewEntry (F : Form) (output : List ℕ) (k start count : ℕ) : Type 0 where
  pub entry : HasEntry F output k
  pub start_fits : start < field_values F
  pub count_fits : count < field_values F

-- a fact of so many ids, from place `at` on;
pub record NewFact (F : Form) (output : List ℕ) (at word ids : ℕ) : Type 0 where
  pub form : Complete F
  pub fact : T (is_fact product word)
  pub arity_is : ids ≡ arity (kind_of word)
  pub room : at + length (id_bytes product F word) ≤ length output

-- the facts of a table from place i up to place j, behind those before;
pub record NewStretch (F : Form) (table : List ℕ) (i j ids : ℕ) (output : List ℕ) (start : ℕ) : Type 0 where
  pub writing : Writing F table (length (filled table))
  pub stretch : Stretch table i j ids
  pub before : Embodied F (filled table) output output i start
  pub room : length (image_of product F (filled table)) ≤ length output

-- all facts of a table, behind the contents.
pub record NewBodies (F : Form) (table ends output : List ℕ) : Type 0 where
  pub writing : Writing F table (length (filled table))
  pub found : KindEndsOf F table (length (filled table)) ends
  pub contents : take (first_body F) output ≡ take (first_body F) (image_of product F (filled table))
  pub room : length (image_of product F (filled table)) ≤ length output
