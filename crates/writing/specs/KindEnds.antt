-- The contents of an image by how many facts it has up to each kind: at place k those of the kinds up to k.
use Rattle.std.specs.Prelude.{ℕ, ◌+◌, ◌*◌, ◌-◌, ◌≤◌, ◌<◌, ◌≡◌, List, [], ◌∷◌, ◌++◌, length, get_or, take}
use Rattle.table.specs.Found.{below}
use Rattle.table.specs.Parts.{word_of}
use Rattle.contents.specs.ImageForm.{Form, field_values, fact_size, first_body, kinds}
use Rattle.contents.specs.Legible.{Complete}
use Rattle.contents.specs.Image.{entry}

-- How many facts of kind k.
abbrev pub count_by : List ℕ → ℕ → ℕ
count_by ends k = get_or ends k 0 - get_or ends (k - 1) 0

-- The entries of kinds, and where their bodies end, if the body of the first of them starts at `start`.
abbrev pub entries_by : Form → List ℕ → ℕ → List ℕ → List ℕ
entries_by F ends start [] = []
entries_by F ends start (k ∷ ks) =
    entry F k start (count_by ends k) ++ entries_by F ends (start + fact_size F k * count_by ends k) ks

abbrev pub end_by : Form → List ℕ → ℕ → List ℕ → ℕ
end_by F ends start [] = start
end_by F ends start (k ∷ ks) = end_by F ends (start + fact_size F k * count_by ends k) ks

-- The contents, and the image's length.
abbrev pub contents_by : Form → List ℕ → List ℕ
contents_by F ends = F.edition ∷ F.entries ∷ entries_by F ends (first_body F) (kinds F)

abbrev pub length_by : Form → List ℕ → ℕ
length_by F ends = end_by F ends (first_body F) (kinds F)

-- Numbers for the kinds of a form that do not fall; the form's fields have room for them and for the image's
-- length.
pub record KindEnds (F : Form) (ends : List ℕ) : Type 0 where
  pub form : Complete F
  pub places : F.entries < length ends
  pub rising : (k : ℕ) → 1 ≤ k → k ≤ F.entries → get_or ends (k - 1) 0 ≤ get_or ends k 0
  pub few : (k : ℕ) → k ≤ F.entries → get_or ends k 0 < field_values F
  pub long : length_by F ends < field_values F

-- They are those of a table that has `count` facts.
pub record KindEndsOf (F : Form) (table : List ℕ) (count : ℕ) (ends : List ℕ) : Type 0 where
  pub places : F.entries < length ends
  pub at : (k : ℕ) → k ≤ F.entries → get_or ends k 0 ≡ below (take count table) (word_of (k + 1) 0 0 0)
