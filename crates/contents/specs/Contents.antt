-- What a walk over the contents of some bytes tests, entry by entry.
use Rattle.std.specs.Prelude.{ℕ, ◌+◌, ◌*◌, ◌≡◌, List, [], ◌∷◌, length, get_or}
use Rattle.contents.specs.ImageForm.{Form, fact_size, entry_at, first_body, kinds}
use Rattle.contents.specs.Reading.{start_at, count_at}

-- The entry of kind k is right if its body starts at `start`.
pub record Entry (F : Form) (bytes : List ℕ) (k start : ℕ) : Type 0 where
  pub kind : get_or bytes (entry_at F k) 0 ≡ k
  pub size : get_or bytes (entry_at F k + 1) 0 ≡ fact_size F k
  pub start_is : start_at F bytes k ≡ start

-- The entries of kinds are right if the body of the first starts at `start`, and the bytes end where the body
-- of the last does.
abbrev pub Chained : Form → List ℕ → ℕ → List ℕ → Type 0
Chained F bytes start [] = length bytes ≡ start
Chained F bytes start (k ∷ ks) =
    Entry F bytes k start × Chained F bytes (start + fact_size F k * count_at F bytes k) ks

-- All entries are right.
pub record Linked (F : Form) (bytes : List ℕ) : Type 0 where
  pub chain : Chained F bytes (first_body F) (kinds F)

pub record Contents (F : Form) (bytes : List ℕ) : Type 0 where
  pub edition : get_or bytes 0 0 ≡ F.edition
  pub entries : get_or bytes 1 0 ≡ F.entries
  pub linked : Linked F bytes
