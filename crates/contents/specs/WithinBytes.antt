-- What a function asks that reads or writes an entry or the facts of a kind.
use Rattle.std.specs.Prelude.{ℕ, ◌+◌, ◌*◌, ◌≤◌, List, length}
use Rattle.contents.specs.ImageForm.{Form, fact_size, first_body}

-- The bytes have room for the contents, among them an entry of kind k.
pub record HasEntry (F : Form) (bytes : List ℕ) (k : ℕ) : Type 0 where
  pub some : 1 ≤ k
  pub most : k ≤ F.entries
  pub within : first_body F ≤ length bytes

-- The bytes have room for count facts of kind k from place `from` on.
pub record HasFacts (F : Form) (bytes : List ℕ) (k from count : ℕ) : Type 0 where
  pub some : 1 ≤ k
  pub most : k ≤ F.entries
  pub within : from + fact_size F k * count ≤ length bytes
