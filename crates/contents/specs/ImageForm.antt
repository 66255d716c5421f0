-- The numbers of an image's form, in one place, and numbers in bytes. Definitions and theorems take the form
-- as a parameter.
use Rattle.std.specs.Prelude.{ℕ, zero, suc, ◌+◌, ◌*◌, ◌-◌, ◌/◌, ◌%◌, ◌^◌, ◌<◌, max, ◌≡◌, cond, List, [], ◌∷◌, map, eqb, get_or}
use Rattle.rdfs.specs.Numbers.{kind_count, arity}

-- The edition; how many entries the contents have, one for each kind from 1 on; the bytes of an id; the bytes
-- of a start, and of a count.
pub record Form : Type 0 where
  pub edition : ℕ
  pub entries : ℕ
  pub id_size : ℕ
  pub field_size : ℕ

-- The product's values: the form that is written.
abbrev pub form : Form
form = record { edition = 1; entries = kind_count; id_size = 1; field_size = 2 }

-- The form with ten entries, which is read too: it has none for kind 11.
abbrev pub ten_form : Form
ten_form = record { edition = 1; entries = 10; id_size = 1; field_size = 2 }

-- Bytes give ten as the number of their entries.
abbrev pub TenEntries : List ℕ → Type 0
TenEntries bytes = get_or bytes 1 0 ≡ ten_form.entries

-- The form that bytes are read in, by the number of entries that they give.
unfoldable pub image_form : List ℕ → Form
image_form bytes = cond (eqb (get_or bytes 1 0) ten_form.entries) ten_form form

-- The bytes of a fact of kind k in a body: its ids only.
abbrev pub fact_size : Form → ℕ → ℕ
fact_size F k = arity k * F.id_size

-- An entry: kind, bytes per fact, start, count.
abbrev pub entry_size : Form → ℕ
entry_size F = 2 + (F.field_size + F.field_size)

-- Where the entry of kind k stands: after the edition and the number of entries, and the entries of lower
-- kinds.
abbrev pub entry_at : Form → ℕ → ℕ
entry_at F k = 2 + (k - 1) * entry_size F

-- Where the first body stands.
abbrev pub first_body : Form → ℕ
first_body F = 2 + F.entries * entry_size F

-- The n kinds after j.
abbrev pub kinds_after : ℕ → ℕ → List ℕ
kinds_after j zero = []
kinds_after j (suc n) = suc j ∷ kinds_after (suc j) n

abbrev pub kinds : Form → List ℕ
kinds F = kinds_after 0 F.entries

-- The most bytes of a fact.
abbrev pub greatest : List ℕ → ℕ
greatest [] = 0
greatest (x ∷ l) = max x (greatest l)

abbrev pub largest_fact : Form → ℕ
largest_fact F = greatest (map (fact_size F) (kinds F))

-- The values of a byte, and of a start or a count.
abbrev pub byte_values : ℕ
byte_values = 256

abbrev pub field_values : Form → ℕ
field_values F = byte_values ^ F.field_size

-- A number in n bytes, low byte first. If it is too great for n bytes, the last part is above 255 and no
-- byte: no image has it.
abbrev pub in_bytes : ℕ → ℕ → List ℕ
in_bytes zero x = []
in_bytes (suc zero) x = x ∷ []
in_bytes (suc (suc n)) x = (x % byte_values) ∷ in_bytes (suc n) (x / byte_values)

abbrev pub from_bytes : List ℕ → ℕ
from_bytes [] = 0
from_bytes (b ∷ l) = b + byte_values * from_bytes l

-- A form whose numbers have bytes.
pub record Proper (F : Form) : Type 0 where
  pub id : 0 < F.id_size
  pub field : 0 < F.field_size
