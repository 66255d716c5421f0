-- What the host's calls with one ticket, anyone's or an operator's, answer and what they leave in the output,
-- for all bytes: reading, a ticket, writing.
use Rattle.std.specs.Prelude.{ℕ, ◌≡◌, Bool, true, false, cond, List, eqb}
use Rattle.rdfs.specs.Numbers.{product}
use Rattle.rdfs.specs.Register.{Answer}
use Rattle.rdfs.specs.Operators.{step_as}
use Rattle.writing.specs.WritePromise.{write_answer, write_length, write_bytes}
use Rattle.reading.specs.ReadPromise.{read_answer, read_words}
use Rattle.exchange.specs.ToText.{room}
use Rattle.packing.specs.Packed.{packed, refused_else}

-- The ticket on the words that were read.
unfoldable pub applied : (operator : Bool) → List ℕ → List ℕ → Answer
applied operator image ticket = step_as operator product (read_words room image) ticket

-- A call with one ticket, by the answer of its ticket: the refusals of reading, of the ticket and of writing
-- the words that it left; then the counts and the image's length.
unfoldable pub host_number : (image output : List ℕ) → Answer → ℕ
host_number image output after =
    refused_else (read_answer room image) (refused_else after.number
    (refused_else (write_answer after.table output)
    (packed 0 after.added after.removed (write_length after.table output))))

-- What writing leaves; the bytes as they were if reading or the ticket is refused.
unfoldable pub host_bytes : (image output : List ℕ) → Answer → List ℕ
host_bytes image output after =
    cond (eqb (read_answer room image) 0) (cond (eqb after.number 0) (write_bytes after.table output)
    output)
    output

-- The promise of a call, for all bytes: the number that it answers, and the bytes left in the output.
abbrev pub HostPromiseOf : (image output : List ℕ) → Answer → ℕ → List ℕ → Type 0
HostPromiseOf image output after number left =
    (number ≡ host_number image output after) × (left ≡ host_bytes image output after)

-- The same with anyone's ticket or an operator's.
abbrev pub host_answer : (operator : Bool) → List ℕ → List ℕ → List ℕ → ℕ
host_answer operator image ticket output = host_number image output (applied operator image ticket)

abbrev pub host_output : (operator : Bool) → List ℕ → List ℕ → List ℕ → List ℕ
host_output operator image ticket output = host_bytes image output (applied operator image ticket)

abbrev pub HostPromiseAs : (operator : Bool) → List ℕ → List ℕ → List ℕ → ℕ → List ℕ → Type 0
HostPromiseAs operator image ticket output number left =
    HostPromiseOf image output (applied operator image ticket) number left

-- With anyone's ticket, and with an operator's.
abbrev pub HostPromise : List ℕ → List ℕ → List ℕ → ℕ → List ℕ → Type 0
HostPromise = HostPromiseAs false

abbrev pub OperatorHostPromise : List ℕ → List ℕ → List ℕ → ℕ → List ℕ → Type 0
OperatorHostPromise = HostPromiseAs true
