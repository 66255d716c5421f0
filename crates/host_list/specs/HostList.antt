-- What the host's list calls, with anyone's tickets and with operators', answer and what they leave in the
-- answer bytes and in the output, for all bytes: reading, a list of tickets, writing.
use Rattle.std.specs.Prelude.{ℕ, ◌-◌, ◌≤◌, min, ◌≡◌, Bool, true, false, cond, List, [], ◌∷◌, eqb, ltb, length}
use Rattle.rdfs.specs.Numbers.{product, record_length}
use Rattle.rdfs.specs.Refusals.{first_true}
use Rattle.rdfs.specs.Register.{Done, cut}
use Rattle.rdfs.specs.Operators.{register_as}
use Rattle.list_form.specs.Listing.{few_answers, accepted_of, refused_of, written}
use Rattle.writing.specs.WritePromise.{table_image}
use Rattle.reading.specs.ReadPromise.{read_answer, read_words}
use Rattle.exchange.specs.ToText.{room}
use Rattle.packing.specs.Packed.{sixteen_bits, packed, added_in, removed_in, refused_else}

-- The tickets accepted and the tickets refused in the number that the call answers: they stand where a single
-- call has the facts added and the facts removed.
abbrev pub accepted_in : ℕ → ℕ
accepted_in = added_in

abbrev pub refused_in : ℕ → ℕ
refused_in = removed_in

-- How many tickets bytes make.
abbrev pub ticket_count : List ℕ → ℕ
ticket_count tickets = length (cut record_length tickets)

-- The list on the words that were read, and the image of what it leaves.
unfoldable pub ran : (operator : Bool) (image tickets : List ℕ) → Done
ran operator image tickets = register_as operator product (read_words room image) tickets

abbrev pub image_left : (operator : Bool) (image tickets : List ℕ) → List ℕ
image_left operator image tickets = table_image (ran operator image tickets).table

-- How many answers have room in so many bytes: no more than a number of 16 bits counts.
abbrev pub answer_room : ℕ → ℕ
answer_room bytes = min bytes (sixteen_bits - 1)

-- A refusal; for 0, what comes after.
abbrev pub refusal_or : ℕ → ℕ → ℕ
refusal_or refusal rest = cond (eqb refusal 0) rest refusal

-- Reading's refusals, then 14, for so many tickets and answer bytes.
abbrev pub read_refusal : (table image : List ℕ) (tickets answers : ℕ) → ℕ
read_refusal table image tickets answers =
    refusal_or (read_answer table image) (first_true ((14, few_answers tickets (answer_room answers)) ∷ []))

-- The call's refusals: besides, 13, for so many bytes of output.
unfoldable pub host_list_refusal : (operator : Bool) (image tickets : List ℕ) (answers output : ℕ) → ℕ
host_list_refusal operator image tickets answers output =
    refusal_or (read_refusal room image (ticket_count tickets) answers)
    (first_true ((13, ltb output (length (image_left operator image tickets))) ∷ []))

-- The same by the bytes lent.
abbrev pub call_refusal : (operator : Bool) (image tickets answers output : List ℕ) → ℕ
call_refusal operator image tickets answers output =
    host_list_refusal operator image tickets (length answers) (length output)

-- The refusal; or 0, the tickets accepted, the tickets refused and the image's length.
unfoldable pub host_list_answer : (operator : Bool) (image tickets answers output : List ℕ) → ℕ
host_list_answer operator image tickets answers output =
    let done : Done = ran operator image tickets in
    refused_else (call_refusal operator image tickets answers output)
    (packed 0 (accepted_of done.numbers) (refused_of done.numbers)
    (length (image_left operator image tickets)))

-- Not refused, the first bytes are new and the others as they were; refused, all are as they were.
abbrev pub left_or : (refusal : ℕ) (new old : List ℕ) → List ℕ
left_or refusal new old = cond (eqb refusal 0) (written new old) old

-- The answer bytes: a number for each ticket.
unfoldable pub host_list_answers : (operator : Bool) (image tickets answers output : List ℕ) → List ℕ
host_list_answers operator image tickets answers output =
    left_or (call_refusal operator image tickets answers output) (ran operator image tickets).numbers answers

-- The output: the image of what the list leaves.
unfoldable pub host_list_output : (operator : Bool) (image tickets answers output : List ℕ) → List ℕ
host_list_output operator image tickets answers output =
    left_or (call_refusal operator image tickets answers output) (image_left operator image tickets) output

-- The promise of a call, for all bytes of the four: the number that it answers, and the bytes left in the
-- answers and in the output.
pub record HostListPromiseAs (operator : Bool) (image tickets answers output : List ℕ) (number : ℕ)
    (told left : List ℕ) : Type 0 where
  pub number_is : number ≡ host_list_answer operator image tickets answers output
  pub answers_left : told ≡ host_list_answers operator image tickets answers output
  pub output_left : left ≡ host_list_output operator image tickets answers output

-- With anyone's tickets, and with operators'.
abbrev pub HostListPromise : (image tickets answers output : List ℕ) → ℕ → (told left : List ℕ) → Type 0
HostListPromise = HostListPromiseAs false

abbrev pub OperatorHostListPromise : (image tickets answers output : List ℕ) → ℕ → (told left : List ℕ)
    → Type 0
OperatorHostListPromise = HostListPromiseAs true

-- An output has room for the image of what the list leaves of an image that is read.
abbrev pub HasRoom : (operator : Bool) (image tickets output : List ℕ) → Type 0
HasRoom operator image tickets output =
    read_answer room image ≡ 0 → length (image_left operator image tickets) ≤ length output
