-- The ways through the host's list call: refused by reading, with 14, with 13, and done. Assumes nothing.
use Prim.Native.Nat.{ℕ, ◌+◌, ◌-◌, ◌≤◌, ◌<◌}
use mathlib.Core.Path.{◌≡◌, refl, sym, ap, subst, ◌∙◌}
use mathlib.Core.Bool.{Bool}
use mathlib.Core.List.{List}
use native.Mathlib.Omega.{arith}
use lib.Dec.{ltb}
use lib.ListN.{length}
use borrow.Author.Tests.{lt-ltb, le-ltb}
use Rattle.rdfs.specs.Numbers.{product, record_length}
use Rattle.rdfs.specs.Refusals.{or_else}
use Rattle.rdfs.specs.Register.{Table}
use Rattle.rdfs.specs.Operators.{register_as}
use Rattle.rdfs.proofs.Register.Cut.{cut_length}
use Rattle.list_form.specs.Listing.{accepted_of, refused_of, written}
use Rattle.list_form.specs.Loops.{tickets_in, AllRun}
use Rattle.list_form.proofs.Runs.{all_counted}
use Rattle.writing.specs.WritePromise.{table_image, WritePromise}
use Rattle.writing.proofs.WriteCall.{write_done}
use Rattle.reading.specs.ReadPromise.{read_answer, read_words}
use Rattle.exchange.specs.ToText.{room}
use Rattle.packing.specs.Packed.{sixteen_bits, packed}
use Rattle.std.specs.Prelude.{Ok, Err}
use Rattle.table.specs.declared.refusals.Refusal.{Refusal}
use Rattle.table.specs.Refused.{number}
use Rattle.table.proofs.RefusalNumbers.{number_some}
use Rattle.host_list.specs.HostList.{
  ticket_count,
  ran,
  image_left,
  answer_room,
  read_refusal,
  host_list_refusal,
  call_refusal,
  host_list_answer,
  host_list_answers,
  host_list_output,
  HostListPromiseAs,
  HasRoom,
}
use Rattle.exchange.proofs.Between.{refused_keeps, passed_leaves, read_table}
use Rattle.packing.proofs.Refused.{refused_is, passed_is}
use Rattle.host_list.proofs.HostListLaws.{ran_numbers, ran_table, was_read, has_answers}

-- No refusal has the number of none.
pub not_none : (refusal : Refusal) → number refusal ≡ 0 → ⊥
not_none refusal z = omega (arith, z, number_some refusal)

-- The call is refused: all bytes are as they were.
pub list_refused : (operator : Bool) (image tickets answers output : List ℕ) (r : Refusal)
    → number r ≡ call_refusal operator image tickets answers output
    → HostListPromiseAs operator image tickets answers output (packed (number r) 0 0 0) answers output
unfolding host_list_answer host_list_answers host_list_output
list_refused operator image tickets answers output r e =
    let refusal : ℕ = call_refusal operator image tickets answers output in
    let no : refusal ≡ 0 → ⊥ = λ z. not_none r (e ∙ z) in
    record {
      number_is = ap (λ m. packed m 0 0 0) e ∙ sym (refused_is refusal _ no);
      answers_left = sym (refused_keeps refusal _ answers no);
      output_left = sym (refused_keeps refusal _ output no);
    }

-- The image was read into the words w for n tickets, with answer r.
pub record Begun (image tickets : List ℕ) (answers n r : ℕ) (w : List ℕ) : Type 0 where
  pub count : n ≡ ticket_count tickets
  pub refusal : r ≡ read_refusal room image (ticket_count tickets) answers
  pub words : w ≡ read_words room image

pub begun : (image tickets : List ℕ) (answers : ℕ) {n r : ℕ} {w : List ℕ} → n ≡ tickets_in (length tickets)
    → (r ≡ read_refusal room image n answers) × (w ≡ read_words room image) → Begun image tickets answers n r w
begun image tickets answers e h =
    let count = e ∙ sym (cut_length record_length (omega arith) tickets) in
    record { count = count; refusal = h.0 ∙ ap (λ m. read_refusal room image m answers) count; words = h.1 }

-- Not refused.
module _ {image tickets : List ℕ} {answers n r : ℕ} {w : List ℕ} (b : Begun image tickets answers n r w) (z : r ≡ 0) where
  passes : read_refusal room image (ticket_count tickets) answers ≡ 0
  passes = sym b.refusal ∙ z

  pub begun_read : read_answer room image ≡ 0
  begun_read = was_read room image (ticket_count tickets) answers passes

  pub begun_room : ticket_count tickets ≤ answer_room answers
  begun_room = has_answers room image (ticket_count tickets) answers passes

  pub begun_table : Table product w
  begun_table = read_table image 0 (sym begun_read) refl b.words

-- With operators' tickets, or with anyone's.
module _ (operator : Bool) {image tickets : List ℕ} {answers n r : ℕ} {w : List ℕ} (b : Begun image tickets answers n r w) where
  -- Refused.
  pub begun_stops : (r ≡ 0 → ⊥) → (output : ℕ) → r ≡ host_list_refusal operator image tickets answers output
  unfolding host_list_refusal
  begun_stops h output =
      let refusal : ℕ = read_refusal room image (ticket_count tickets) answers in
      b.refusal ∙ sym (refused_keeps refusal _ refusal (λ z. h (b.refusal ∙ z)))

  same_run : register_as operator product w tickets ≡ ran operator image tickets
  unfolding ran
  same_run = ap (λ u. register_as operator product u tickets) b.words

  -- Not refused: the list is run on the words, and leaves the words v.
  module _ (z : r ≡ 0) {v : List ℕ} (e : v ≡ (register_as operator product w tickets).table) where
    left_words : v ≡ (ran operator image tickets).table
    left_words = e ∙ ap (λ d. d.table) same_run

    pub left_table : Table product v
    left_table = subst (Table product) (sym left_words) (ran_table operator image tickets (begun_read b z))

    -- The call's refusal by the length of the image of those words.
    module _ (size output : ℕ) (s : size ≡ length (table_image v)) where
      last_refusal : host_list_refusal operator image tickets answers output ≡ or_else (ltb output size) 13 0
      unfolding host_list_refusal
      last_refusal =
          let refusal : ℕ = read_refusal room image (ticket_count tickets) answers in
          passed_leaves refusal _ refusal (passes b z)
          ∙ ap (λ m. or_else (ltb output m) 13 0) (sym (s ∙ ap (λ u. length (table_image u)) left_words))

      pub short_refusal : output < size → 13 ≡ host_list_refusal operator image tickets answers output
      short_refusal h = sym (last_refusal ∙ ap (λ t. or_else t 13 0) (lt-ltb output size h))

      pub fitting : size ≤ output → 0 ≡ host_list_refusal operator image tickets answers output
      fitting h = sym (last_refusal ∙ ap (λ t. or_else t 13 0) (le-ltb output size h))

-- Not refused, with room for the image: ok tickets are accepted, the words v and the answer bytes are left.
module _ (operator : Bool) {image tickets : List ℕ} (answers output : List ℕ) {n r : ℕ} {w : List ℕ}
    (b : Begun image tickets (length answers) n r w) (z : r ≡ 0) {ok : ℕ} {v told : List ℕ}
    (all : AllRun ok v answers told (register_as operator product w tickets)) where
  abbrev numbers : List ℕ
  numbers = (ran operator image tickets).numbers

  accepted : ok ≡ accepted_of numbers
  accepted = all.accepted ∙ ap (λ d. accepted_of d.numbers) (same_run operator b)

  numbered : told ≡ written numbers answers
  numbered = subst (λ d. told ≡ written d.numbers answers) (same_run operator b) all.numbers

  counted : accepted_of numbers + refused_of numbers ≡ n
  counted = all_counted numbers ∙ (ran_numbers operator image tickets ∙ sym b.count)

  -- The counts fit their fields.
  pub counts_fit : (ok ≤ n) × (n < sixteen_bits)
  counts_fit = (omega (arith, accepted, counted), omega (arith, b.count, begun_room b z))

  -- An output that has room: writing is not refused.
  module _ (fits : HasRoom operator image tickets output) (left : List ℕ) where
    abbrev bytes : List ℕ
    bytes = written (table_image v) output

    same : table_image v ≡ image_left operator image tickets
    same = ap table_image (left_words operator b z all.words)

    enough : length (table_image v) ≤ length output
    enough = omega (arith, ap length same, fits (begun_read b z))

    by_writing : WritePromise v output (Ok (length (table_image v))) bytes
    by_writing = write_done v output (left_table operator b z all.words) enough (length (table_image v)) refl bytes refl

    pub never_short : (refusal : Refusal) → WritePromise v output (Err refusal) left → ⊥
    never_short refusal p = not_none refusal (p.0 ∙ sym by_writing.0)

    pub list_done : (size : ℕ) → WritePromise v output (Ok size) left
        → HostListPromiseAs operator image tickets answers output (packed 0 ok (n - ok) size) told left
    unfolding host_list_answer host_list_answers host_list_output
    list_done size p =
        let refusal : ℕ = call_refusal operator image tickets answers output in
        let none : refusal ≡ 0 =
        sym (fitting operator b z all.words (length (table_image v)) (length output) refl enough) in
        let long : size ≡ length (image_left operator image tickets) = p.1 ∙ (sym by_writing.1 ∙ ap length same) in
        let rest : n - ok ≡ refused_of numbers = omega (arith, accepted, counted) in
        let told-counts : ℕ =
        packed 0 (accepted_of numbers) (refused_of numbers) (length (image_left operator image tickets)) in
        let counts : packed 0 ok (n - ok) size ≡ told-counts = λ i. packed 0 (accepted i) (rest i) (long i) in
        record {
          number_is = counts ∙ sym (passed_is refusal told-counts none);
          answers_left = numbered ∙ sym (passed_leaves refusal (written numbers answers) answers none);
          output_left = p.2 ∙ (sym by_writing.2 ∙ (ap (λ l. written l output) same
              ∙ sym (passed_leaves refusal (written (image_left operator image tickets) output) output none)));
        }
