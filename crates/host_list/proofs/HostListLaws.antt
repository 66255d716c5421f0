-- The host's list call, part by part: what the list leaves of an image that is read, and when each of its refusals comes. Assumes
-- nothing.
use Prim.Native.Nat.{ℕ, ◌+◌, ◌*◌, ◌≤◌, ◌<◌}
use mathlib.Core.Path.{◌≡◌, refl, sym, ap, subst, ◌∙◌}
use mathlib.Core.Bool.{Bool, false}
use mathlib.Core.List.{List}
use native.Mathlib.Omega.{arith}
use native.Mathlib.Decide.{ℕ_discrete}
use lib.Dec.{ltb}
use lib.ListN.{length}
use borrow.Author.Tests.{lt-ltb, le-ltb, ltb-false}
use Rattle.rdfs.specs.Numbers.{product, record_length}
use Rattle.rdfs.specs.Refusals.{or_else}
use Rattle.rdfs.specs.Register.{cut, Table}
use Rattle.rdfs.specs.Operators.{step_as}
use Rattle.rdfs.proofs.Tickets.FirstTrue.{passed_link}
use Rattle.rdfs.proofs.Register.RunLaws.{runs_numbers, runs_words, runs_table}
use Rattle.table.proofs.TestAnswers.{is_false}
use Rattle.list_form.proofs.Runs.{as_runs, steps_keep}
use Rattle.contents.specs.ImageForm.{form, largest_fact, first_body}
use Rattle.writing.proofs.Measuring.{image_small}
use Rattle.writing.proofs.WriteCall.{table_writing}
use Rattle.reading.specs.ReadPromise.{read_answer, read_words}
use Rattle.reading.proofs.ReadCall.{read_length}
use Rattle.exchange.specs.ToText.{room}
use Rattle.host_list.specs.HostList.{ticket_count, ran, image_left, answer_room, read_refusal, host_list_refusal, HasRoom}
use Rattle.exchange.proofs.Between.{refused_keeps, passed_leaves, read_table}

-- A test that refuses is false if it did not.
unrefused : (b : Bool) (n : ℕ) → (n ≡ 0 → ⊥) → or_else b n 0 ≡ 0 → b ≡ false
unrefused b n h e = is_false (passed_link b n 0 0 h e).0

-- What the list leaves, on an image that is read.
module _ (operator : Bool) (image tickets : List ℕ) where
  pub ran_numbers : length (ran operator image tickets).numbers ≡ ticket_count tickets
  unfolding ran
  ran_numbers =
      let w : List ℕ = read_words room image in
      ap (λ d. length d.numbers) (as_runs operator w tickets) ∙ runs_numbers (step_as operator product)
      (cut record_length tickets) w

  pub ran_length : length (ran operator image tickets).table ≡ product.most
  unfolding ran
  ran_length =
      let w : List ℕ = read_words room image in
      ap (λ d. length d.table) (as_runs operator w tickets)
      ∙ (runs_words (step_as operator product) (steps_keep operator) (cut record_length tickets) w ∙ read_length room image)

  pub ran_table : read_answer room image ≡ 0 → Table product (ran operator image tickets).table
  unfolding ran
  ran_table e =
      let w : List ℕ = read_words room image in
      subst (λ d. Table product d.table) (sym (as_runs operator w tickets))
      (runs_table (step_as operator product) (steps_keep operator) (cut record_length tickets) w
      (read_table image 0 (sym e) refl refl))

  -- An output of the longest image's length has room.
  pub longest_fits : (output : List ℕ) → first_body form + largest_fact form * product.most ≤ length output
      → HasRoom operator image tickets output
  longest_fits output h e =
      let left : List ℕ = (ran operator image tickets).table in
      omega (arith, h, image_small left _ (table_writing (ran_table e) _ refl).writable)

  -- Not refused: neither by reading and with 14, nor with 13.
  pub not_refused : (answers output : ℕ) → host_list_refusal operator image tickets answers output ≡ 0
      → (read_refusal room image (ticket_count tickets) answers ≡ 0) × (length (image_left operator image tickets) ≤ output)
  unfolding host_list_refusal
  not_refused answers output e =
      let before : ℕ = read_refusal room image (ticket_count tickets) answers in
      let size : ℕ = length (image_left operator image tickets) in
      let last : ℕ = or_else (ltb output size) 13 0 in
      elim (ℕ_discrete before 0) [
        | yes z ↦ (
          z,
          ltb-false output size (unrefused (ltb output size) 13 (omega arith)
              (sym (passed_leaves before last before z) ∙ e)),
        )
        | no h ↦ absurd (h (sym (refused_keeps before last before h) ∙ e))
      ]

-- Reading, then 14: of so many tickets, on any table.
module _ (table image : List ℕ) (tickets answers : ℕ) where
  abbrev few : ℕ
  few = or_else (ltb (answer_room answers) tickets) 14 0

  pub unread_refusal : (n : ℕ) → n ≡ read_answer table image → (n ≡ 0 → ⊥) → n ≡ read_refusal table image tickets answers
  unread_refusal n e h = e ∙ sym (refused_keeps (read_answer table image) few (read_answer table image) (λ z. h (e ∙ z)))

  module _ (n : ℕ) (e : n ≡ read_answer table image) (z : n ≡ 0) where
    read_passes : read_refusal table image tickets answers ≡ few
    read_passes = passed_leaves (read_answer table image) few (read_answer table image) (sym e ∙ z)

    pub few_refusal : answer_room answers < tickets → 14 ≡ read_refusal table image tickets answers
    few_refusal h = sym (read_passes ∙ ap (λ b. or_else b 14 0) (lt-ltb (answer_room answers) tickets h))

    pub no_refusal : tickets ≤ answer_room answers → 0 ≡ read_refusal table image tickets answers
    no_refusal h = sym (read_passes ∙ ap (λ b. or_else b 14 0) (le-ltb (answer_room answers) tickets h))

  -- Not refused.
  module _ (e : read_refusal table image tickets answers ≡ 0) where
    pub was_read : read_answer table image ≡ 0
    was_read = elim (ℕ_discrete (read_answer table image) 0) [
      | yes z ↦ z
      | no h ↦ sym (refused_keeps (read_answer table image) few (read_answer table image) h) ∙ e
    ]

    pub has_answers : tickets ≤ answer_room answers
    has_answers = ltb-false (answer_room answers) tickets (unrefused (ltb (answer_room answers) tickets) 14 (omega arith)
        (sym (read_passes 0 (sym was_read) refl) ∙ e))
