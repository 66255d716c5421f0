-- What is proved of the host's list calls, with anyone's tickets or operators': a refusal leaves all as it was, the output reads
-- back, each ticket has its number, and single calls would do the same. All that is known of its number r, the answer bytes
-- `told` and the output's bytes `left` is its contract, `HostListPromiseAs`, and of the single calls theirs, `HostPromiseAs`.
-- Assumes nothing.
use Prim.Native.Nat.{ℕ, ◌+◌, ◌<◌}
use mathlib.Core.Path.{◌≡◌, refl, sym, ap, ◌∙◌}
use mathlib.Core.Bool.{Bool, true, false, cond}
use mathlib.Core.List.{List}
use native.Mathlib.Omega.{arith}
use lib.Dec.{eqb, ltb, lit<}
use lib.ListN.{length, take, drop}
use lib.Seq.{take_at, drop_at}
use Rattle.rdfs.specs.Numbers.{product, record_length}
use Rattle.rdfs.specs.Register.{cut}
use Rattle.list_form.specs.Listing.{accepted_of, refused_of, written}
use Rattle.list_form.proofs.Runs.{as_runs, all_counted}
use Rattle.writing.specs.WritePromise.{table_image}
use Rattle.reading.specs.ReadPromise.{read_answer, read_words, ReadPromise}
use Rattle.reading.proofs.ReadCall.{read_length}
use Rattle.image.proofs.ImageTheorems.{read_writes}
use Rattle.exchange.specs.ToText.{room}
use Rattle.packing.specs.Packed.{sixteen_bits, packed, answer_in, added_in, removed_in, length_in, refused_else}
use Rattle.host_list.specs.HostList.{
  accepted_in,
  refused_in,
  ticket_count,
  ran,
  image_left,
  answer_room,
  read_refusal,
  host_list_refusal,
  call_refusal,
  host_list_answer,
  host_list_answers,
  host_list_output,
  HostListPromiseAs,
}
use Rattle.host_theorems.specs.HostCalls.{HostCall, CalledEach, AsSingleCalls}
use Rattle.exchange.proofs.Between.{passed_leaves, read_table}
use Rattle.host_list.proofs.HostListLaws.{ran_numbers, ran_length, ran_table, not_refused, was_read, has_answers}
use Rattle.host_theorems.proofs.Saved.{
  else_small,
  read_small,
  accepted_passes,
  packed_answer,
  packed_length,
  Kept,
  kept_else,
  reads_back,
}
use Rattle.host_theorems.proofs.HostSingles.{calls_run}

-- Each ticket has its number: the first answer bytes are the register's numbers, one for each ticket, and the others are as they
-- were; the counts are those of the numbers, and together all tickets.
pub record AnswersEach (operator : Bool) (image tickets answers : List ℕ) (r : ℕ) (told : List ℕ) : Type 0 where
  pub numbers : take (ticket_count tickets) told ≡ (ran operator image tickets).numbers
  pub others : drop (ticket_count tickets) told ≡ drop (ticket_count tickets) answers
  pub accepted : accepted_in r ≡ accepted_of (ran operator image tickets).numbers
  pub refused : refused_in r ≡ refused_of (ran operator image tickets).numbers
  pub all : accepted_in r + refused_in r ≡ ticket_count tickets

-- New bytes, then those that stood there.
written_first : (new old : List ℕ) → take (length new) (written new old) ≡ new
written_first new old = take_at new (drop (length new) old) (length new) refl

written_others : (new old : List ℕ) → drop (length new) (written new old) ≡ drop (length new) old
written_others new old = drop_at new (drop (length new) old) (length new) refl

cond_small : (b : Bool) (n m : ℕ) → n < sixteen_bits → m < sixteen_bits → cond b n m < sixteen_bits
cond_small true n m p q = p
cond_small false n m p q = q

packed_counts : (a r l : ℕ) → a < sixteen_bits → r < sixteen_bits
    → (added_in (packed 0 a r l) ≡ a) × (removed_in (packed 0 a r l) ≡ r)
packed_counts a r l p q = (omega (arith, p, q), omega (arith, p, q))

module _ (operator : Bool) (image tickets answers output : List ℕ) where
  abbrev numbers : List ℕ
  numbers = (ran operator image tickets).numbers

  abbrev refusal : ℕ
  refusal = call_refusal operator image tickets answers output

  abbrev counts : ℕ
  counts = packed 0 (accepted_of numbers) (refused_of numbers) (length (image_left operator image tickets))

  refusal_small : refusal < sixteen_bits
  unfolding host_list_refusal
  refusal_small =
      let few : Bool = ltb (answer_room (length answers)) (ticket_count tickets) in
      let short : Bool = ltb (length output) (length (image_left operator image tickets)) in
      let before : ℕ = read_refusal room image (ticket_count tickets) (length answers) in
      let first : before < sixteen_bits = cond_small (eqb (read_answer room image) 0) _ (read_answer room image)
      (else_small few 14 0 (lit< tt) (lit< tt)) (read_small image) in
      cond_small (eqb before 0) _ before (else_small short 13 0 (lit< tt) (lit< tt)) first

  kept : (new old : List ℕ) → (answer_in (refused_else refusal counts) ≡ 0 → ⊥)
      → Kept old (refused_else refusal counts) (cond (eqb refusal 0) new old)
  kept new old = kept_else (eqb refusal 0) refusal counts new old refusal_small
      (λ h. absurd (h (packed_answer (accepted_of numbers) (refused_of numbers) (length (image_left operator image tickets)))))

  -- An accepted call.
  pub record Accepted : Type 0 where
    pub none : refusal ≡ 0
    pub read : read_answer room image ≡ 0
    pub few : ticket_count tickets < sixteen_bits
    pub answer : host_list_answer operator image tickets answers output ≡ counts

  accepted : answer_in (host_list_answer operator image tickets answers output) ≡ 0 → Accepted
  unfolding host_list_answer
  accepted e =
      let a = accepted_passes refusal counts refusal_small e in
      let first = (not_refused operator image tickets (length answers) (length output) a.0).0 in
      record {
        none = a.0;
        read = was_read room image (ticket_count tickets) (length answers) first;
        few = omega (arith, has_answers room image (ticket_count tickets) (length answers) first);
        answer = a.1;
      }

  numbers_all : accepted_of numbers + refused_of numbers ≡ ticket_count tickets
  numbers_all = all_counted numbers ∙ ran_numbers operator image tickets

  module _ (r : ℕ) (told left : List ℕ) (p : HostListPromiseAs operator image tickets answers output r told left) where
    pub was_accepted : answer_in r ≡ 0 → Accepted
    was_accepted e = accepted (ap answer_in (sym p.number_is) ∙ e)

    -- Demand 1: refused, every answer byte and every byte of the output is as it was, and the tickets accepted, the tickets
    -- refused and the length are 0.
    pub list_refusal_keeps : (answer_in r ≡ 0 → ⊥) → (told ≡ answers) × (left ≡ output) × (accepted_in r ≡ 0) × (refused_in r ≡ 0)
        × (length_in r ≡ 0)
    unfolding host_list_answer host_list_answers host_list_output
    list_refusal_keeps h =
        let no : answer_in (refused_else refusal counts) ≡ 0 → ⊥ = λ e. h (ap answer_in p.number_is ∙ e) in
        let k = kept (written (image_left operator image tickets) output) output no in (
          p.answers_left ∙ (kept (written numbers answers) answers no).0,
          p.output_left ∙ k.0,
          ap added_in p.number_is ∙ k.1,
          ap removed_in p.number_is ∙ k.2,
          ap length_in p.number_is ∙ k.3,
        )

    -- The output of an accepted call, cut to the length answered, is the image of what the list left.
    pub list_image : answer_in r ≡ 0 → take (length_in r) left ≡ image_left operator image tickets
    unfolding host_list_output
    list_image e =
        let a = was_accepted e in
        let new : List ℕ = image_left operator image tickets in
        let long : length_in r ≡ length new = ap length_in (p.number_is ∙ a.answer)
        ∙ packed_length (accepted_of numbers) (refused_of numbers) (length new) (omega (arith, numbers_all, a.few))
        (omega (arith, numbers_all, a.few)) in
        ap (λ m. take m left) long
        ∙ (ap (take (length new)) (p.output_left ∙ passed_leaves refusal (written new output) output a.none)
        ∙ written_first new output)

    -- Demand 2: it is read into any table u of 2,048 words as the words that the register leaves on the list: n is what `read`
    -- answers, and w the words that it leaves.
    pub list_output_reads_back : answer_in r ≡ 0 → (u : List ℕ) → length u ≡ product.most
        → (n : ℕ) (w : List ℕ) → ReadPromise u (take (length_in r) left) n w → (n ≡ 0) × (w ≡ (ran operator image tickets).table)
    list_output_reads_back e u h =
        reads_back (ran_table operator image tickets (was_accepted e).read) (ran_length operator image tickets) u h
        (list_image e)

    -- Accepted, each ticket has its number, and the counts tell them.
    pub list_answers_each : answer_in r ≡ 0 → AnswersEach operator image tickets answers r told
    unfolding host_list_answers
    list_answers_each e =
        let a = was_accepted e in
        let bytes : told ≡ written numbers answers =
        p.answers_left ∙ passed_leaves refusal (written numbers answers) answers a.none in
        let size : length numbers ≡ ticket_count tickets = ran_numbers operator image tickets in
        let c = packed_counts (accepted_of numbers) (refused_of numbers) (length (image_left operator image tickets))
        (omega (arith, numbers_all, a.few)) (omega (arith, numbers_all, a.few)) in
        let yes : accepted_in r ≡ accepted_of numbers = ap added_in (p.number_is ∙ a.answer) ∙ c.0 in
        let no : refused_in r ≡ refused_of numbers = ap removed_in (p.number_is ∙ a.answer) ∙ c.1 in
        record {
          numbers = ap (λ m. take m told) (sym size) ∙ (ap (take (length numbers)) bytes ∙ written_first numbers answers);
          others = ap (λ m. drop m told) (sym size) ∙ (ap (drop (length numbers)) bytes
              ∙ (written_others numbers answers ∙ ap (λ m. drop m answers) size));
          accepted = yes;
          refused = no;
          all = omega (arith, yes, no, numbers_all);
        }

    -- An accepted list call does as single calls, one for each ticket: the same numbers, and an image at the end that is read as
    -- the same words; it is the same image unless the image given has ten entries.
    pub list_as_single_calls : answer_in r ≡ 0 → (calls : List HostCall) → CalledEach operator image (cut record_length tickets)
        calls
        → AsSingleCalls operator image tickets r told left calls
    unfolding ran
    list_as_single_calls e calls h =
        let w : List ℕ = read_words room image in
        let read = (was_accepted e).read in
        let singles = calls_run operator (cut record_length tickets) calls w (read_table image 0 (sym read) refl refl)
        (read_length room image) image (record { read = read; words = refl }) h in
        let same = as_runs operator w tickets in
        record {
          numbers = singles.numbers ∙ sym ((list_answers_each e).numbers ∙ ap (λ d. d.numbers) same);
          last_read = singles.last_gives.read;
          last_words = singles.last_gives.words ∙ sym (ap (λ d. d.table) same);
          last_image = λ n. singles.last_image (read_writes room image (sym read) n).0
              ∙ sym (list_image e ∙ ap (λ d. table_image d.table) same);
        }
