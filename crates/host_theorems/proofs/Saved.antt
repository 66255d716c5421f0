-- What a call's number says, and what a host's call with one ticket leaves in the output. Refused: only the answer, and the bytes
-- as they were. Accepted: the image of what the ticket left, in the length that it answers. Assumes nothing.
use Prim.Native.Nat.{ℕ, ◌≤◌, ◌<◌}
use mathlib.Core.Path.{◌≡◌, refl, sym, ap, subst, ◌∙◌}
use mathlib.Core.Bool.{Bool, true, false, not, ◌||◌, cond}
use mathlib.Core.Logic.{⊎_elim}
use mathlib.Core.List.{List, [], ◌∷◌, ◌++◌}
use native.Mathlib.Omega.{arith}
use native.Mathlib.Decide.{ℕ_discrete}
use lib.Dec.{T, eqb, ltb, leb, lit<, ltb→lt}
use lib.ListN.{length, take, drop}
use Rattle.rdfs.specs.Numbers.{product}
use Rattle.rdfs.specs.Lists.{member, all}
use Rattle.rdfs.specs.Words.{filled, words}
use Rattle.rdfs.specs.Refusals.{or_else, first_or, bad_size, inconsistent, table_tests, table_refusal}
use Rattle.rdfs.specs.Register.{Answer, step, Table}
use Rattle.rdfs.proofs.Lists.Filters.{filter_split}
use Rattle.rdfs.proofs.Lists.Tests.{and_both}
use Rattle.rdfs.proofs.Tickets.TicketRefusals.{new, tests, passed}
use Rattle.rdfs.proofs.Tickets.Steps.{table_passes, step_number, accepted_leaves, room_fits}
use Rattle.rdfs.proofs.Operators.OperatorSteps.{as_keeps}
use Rattle.rdfs.proofs.Theorems.{product_sound}
use Rattle.table.proofs.Filled.{filled_within}
use Rattle.contents.specs.ImageForm.{image_form}
use Rattle.contents.specs.Reading.{malformed}
use Rattle.writing.specs.WritePromise.{table_image, write_answer, write_length, write_bytes}
use Rattle.writing.proofs.WriteCall.{write_taken}
use Rattle.reading.specs.ReadPromise.{image_words, read_answer, read_words, ReadPromise}
use Rattle.reading.proofs.ReadCall.{read_length}
use Rattle.image.proofs.ImageTheorems.{image_reads_back, table_reads_back}
use Rattle.packing.specs.Packed.{sixteen_bits, packed, answer_in, added_in, removed_in, length_in}
use Rattle.exchange.specs.ToText.{room}
use Rattle.packing.specs.Packed.{refused_else}
use Rattle.host_ticket.specs.HostTicket.{applied, host_number, host_bytes, host_answer, host_output}
use Rattle.operators.proofs.Senders.{as_accepted, as_number}
use Rattle.exchange.proofs.Between.{passed_leaves, read_table}
use Rattle.packing.proofs.Refused.{refused_is, passed_is}

-- A refusal fits its field.
pub else_small : (b : Bool) (n rest : ℕ) → n < sixteen_bits → rest < sixteen_bits → or_else b n rest < sixteen_bits
else_small true n rest p q = p
else_small false n rest p q = q

-- So does the first refusal of a list, if all of them do and what comes after has.
first_small : (l : List (ℕ × Bool)) (rest : ℕ) → T (all (λ r. ltb r.0 sixteen_bits) l) → rest < sixteen_bits
    → first_or l rest < sixteen_bits
first_small [] rest s h = h
first_small (r ∷ l) rest s h =
    let q = and_both (ltb r.0 sixteen_bits) (all (λ r. ltb r.0 sixteen_bits) l) s in
    else_small r.1 r.0 (first_or l rest) (ltb→lt r.0 sixteen_bits q.0) (first_small l rest q.1 h)

-- So does a refusal of reading.
pub read_small : (image : List ℕ) → read_answer room image < sixteen_bits
read_small image =
    let l : List ℕ = image_words image in
    else_small (malformed product (image_form image) image) 12 _ (lit< tt) (else_small (ltb product.most (length l)) 11 _
    (lit< tt)
    (else_small (inconsistent product l) 3 0 (lit< tt) (lit< tt)))

-- So does a refusal of a table, if what comes after has.
pub table_small : (t : List ℕ) (rest : ℕ) → rest < sixteen_bits → table_refusal product t rest < sixteen_bits
table_small t rest h = first_small (table_tests product t) rest tt h

-- An answer of 0 is not a refusal's.
pub accepted_passes : (n rest : ℕ) → n < sixteen_bits → answer_in (refused_else n rest) ≡ 0 → (n ≡ 0) × (refused_else n rest ≡ rest)
accepted_passes n rest h e = elim (ℕ_discrete n 0) [
  | yes z ↦ (z, passed_is n rest z)
  | no q ↦ let own : n ≡ answer_in (packed n 0 0 0) = omega (arith, h) in
      absurd (q (own ∙ (ap answer_in (sym (refused_is n rest q)) ∙ e)))
]

pub packed_answer : (a r l : ℕ) → answer_in (packed 0 a r l) ≡ 0
packed_answer a r l = omega arith

pub packed_length : (a r l : ℕ) → a < sixteen_bits → r < sixteen_bits → length_in (packed 0 a r l) ≡ l
packed_length a r l p q = omega (arith, p, q)

-- The bytes v are those that stood there, and a number r tells nothing but its answer.
abbrev pub Kept : List ℕ → ℕ → List ℕ → Type 0
Kept output r v = (v ≡ output) × (added_in r ≡ 0) × (removed_in r ≡ 0) × (length_in r ≡ 0)

-- One step: its refusal, or what comes after if there it is so.
pub kept_else : (b : Bool) (n rest : ℕ) (new old : List ℕ) → n < sixteen_bits → ((answer_in rest ≡ 0 → ⊥) → Kept old rest new)
    → (answer_in (cond b rest (packed n 0 0 0)) ≡ 0 → ⊥) → Kept old (cond b rest (packed n 0 0 0)) (cond b new old)
kept_else true n rest new old h k a = k a
kept_else false n rest new old h k a = (refl, omega (arith, h), omega (arith, h), omega (arith, h))

-- The image of a consistent table of 2,048 words is read into any table u of as many: n is what `read` answers, and w the words
-- that it leaves.
pub reads_back : {left image : List ℕ} → Table product left → length left ≡ product.most → (u : List ℕ)
    → length u ≡ product.most → image ≡ table_image left → (n : ℕ) (w : List ℕ) → ReadPromise u image n w → (n ≡ 0) × (w ≡ left)
reads_back {left} table long u h e n w q =
    let passes : 0 ≡ table_refusal product left 0 = sym (table_passes product left table 0) in
    let size : bad_size product u ≡ false = ap (λ m. leb m 0 || ltb product.most m) h in
    let fits : length (filled left) ≤ length u = omega (arith, h, filled_within product left table.laid, long) in (
      q.0 ∙ (ap (read_answer u) e ∙ sym (image_reads_back left u passes size fits).0),
      q.1 ∙ (ap (read_words u) e ∙ sym (table_reads_back left u passes size (long ∙ sym h))),
    )

-- A refusal of writing fits its field.
write_small : (table output : List ℕ) → write_answer table output < sixteen_bits
write_small table output =
    table_small table _ (else_small (ltb (length output) (length (table_image table))) 13 0 (lit< tt) (lit< tt))

-- So does the step's number.
pub step_small : (w ticket : List ℕ) → (step product w ticket).number < sixteen_bits
step_small w ticket = subst (λ n. n < sixteen_bits) (sym (step_number product w ticket))
    (first_small (tests product w ticket) 0 tt (lit< tt))

-- No more facts come or go than a table of 2,048 words has.
pub counts_fit : (w ticket : List ℕ) → Table product w → length w ≡ product.most → (step product w ticket).number ≡ 0
    → ((step product w ticket).added < sixteen_bits) × ((step product w ticket).removed < sixteen_bits)
counts_fit w ticket t long number =
    let ws : List ℕ = words product (new product w ticket) in
    let l = accepted_leaves product w ticket number in
    let fits : length ws ≤ length w =
    room_fits product w (new product w ticket) (passed product w ticket (sym (step_number product w ticket) ∙ number)).room in (
      omega (arith, l.added, filter_split (λ x. not (member (filled w) x)) ws, fits, long),
      omega (
        arith,
        l.removed,
        filter_split (λ x. not (member ws x)) (filled w),
        filled_within product w t.laid,
        long,
      ),
    )

-- A call with one ticket, whatever the ticket's answer, refused by reading, by the ticket or by writing.
pub refused_of_lem : (image output : List ℕ) (s : Answer) → s.number < sixteen_bits
    → (answer_in (host_number image output s) ≡ 0 → ⊥) → Kept output (host_number image output s) (host_bytes image output s)
unfolding host_number host_bytes
refused_of_lem image output s small =
    let n : ℕ = write_answer s.table output in
    let long : ℕ = write_length s.table output in
    let counts : ℕ = packed 0 s.added s.removed long in
    let later : ℕ = refused_else n counts in
    let out : List ℕ = table_image s.table ++ drop (length (table_image s.table)) output in
    let left : List ℕ = write_bytes s.table output in
    let by-writing =
    kept_else (eqb n 0) n counts out output (write_small s.table output)
    (λ h. absurd (h (packed_answer s.added s.removed long))) in
    let by-ticket = kept_else (eqb s.number 0) s.number later left output small by-writing in
    kept_else (eqb (read_answer room image) 0) (read_answer room image) (refused_else s.number later)
    (cond (eqb s.number 0) left output) output (read_small image) by-ticket

module _ (operator : Bool) (image ticket output : List ℕ) where
  abbrev s : Answer
  s = applied operator image ticket

  abbrev w : List ℕ
  w = read_words room image

  -- The call's steps, accepted one after another.
  pub record Accepted : Type 0 where
    pub read : read_answer room image ≡ 0
    pub number : s.number ≡ 0
    pub write : write_answer s.table output ≡ 0
    pub answer : host_answer operator image ticket output ≡ packed 0 s.added s.removed (write_length s.table output)

  pub number_small : s.number < sixteen_bits
  unfolding applied
  number_small = ⊎_elim (λ e. subst (λ n. n < sixteen_bits) (sym e) (lit< tt))
      (λ e. subst (λ n. n < sixteen_bits) (sym e) (step_small w ticket)) (as_number product w ticket operator)

  pub accepted : answer_in (host_answer operator image ticket output) ≡ 0 → Accepted
  unfolding host_number
  accepted e =
      let counts : ℕ = packed 0 s.added s.removed (write_length s.table output) in
      let later : ℕ = refused_else (write_answer s.table output) counts in
      let a = accepted_passes (read_answer room image) (refused_else s.number later) (read_small image) e in
      let b = accepted_passes s.number later number_small (ap answer_in (sym a.1) ∙ e) in
      let c = accepted_passes (write_answer s.table output) counts (write_small s.table output)
      (ap answer_in (sym (a.1 ∙ b.1)) ∙ e) in
      record { read = a.0; number = b.0; write = c.0; answer = a.1 ∙ (b.1 ∙ c.1) }

  pub left_length : length s.table ≡ product.most
  unfolding applied
  left_length = (as_keeps product product_sound operator).long w ticket ∙ read_length room image

  module _ (a : Accepted) where
    counts_small : (s.added < sixteen_bits) × (s.removed < sixteen_bits)
    unfolding applied
    counts_small =
        let plain = as_accepted product w ticket operator a.number in
        let number : (step product w ticket).number ≡ 0 = sym (ap (λ x. x.number) plain) ∙ a.number in
        let small = counts_fit w ticket (read_table image 0 (sym a.read) refl refl) (read_length room image) number in (
          subst (λ n. n < sixteen_bits) (sym (ap (λ x. x.added) plain)) small.0,
          subst (λ n. n < sixteen_bits) (sym (ap (λ x. x.removed) plain)) small.1,
        )

    pub saved_image : take (length_in (host_answer operator image ticket output)) (host_output operator image ticket output)
        ≡ table_image s.table
    unfolding host_bytes
    saved_image =
        let n : ℕ = write_length s.table output in
        let size : length_in (host_answer operator image ticket output) ≡ n =
        ap length_in a.answer ∙ packed_length s.added s.removed n counts_small.0 counts_small.1 in
        let left : host_output operator image ticket output ≡ write_bytes s.table output =
        passed_leaves (read_answer room image) (cond (eqb s.number 0) (write_bytes s.table output) output) output a.read
        ∙ passed_leaves s.number (write_bytes s.table output) output a.number in
        ap (λ m. take m (host_output operator image ticket output)) size
        ∙ (ap (take n) left ∙ write_taken s.table output a.write)

  -- Refused by reading, by the ticket or by writing.
  pub refused : (answer_in (host_answer operator image ticket output) ≡ 0 → ⊥)
      → Kept output (host_answer operator image ticket output) (host_output operator image ticket output)
  refused = refused_of_lem image output s number_small
