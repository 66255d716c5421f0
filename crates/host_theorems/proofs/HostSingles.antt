-- Single host calls, one for each ticket, each by its contract, do as the register. Assumes nothing.
use Prim.Native.Nat.{ℕ, ◌≤◌}
use mathlib.Core.Path.{◌≡◌, refl, sym, ap, subst, ◌∙◌}
use mathlib.Core.Bool.{Bool}
use mathlib.Core.List.{List, [], ◌∷◌, map}
use native.Mathlib.Omega.{arith}
use native.Mathlib.Decide.{ℕ_discrete}
use lib.ListN.{length, take}
use Rattle.rdfs.specs.Numbers.{product}
use Rattle.rdfs.specs.Register.{Answer, run_with, Table}
use Rattle.rdfs.specs.Operators.{step_as}
use Rattle.rdfs.proofs.Operators.OperatorSteps.{as_refused}
use Rattle.list_form.proofs.Runs.{steps_keep}
use Rattle.writing.specs.WritePromise.{table_image, write_answer, write_length}
use Rattle.writing.proofs.Measuring.{image_small}
use Rattle.writing.proofs.WriteCall.{table_writing, write_done}
use Rattle.reading.specs.ReadPromise.{read_answer, read_words}
use Rattle.exchange.specs.ToText.{room}
use Rattle.packing.specs.Packed.{packed, answer_in, length_in, refused_else}
use Rattle.host_ticket.specs.HostTicket.{applied, host_number, host_answer}
use Rattle.host_theorems.specs.HostCalls.{HostCall, Called, image_after, CalledEach, image_after_all}
use Rattle.exchange.proofs.Between.{refused_keeps, passed_leaves}
use Rattle.packing.proofs.Refused.{refused_is, passed_is}
use Rattle.host_ticket.proofs.HostWays.{applied_table}
use Rattle.host_theorems.proofs.Saved.{packed_answer, reads_back, number_small, accepted, saved_image}

-- An image is read as the words w.
pub record Gives (image w : List ℕ) : Type 0 where
  pub read : read_answer room image ≡ 0
  pub words : read_words room image ≡ w

pub image_gives : (w : List ℕ) → Table product w → length w ≡ product.most → Gives (table_image w) w
image_gives w table long =
    let image : List ℕ = table_image w in
    let back = reads_back table long room refl refl (read_answer room image) (read_words room image) (refl, refl) in
    record { read = back.0; words = back.1 }

-- One call on an image that is read as a consistent table of 2,048 words.
module _ (operator : Bool) (w : List ℕ) (table : Table product w) (long : length w ≡ product.most) (image : List ℕ)
    (gives : Gives image w) (ticket : List ℕ) (call : HostCall) (called : Called operator image ticket call) where
  abbrev s : Answer
  s = applied operator image ticket

  abbrev output : List ℕ
  output = call.output

  as_step : s ≡ step_as operator product w ticket
  unfolding applied
  as_step = ap (λ v. step_as operator product v ticket) gives.words

  -- Its answer is the ticket's number, since writing is not refused.
  written : write_answer s.table output ≡ 0
  written =
      let t : Table product s.table = applied_table operator image ticket gives.read in
      let fits : length (table_image s.table) ≤ length output =
      omega (arith, called.has_room, image_small s.table _ (table_writing t _ refl).writable) in
      sym (write_done s.table output t fits _ refl _ refl).0

  answers : answer_in (host_answer operator image ticket output) ≡ s.number
  unfolding host_number
  answers =
      let counts : ℕ = packed 0 s.added s.removed (write_length s.table output) in
      let later : ℕ = refused_else (write_answer s.table output) counts in
      let read : host_answer operator image ticket output ≡ refused_else s.number later =
      passed_is (read_answer room image) (refused_else s.number later) gives.read in
      elim (ℕ_discrete s.number 0) [
        | yes z ↦
            let done : host_answer operator image ticket output ≡ counts =
            read ∙ (passed_is s.number later z ∙ passed_is (write_answer s.table output) counts written) in
            ap answer_in done
            ∙ (packed_answer s.added s.removed (write_length s.table output) ∙ sym z)
        | no h ↦ ap answer_in (read ∙ refused_is s.number later h) ∙ omega (arith, number_small operator image ticket output)
      ]

  pub call_answer : answer_in call.number ≡ (step_as operator product w ticket).number
  call_answer = ap answer_in called.promise.0 ∙ (answers ∙ ap (λ a. a.number) as_step)

  -- Accepted, the image for the next call is that of the words that the ticket leaves; refused, it is the same, and so are they.
  call_accepted : answer_in call.number ≡ 0 → image_after image call ≡ table_image (step_as operator product w ticket).table
  call_accepted z =
      let a = accepted operator image ticket output (ap answer_in (sym called.promise.0) ∙ z) in
      passed_leaves (answer_in call.number) (take (length_in call.number) call.left) image z
      ∙ (ap (λ m. take (length_in m) call.left) called.promise.0
      ∙ (ap (take (length_in (host_answer operator image ticket output))) called.promise.1
      ∙ (saved_image operator image ticket output a ∙ ap (λ x. table_image x.table) as_step)))

  call_refused : (answer_in call.number ≡ 0 → ⊥) → (image_after image call ≡ image)
      × ((step_as operator product w ticket).table ≡ w)
  call_refused h = (
    refused_keeps (answer_in call.number) (take (length_in call.number) call.left) image h,
    as_refused product w ticket operator (λ e. h (call_answer ∙ e)),
  )

  pub call_gives : Gives (image_after image call) (step_as operator product w ticket).table
  call_gives =
      let v : List ℕ = (step_as operator product w ticket).table in
      elim (ℕ_discrete (answer_in call.number) 0) [
        | yes z ↦ subst (λ i. Gives i v) (sym (call_accepted z)) (image_gives v ((steps_keep operator).rules w ticket table)
            ((steps_keep operator).long w ticket ∙ long))
        | no h ↦ let kept = call_refused h in
            subst (λ i. Gives i v) (sym kept.0) (subst (Gives image) (sym kept.1) gives)
      ]

  pub call_image : image ≡ table_image w → image_after image call ≡ table_image (step_as operator product w ticket).table
  call_image own = elim (ℕ_discrete (answer_in call.number) 0) [
    | yes z ↦ call_accepted z
    | no h ↦ let kept = call_refused h in kept.0 ∙ (own ∙ ap table_image (sym kept.1))
  ]

-- All calls: their answers are the register's numbers, the last image is read as its words, and it is their image if the first is
-- that of the words before.
pub record CallsRun (operator : Bool) (image w : List ℕ) (l : List (List ℕ)) (calls : List HostCall) : Type 0 where
  pub numbers : map (λ c. answer_in c.number) calls ≡ (run_with (step_as operator product) w l).numbers
  pub last_gives : Gives (image_after_all image calls) (run_with (step_as operator product) w l).table
  pub last_image : image ≡ table_image w → image_after_all image calls ≡ table_image (run_with (step_as operator product) w l).table

pub calls_run : (operator : Bool) (l : List (List ℕ)) (calls : List HostCall) (w : List ℕ) → Table product w → length w
    ≡ product.most
    → (image : List ℕ) → Gives image w → CalledEach operator image l calls → CallsRun operator image w l calls
unfolding run_with
calls_run operator [] [] w t long image g h = record { numbers = refl; last_gives = g; last_image = λ own. own }
calls_run operator [] (c ∷ cs) w t long image g h = absurd h
calls_run operator (b ∷ l) [] w t long image g h = absurd h
calls_run operator (b ∷ l) (c ∷ cs) w t long image g h =
    let rest = calls_run operator l cs (step_as operator product w b).table ((steps_keep operator).rules w b t)
    ((steps_keep operator).long w b ∙ long) (image_after image c) (call_gives operator w t long image g b c h.0) h.1 in
    record {
      numbers = λ i. call_answer operator w t long image g b c h.0 i ∷ rest.numbers i;
      last_gives = rest.last_gives;
      last_image = λ own. rest.last_image (call_image operator w t long image g b c h.0 own);
    }
