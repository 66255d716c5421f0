-- What is proved of the host's calls with one ticket, anyone's or an operator's: which refusals its steps can give, that a
-- refusal leaves all as it was, and that the output reads back. All that is known of its number r and the bytes v that it leaves
-- is its contract, `HostPromiseAs`. Assumes nothing.
use Prim.Native.Nat.{ℕ}
use mathlib.Core.Path.{◌≡◌, refl, sym, ap, ◌∙◌}
use mathlib.Core.Bool.{Bool}
use mathlib.Core.List.{List}
use lib.Dec.{ltb}
use lib.ListN.{length, take}
use Rattle.rdfs.specs.Numbers.{product}
use Rattle.rdfs.specs.Refusals.{or_else, inconsistent}
use Rattle.rdfs.proofs.Tickets.Steps.{table_passes}
use Rattle.writing.specs.WritePromise.{table_image, write_answer}
use Rattle.reading.specs.ReadPromise.{image_words, image_refusal, read_answer, ReadPromise}
use Rattle.exchange.specs.ToText.{room}
use Rattle.packing.specs.Packed.{answer_in, added_in, removed_in, length_in}
use Rattle.host_ticket.specs.HostTicket.{applied, host_answer, HostPromiseAs}
use Rattle.host_ticket.proofs.HostWays.{applied_table}
use Rattle.host_theorems.proofs.Saved.{reads_back, accepted, left_length, saved_image, refused}

-- Reading: 12, 11 or 3. Refusal 1 cannot come, for the room is the call's own.
pub read_refusals : (image : List ℕ) → read_answer room image ≡ image_refusal image product.most
    (or_else (inconsistent product (image_words image)) 3 0)
read_refusals image = refl

-- Writing: 13 only, exactly if the output is shorter than the image of what the ticket left.
pub write_refusals : (operator : Bool) (image ticket output : List ℕ) → read_answer room image ≡ 0
    → let left : List ℕ = (applied operator image ticket).table in
    write_answer left output ≡ or_else (ltb (length output) (length (table_image left))) 13 0
write_refusals operator image ticket output e =
    let left : List ℕ = (applied operator image ticket).table in
    table_passes product left (applied_table operator image ticket e) (or_else (ltb (length output) (length (table_image left))) 13
    0)

module _ (operator : Bool) (image ticket output : List ℕ) (r : ℕ) (v : List ℕ) (p : HostPromiseAs operator image ticket output r
    v) where
  -- Demand 1: refused, every byte of the output is as it was, and the facts added, the facts removed and the length are 0.
  pub host_refusal_keeps : (answer_in r ≡ 0 → ⊥) → (v ≡ output) × (added_in r ≡ 0) × (removed_in r ≡ 0) × (length_in r ≡ 0)
  host_refusal_keeps h =
      let k = refused operator image ticket output (λ e. h (ap answer_in p.0 ∙ e)) in
      (p.1 ∙ k.0, ap added_in p.0 ∙ k.1, ap removed_in p.0 ∙ k.2, ap length_in p.0 ∙ k.3)

  -- Demand 2: the output of an accepted call, cut to the length answered, is read into any table u of 2,048 words as the words
  -- that the ticket left: n is what `read` answers, and w the words that it leaves.
  pub host_output_reads_back : answer_in r ≡ 0 → (u : List ℕ) → length u ≡ product.most
      → (n : ℕ) (w : List ℕ) → ReadPromise u (take (length_in r) v) n w → (n ≡ 0) × (w ≡ (applied operator image ticket).table)
  host_output_reads_back e u h n w q =
      let left : List ℕ = (applied operator image ticket).table in
      let a = accepted operator image ticket output (ap answer_in (sym p.0) ∙ e) in
      let number : ℕ = host_answer operator image ticket output in
      let cut : take (length_in r) v ≡ take (length_in number) v = ap (λ m. take (length_in m) v) p.0 in
      let same : take (length_in r) v ≡ table_image left =
      cut ∙ (ap (take (length_in number)) p.1 ∙ saved_image operator image ticket output a) in
      reads_back (applied_table operator image ticket a.read) (left_length operator image ticket output) u h same n w q
