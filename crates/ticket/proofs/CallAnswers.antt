-- From an inner step's answer to what the calls promise. Assumes nothing.
use Prim.Native.Nat.{ℕ}
use mathlib.Core.Path.{◌≡◌, refl, sym, ap, ◌∙◌}
use mathlib.Core.Logic.{⊎_elim}
use mathlib.Core.List.{List}
use lib.Dec.{eqb→eq}
use lib.ListN.{length}
use Rattle.std.specs.Prelude.{Err}
use Rattle.rdfs.specs.Numbers.{product}
use Rattle.rdfs.specs.Words.{filled}
use Rattle.rdfs.specs.Register.{Answer, refused_with, Table}
use Rattle.rdfs.specs.Tickets.{ticket_of}
use Rattle.rdfs.proofs.Tickets.TicketTests.{known_operation}
use Rattle.table.specs.declared.refusals.Refusal.{Refusal}
use Rattle.table.specs.Refused.{number, answer_of}
use Rattle.ticket_form.specs.TicketForm.{sense, bytes_of, record_of, form_refusal}
use Rattle.ticket_form.specs.declared.fields.Ticket.{Ticket}
use Rattle.ticket_form.proofs.Formed.{form_passes}
use Rattle.ticket_form.proofs.Numbered.{number_some}
use Rattle.ticket.specs.Ready.{Ready}
use Rattle.ticket.specs.Answered.{Outcome, added_by, removed_by, Answered, Step, added_of, removed_of, Stepped}

-- A ticket by its fields, each made wide.
module _ {o k a b c : ℕ} (t : Ticket) (eo : t.operation ≡ o) (ek : k ≡ t.kind) (ea : a ≡ t.a) (eb : b ≡ t.b) (ec : c ≡ t.c)
  where
    pub wide_bytes : record_of o k a b c ≡ bytes_of t
    wide_bytes = λ i. record_of (sym eo i) (ek i) (ea i) (eb i) (ec i)

    pub wide_ready : {w : List ℕ} {n r : ℕ} → Table product w → n ≡ length (filled w) → r ≡ form_refusal (sense t) → r ≡ 0
        → Ready w n o k a b c
    wide_ready h s e z = record { table = h; size = s; formed = ap form_refusal same ∙ (sym e ∙ z) }
      where
        same : ticket_of o k a b c ≡ sense t
        same = λ i. ticket_of (sym eo i) (ek i) (ea i) (eb i) (ec i)

-- Past refusal 5, what does not insert deletes.
pub deletes_else : (t : Ticket) {r : ℕ} → r ≡ form_refusal (sense t) → r ≡ 0 → (t.operation ≡ 1 → ⊥) → t.operation ≡ 2
deletes_else t e z n = ⊎_elim (λ i. absurd (n (eqb→eq t.operation 1 i))) (eqb→eq t.operation 2)
    (known_operation (sense t) (form_passes (sense t) (sym e ∙ z)).operation)

-- No refusal has the number of none, for the crates above.
pub refused_some : (refusal : Refusal) → number refusal ≡ 0 → ⊥
refused_some = number_some

-- The answer of a refused call, and of one that took an inner step.
pub answered_refused : {w : List ℕ} {s : Answer} (refusal : Refusal) → s ≡ refused_with (number refusal) w
    → Answered (Err refusal) w s
answered_refused refusal q = rw q record { number = refl; added = refl; removed = refl; words = refl }

pub answered_stepped : {n : ℕ} {s : Step} {r : Outcome} {x : List ℕ} {a : Answer} → Stepped n s x a
    → answer_of r ≡ answer_of s → added_by r ≡ added_of n s → removed_by r ≡ removed_of n s → Answered r x a
answered_stepped s e p q = record {
  number = e ∙ s.number;
  added = p ∙ s.added;
  removed = q ∙ s.removed;
  words = s.words;
}
