-- What is left of the words where they need not be kept: the same promise with less said, and with KEEP the same. Assumes
-- nothing.
use Prim.Native.Nat.{ℕ}
use mathlib.Core.Path.{◌≡◌, refl, sym, subst}
use mathlib.Core.Bool.{Bool, true, false}
use mathlib.Core.List.{List}
use lib.ListN.{length}
use Rattle.std.specs.Prelude.{Option, Some, None, ok_or}
use Rattle.rdfs.specs.Numbers.{product}
use Rattle.rdfs.specs.Tickets.{ticket_of}
use Rattle.rdfs.specs.Register.{Answer, step}
use Rattle.table.specs.declared.refusals.Refusal.TheVariants.{TooMany}
use Rattle.insertion.specs.GrowAnswers.{GrowMeans}
use Rattle.ticket_form.specs.TicketForm.{record_of}
use Rattle.ticket.specs.Ready.{Possible}
use Rattle.ticket.proofs.Ways.{way_lost, way_room}
use Rattle.ticket.specs.Answered.{Outcome, Answered, AnsweredAs, Step, Stepped, SteppedAs}

module _ (keep : Bool) {x : List ℕ} {a : Answer} where
  pub stepped_as : {n : ℕ} {s : Step} → Stepped n s x a → SteppedAs keep n s x a
  stepped_as {n} {s} d = record { numbers = subst (λ y. Stepped n s y a) d.words d; words = λ h. d.words }

  -- A work table's step, where the words need not be kept.
  pub stepped_work : {n : ℕ} {s : Step} → keep ≡ false → SteppedAs false n s x a → SteppedAs keep n s x a
  stepped_work {n} {s} e = subst (λ b. SteppedAs b n s x a) (sym e)

  pub answered_as : {r : Outcome} → Answered r x a → AnsweredAs keep r x a
  answered_as {r} d = record { numbers = subst (λ y. Answered r y a) d.words d; words = λ h. d.words }

pub answered_kept : {r : Outcome} {x : List ℕ} {a : Answer} → AnsweredAs true r x a → Answered r x a
answered_kept {r} {x} {a} d = subst (λ y. Answered r y a) (sym (d.words tt)) d.numbers

-- Growth on a work table, whether there is room or not.
pub way_unsaved : {w : List ℕ} {n k a b c : ℕ} → Possible w n k a b c → (x : List ℕ) (g : Option ℕ)
    → GrowMeans w (ticket_of 1 k a b c) x g → length x ≡ length w
    → SteppedAs false n (ok_or g TooMany) x (step product w (record_of 1 k a b c))
way_unsaved p x None h l = way_lost p x None refl h
way_unsaved p x (Some m) h l = stepped_as false (way_room p x (Some m) m refl h l)
