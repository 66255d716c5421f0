-- The call from its parts: the refusal, and the loop. Assumes nothing.
use Prim.Native.Nat.{ℕ}
use mathlib.Core.Path.{◌≡◌, refl, sym, ap, subst, ◌∙◌}
use mathlib.Core.Bool.{false}
use mathlib.Core.List.{List, [], ◌∷◌, map}
use native.Mathlib.Omega.{arith}
use lib.ListN.{length, length-map}
use Rattle.rdfs.specs.Numbers.{product, record_length}
use Rattle.rdfs.specs.Register.{run, cut}
use Rattle.rdfs.specs.Operators.{register_as}
use Rattle.rdfs.proofs.Register.Cut.{cut_record}
use Rattle.ticket_form.specs.TicketForm.{bytes_of}
use Rattle.ticket_form.specs.declared.fields.Ticket.{Ticket}
use Rattle.list_form.specs.Listing.{refusal_of, record_bytes}
use Rattle.list_form.specs.Loops.{AllRun}
use Rattle.list_form.proofs.ListCall.{Judged}

-- The tickets of records are their bytes.
cut_records : (tickets : List Ticket) → cut record_length (record_bytes tickets) ≡ map bytes_of tickets
cut_records [] = refl
cut_records (t ∷ l) = cut_record record_length (omega arith) (bytes_of t) (record_bytes l) refl
    ∙ ap (λ c. bytes_of t ∷ c) (cut_records l)

pub records_judged : (l : List Ticket) (answers : List ℕ) {w : List ℕ} {a : ℕ} → a ≡ refusal_of w (length l) (length answers)
    → Judged w (length (cut record_length (record_bytes l))) answers (length l) a
records_judged l answers h =
    record { tickets = sym (ap length (cut_records l) ∙ length-map l bytes_of); refusal = h }

-- The register runs the tickets of their bytes.
pub records_ran : (w : List ℕ) (l : List Ticket) {k : ℕ} {u answers out : List ℕ}
    → AllRun k u answers out (run product w (map bytes_of l))
    → AllRun k u answers out (register_as false product w (record_bytes l))
unfolding register_as run
records_ran w l {k} {u} {answers} {out} = subst (AllRun k u answers out) (ap (run product w) (sym (cut_records l)))
