-- Refusal 16: exactly if the ticket inserts CI with an id that is no class of the table. Assumes nothing.
use Prim.Native.Nat.{ℕ}
use mathlib.Core.Path.{◌≡◌, sym, ◌∙◌}
use mathlib.Core.List.{List}
use native.Mathlib.Omega.{arith}
use lib.Dec.{T}
use Rattle.rdfs.specs.Numbers.{Numbers}
use Rattle.rdfs.specs.Lists.{◌∈◌}
use Rattle.rdfs.specs.Facts.{cl}
use Rattle.rdfs.specs.Words.{facts}
use Rattle.rdfs.specs.Tickets.{decoded, inserts, unknown_class}
use Rattle.rdfs.specs.Refusals.{here, later}
use Rattle.rdfs.specs.Register.{step, Table}
use Rattle.rdfs.specs.Promises.{Formed}
use Rattle.rdfs.proofs.Tickets.FirstTrue.{first_holds}
use Rattle.rdfs.proofs.Tickets.TicketTests.{tests_unknown_class, member_no_property}
use Rattle.rdfs.proofs.Tickets.TicketRefusals.{tests, past_form}
use Rattle.rdfs.proofs.Tickets.Steps.{table_sane, step_number}

module _ (N : Numbers) (w bytes : List ℕ) where
  pub sixteen_unknown : (step N w bytes).number ≡ 16 → T (unknown_class (facts N w) (decoded bytes))
  sixteen_unknown e = first_holds (tests N w bytes) tt 16 (omega arith) (sym (step_number N w bytes) ∙ e)

  pub sixteen_only : (step N w bytes).number ≡ 16
      → T (inserts (decoded bytes)) × ((decoded bytes).kind ≡ 9) × (cl (decoded bytes).b ∈ facts N w → ⊥)
  sixteen_only e = let q = (tests_unknown_class (facts N w) (decoded bytes)).sound (sixteen_unknown e) in (q.0, q.1.0, q.1.1)

  pub sixteen_if : Table N w → Formed N bytes → T (inserts (decoded bytes)) → (decoded bytes).kind ≡ 9
      → (cl (decoded bytes).b ∈ facts N w → ⊥) → (step N w bytes).number ≡ 16
  sixteen_if t f i k n = step_number N w bytes ∙ past_form N w bytes (table_sane N w t) f
      (later (member_no_property (facts N w) (decoded bytes) k)
      (here ((tests_unknown_class (facts N w) (decoded bytes)).complete (i, (k, n)))))
