-- A ticket past the refusals that need no table: what is known of its kind and ids. Assumes nothing.
use Prim.Native.Nat.{ℕ, ◌≤◌, ◌<◌}
use mathlib.Core.Path.{◌≡◌}
use mathlib.Core.Bool.{false, ◌||◌}
use mathlib.Core.Logic.{◌⊎◌, inl, inr}
use native.Mathlib.Omega.{arith}
use native.Mathlib.Decide.{ℕ_discrete}
use lib.Dec.{T, ltb, ltb→lt, lt→ltb}
use Rattle.rdfs.specs.Numbers.{product, arity}
use Rattle.rdfs.specs.Tickets.{
  Ticket,
  makes_property,
  used,
  bad_operation,
  bad_kind,
  bad_ids,
  guarded,
  unused_not_zero,
  mark_misplaced,
  above_highest,
  ticket_of,
}
use Rattle.rdfs.specs.Refusals.{form_tests}
use Rattle.rdfs.proofs.Lists.Tests.{Tests, tests_and, tests_or, tests_not, tests_eq, either_or}
use Rattle.rdfs.proofs.Tickets.TicketTests.{by_kind, known_kind, given_ids}
use Rattle.rdfs.proofs.Tickets.FirstTrue.{none_holds}
use Rattle.table.specs.Parts.{Shaped}
use Rattle.table.specs.Counted.{Id}
use Rattle.ticket_form.specs.TicketForm.{form_refusal}

-- None of refusals 5 to 8.
pub record Passes (t : Ticket) : Type 0 where
  pub operation : T (bad_operation t) → ⊥
  pub kind : T (bad_kind t) → ⊥
  pub ids : T (bad_ids product.top t) → ⊥
  pub free : T (guarded t) → ⊥

pub form_passes : (t : Ticket) → form_refusal t ≡ 0 → Passes t
form_passes t e =
    let past = none_holds (form_tests product t) tt e in
    record { operation = past 5; kind = past 6; ids = past 7; free = past 8 }

tests_less : (x y : ℕ) → Tests (ltb x y) (x < y)
tests_less x y = record { sound = ltb→lt x y; complete = lt→ltb x y }

module _ (o k a b c : ℕ) (e : form_refusal (ticket_of o k a b c) ≡ 0) where
  abbrev given : Ticket
  given = ticket_of o k a b c

  p : Passes given
  p = form_passes given e

  pub formed_ids : Id a × Id b × Id c
  formed_ids = let g = given_ids product.top given p.ids in (g.a_top, g.b_top, g.c_top)

  -- The ids that are not used are 0.
  tests_unused : Tests (unused_not_zero given) (((used given < 2) × (b ≡ 0 → ⊥)) ⊎ ((used given < 3) × (c ≡ 0 → ⊥)))
  tests_unused = tests_or (tests_and (tests_less (used given) 2) (tests_not (tests_eq b 0)))
      (tests_and (tests_less (used given) 3) (tests_not (tests_eq c 0)))

  none_unused : ((used given < 2) × (b ≡ 0 → ⊥)) ⊎ ((used given < 3) × (c ≡ 0 → ⊥)) → ⊥
  none_unused h = p.ids (either_or (unused_not_zero given) (mark_misplaced given || above_highest product.top given)
      (inl (tests_unused.complete h)))

  second_zero : used given < 2 → b ≡ 0
  second_zero h = elim (ℕ_discrete b 0) [ yes z ↦ z | no n ↦ absurd (none_unused (inl (h, n))) ]

  third_zero : used given < 3 → c ≡ 0
  third_zero h = elim (ℕ_discrete c 0) [ yes z ↦ z | no n ↦ absurd (none_unused (inr (h, n))) ]

  -- Where the ticket makes no property, it names a fact.
  pub formed_shaped : makes_property given ≡ false → Shaped k b c
  formed_shaped m =
      let some : 1 ≤ arity k =
      by_kind (λ k. 1 ≤ arity k) k (known_kind given p.kind)
      (omega arith) (omega arith) (omega arith) (omega arith) (omega arith) (omega arith) (omega arith) (omega arith)
      (omega arith) in
      let own : used given ≡ arity k = simp m in
      record {
        some = some;
        second = λ h. second_zero (omega (arith, own));
        third = λ h. third_zero (omega (arith, own));
      }
