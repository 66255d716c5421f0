-- Exclusive properties, about the single call itself: r is what `apply` answers and v the words it leaves, and all that is known
-- of them is its contract, `ApplyPromise`. Assumes nothing.
use Prim.Native.Nat.{ℕ}
use mathlib.Core.Path.{◌≡◌, sym, subst, ◌∙◌}
use mathlib.Core.Logic.{◌⊎◌}
use mathlib.Core.List.{List}
use lib.Dec.{T}
use Rattle.rdfs.specs.Numbers.{product}
use Rattle.rdfs.specs.Lists.{◌∈◌}
use Rattle.rdfs.specs.Facts.{Fact, pr, pi, excl}
use Rattle.rdfs.specs.Words.{facts}
use Rattle.rdfs.specs.Clashes.{two_holders}
use Rattle.rdfs.specs.Tickets as defs
use Rattle.rdfs.specs.Register.{step, Table}
use Rattle.rdfs.specs.Promises.{Formed, TakesExclusive}
use Rattle.rdfs.proofs.Register.AfterEach.{after}
use Rattle.rdfs.proofs.Theorems.{product_sound}
use Rattle.rdfs.proofs.ExclusiveTheorems.{
  exclusive_nine_is_exact,
  exclusive_ten_is_exact,
  exclusive_added_alone,
  exclusive_deleted_alone,
  property_takes_exclusive,
  exclusive_taken_by,
}
use Rattle.table.specs.Refused.{answer_of}
use Rattle.ticket.specs.Answered.{Outcome, ApplyPromise}

-- On a consistent table.
module _ (w b v : List ℕ) (r : Outcome) (t : Table product w) (a : ApplyPromise w b r v) where
  abbrev ticket : defs.Ticket
  ticket = defs.decoded b

  -- The facts left are those of the register's words.
  left : (g : Fact) → g ∈ facts product v → g ∈ facts product (step product w b).table
  left g h = subst (λ u. g ∈ facts product u) a.words h

  to_left : (g : Fact) → g ∈ facts product (step product w b).table → g ∈ facts product v
  to_left g h = subst (λ u. g ∈ facts product u) (sym a.words) h

  -- Whatever the ticket and its answer, a value has one holder at most through an exclusive property.
  pub call_one_holder : (x y z u : ℕ) → excl z ∈ facts product v → pi x y z ∈ facts product v → pi u y z ∈ facts product v → x ≡ u
  call_one_holder x y z u e h k =
      (after product product_sound w b t).rules.consistent.rule_e2 x y z u (left _ e) (left _ h) (left _ k)

  module _ (k : ticket.kind ≡ 11) where
    -- Inserting Excl past refusal 8: 9 exactly if its id is no property of the table, whatever else it is.
    pub call_exclusive_nine : T (defs.inserts ticket) → Formed product b
        → (answer_of r ≡ 9 → pr ticket.a ∈ facts product w → ⊥)
        × ((pr ticket.a ∈ facts product w → ⊥) → answer_of r ≡ 9)
    call_exclusive_nine i f = let x = exclusive_nine_is_exact product product_sound w b t k i f in
        ((λ e. x.0 (sym a.number ∙ e)), (λ n. a.number ∙ x.1 n))

    -- For a property of the table: 10 exactly if a value of it has two holders.
    pub call_exclusive_ten : T (defs.inserts ticket) → Formed product b → pr ticket.a ∈ facts product w
        → (answer_of r ≡ 10 → T (two_holders (facts product w) ticket.a))
        × (T (two_holders (facts product w) ticket.a) → answer_of r ≡ 10)
    call_exclusive_ten i f h = let x = exclusive_ten_is_exact product product_sound w b t k i f h in
        ((λ e. x.0 (sym a.number ∙ e)), (λ n. a.number ∙ x.1 n))

    -- Accepted, it adds that fact and no other.
    pub call_exclusive_added_alone : T (defs.inserts ticket) → answer_of r ≡ 0 → (g : Fact) → g ∈ facts product v
        → (g ∈ facts product w) ⊎ (g ≡ excl ticket.a)
    call_exclusive_added_alone i e g h =
        exclusive_added_alone product product_sound w b t k i (sym a.number ∙ e) g (left g h)

    -- Deleting it takes that fact and no other.
    pub call_exclusive_deleted_alone : T (defs.deletes ticket) → Formed product b → (g : Fact)
        → (g ∈ facts product v → (g ∈ facts product w) × (g ≡ excl ticket.a → ⊥))
        × (g ∈ facts product w → (g ≡ excl ticket.a → ⊥) → g ∈ facts product v)
    call_exclusive_deleted_alone d f g = let x = exclusive_deleted_alone product product_sound w b t k d f g in
        ((λ h. x.0 (left g h)), (λ h n. to_left g (x.1 h n)))

  -- A deleted property takes its Excl along.
  pub call_property_takes_exclusive : T (defs.deletes ticket) → ticket.kind ≡ 2 → answer_of r ≡ 0
      → excl ticket.a ∈ facts product v → ⊥
  call_property_takes_exclusive d k e h =
      property_takes_exclusive product product_sound w b t d k (sym a.number ∙ e) (left _ h)

  -- Excl leaves the table only by a deletion of itself, of its property, or of a class that is its property's domain or range.
  pub call_exclusive_taken_by : (z : ℕ) → excl z ∈ facts product w → (excl z ∈ facts product v → ⊥)
      → T (defs.deletes ticket) × TakesExclusive (facts product w) z (defs.named ticket)
  call_exclusive_taken_by z h n = exclusive_taken_by product product_sound w b t z h (λ m. n (to_left _ m))
