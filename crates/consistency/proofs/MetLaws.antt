-- The rules of a list that are met before the first that is broken: how many there are at most, that they are one number, and
-- what it says of all rules and of the first that is broken. Assumes nothing.
use Prim.Native.Nat.{ℕ, zero, suc, ◌≤◌, ◌<◌}
use mathlib.Core.Path.{◌≡◌, refl, ap}
use mathlib.Core.List.{List}
use native.Mathlib.Omega.{arith}
use lib.ListN.{length}
use Rattle.rdfs.specs.Facts.{Graph}
use Rattle.rdfs.specs.Rules.{Rule, Meets}
use Rattle.consistency.specs.Order.{
  rule_at,
  MetFirst,
  end,
  stop,
  pass,
  MeetsAll,
  none,
  also,
  FirstBroken,
  here,
  later,
}

module _ {G : Graph} where
  pub met_within : {l : List Rule} {n : ℕ} → MetFirst G l n → n ≤ length l
  met_within end = omega arith
  met_within (stop b) = omega arith
  met_within (pass p m) = omega (arith, met_within m)

  pub met_one : {l : List Rule} {n m : ℕ} → MetFirst G l n → MetFirst G l m → n ≡ m
  met_one end end = refl
  met_one (stop b) (stop d) = refl
  met_one (stop b) (pass p m) = absurd (b p)
  met_one (pass p m) (stop b) = absurd (b p)
  met_one (pass p m) (pass q k) = ap suc (met_one m k)

  pub met_all : {l : List Rule} {n : ℕ} → MetFirst G l n → length l ≤ n → MeetsAll G l
  met_all end h = none
  met_all (stop b) h = absurd (omega arith)
  met_all (pass p m) h = also p (met_all m (omega arith))

  pub met_broken : {l : List Rule} {n : ℕ} → MetFirst G l n → n < length l → FirstBroken G (rule_at l n) l
  met_broken end h = absurd (omega arith)
  met_broken (stop b) h = here b
  met_broken (pass p m) h = later p (met_broken m (omega arith))

  -- A rule that is broken leaves no list of met rules with it.
  pub broken_not : {r : Rule} {l : List Rule} → FirstBroken G r l → MeetsAll G l → ⊥
  broken_not (here n) (also p m) = n p
  broken_not (later k f) (also p m) = broken_not f m

  -- The rules before the first that is broken are met, and it is not.
  pub met_before : {l : List Rule} {n : ℕ} → MetFirst G l n → (j : ℕ) → j < n → Meets G (rule_at l j)
  met_before end j h = absurd (omega arith)
  met_before (stop b) j h = absurd (omega arith)
  met_before (pass p m) zero h = p
  met_before (pass p m) (suc j) h = met_before m j (omega arith)

  pub met_stops : {l : List Rule} {n : ℕ} → MetFirst G l n → n < length l → Meets G (rule_at l n) → ⊥
  met_stops end h q = absurd (omega arith)
  met_stops (stop b) h q = b q
  met_stops (pass p m) h q = met_stops m (omega arith) q

  -- The other way round: how many are met if all are, or if one is the first that is broken.
  pub all_counted : {l : List Rule} → MeetsAll G l → MetFirst G l (length l)
  all_counted none = end
  all_counted (also p m) = pass p (all_counted m)

  pub broken_counted : {r : Rule} {l : List Rule} → FirstBroken G r l
      → (n : ℕ) × (rule_at l n ≡ r) × (n < length l) × MetFirst G l n
  broken_counted (here b) = (0, refl, omega arith, stop b)
  broken_counted (later p f) = let c = broken_counted f in (suc c.0, c.1, omega (arith, c.2), pass p c.3)
