-- A list of insertions that is accepted whole is in order. The idea: an accepted insertion finds what it uses, and what stands
-- after it stood before or is made by it; so what it finds stood at the start or was made before. Assumes nothing.
use Prim.Native.Nat.{ℕ}
use mathlib.Core.Path.{◌≡◌, refl, subst}
use mathlib.Core.Logic.{◌⊎◌, inl, inr, ⊎_elim}
use mathlib.Core.List.{List, [], ◌∷◌, ◌++◌}
use lib.Dec.{T}
use Rattle.rdfs.specs.Numbers.{Numbers, Sound}
use Rattle.rdfs.specs.Lists.{◌∈◌, here, there}
use Rattle.rdfs.specs.Facts.{Fact, cl, pr}
use Rattle.rdfs.specs.Words.{facts}
use Rattle.rdfs.specs.Tickets.{Ticket, decoded, inserts}
use Rattle.rdfs.specs.Register.{step, run, Table}
use Rattle.rdfs.specs.Orders.{
  UsesProperty,
  MakesProperty,
  UsesClass,
  MakesClass,
  Waits,
  InOrder,
  AllInsertions,
  AllAccepted,
}
use Rattle.rdfs.proofs.Lists.ListLaws.{in_append_left, in_append_right}
use Rattle.rdfs.proofs.Insertion.InsertionSteps.{insertion_table}
use Rattle.rdfs.proofs.Insertion.MadeBy.{accepted_provided, class_by_maker, property_by_maker}
use Rattle.rdfs.proofs.Register.AfterEach.{run_table, run_append}

module _ (N : Numbers) (s : Sound N) where
  -- What has a role, in one accepted insertion: all that it uses stands, and what stands after it stood before or is made by it.
  record Traced (role : ℕ → Fact) (Uses Makes : Ticket → ℕ → Type 0) : Type 0 where
    found : (table bytes : List ℕ) → Table N table → T (inserts (decoded bytes)) → (step N table bytes).number ≡ 0
        → (x : ℕ) → Uses (decoded bytes) x → role x ∈ facts N table
    from : (table bytes : List ℕ) → Table N table → T (inserts (decoded bytes)) → (step N table bytes).number ≡ 0
        → (x : ℕ) → role x ∈ facts N (step N table bytes).table → (role x ∈ facts N table) ⊎ Makes (decoded bytes) x

  module _ (role : ℕ → Fact) (Uses Makes : Ticket → ℕ → Type 0) (trace : Traced role Uses Makes) where
    -- What stands after accepted insertions stood at the start, or one of them makes it.
    stood_or_made : (l : List (List ℕ)) (table : List ℕ) → Table N table → AllInsertions l → AllAccepted (run N table l).numbers
        → (x : ℕ) → role x ∈ facts N (run N table l).table
        → (role x ∈ facts N table) ⊎ ((other : List ℕ) × (other ∈ l) × Makes (decoded other) x)
    unfolding run
    stood_or_made [] table t i a x h = inl h
    stood_or_made (b ∷ l) table t i a x h =
        let e : (step N table b).number ≡ 0 = a _ (here refl) in
        let insert : T (inserts (decoded b)) = i b (here refl) in
        ⊎_elim (λ k. ⊎_elim inl (λ m. inr (b, here refl, m)) (trace.from table b t insert e x k))
        (λ r. inr (r.0, there r.1, r.2))
        (stood_or_made l (step N table b).table (insertion_table N s table b t insert e) (λ u k. i u (there k))
        (λ n k. a n (there k)) x h)

    -- What an accepted insertion uses stood at the start, or one before it makes it.
    accepted_waits : (table : List ℕ) → Table N table → (l : List (List ℕ)) → AllInsertions l
        → AllAccepted (run N table l).numbers → Waits role Uses Makes (facts N table) l
    unfolding run
    accepted_waits table t l i a before after b x cut uses new =
        let at : List ℕ = (run N table before).table in
        let insertions : AllInsertions (before ++ (b ∷ after)) = subst AllInsertions cut i in
        let accepted : AllAccepted ((run N table before).numbers ++ (run N at (b ∷ after)).numbers) =
        subst AllAccepted (run_append N before (b ∷ after) table).1 (subst (λ m. AllAccepted (run N table m).numbers) cut a) in
        let stands : role x ∈ facts N at = trace.found at b (run_table N s before table t)
        (insertions b (in_append_right before (here refl)))
        (accepted _ (in_append_right (run N table before).numbers (here refl))) x uses in
        ⊎_elim (λ h. absurd (new h)) (λ r. r) (stood_or_made before table t (λ u h. insertions u (in_append_left (b ∷ after) h))
        (λ n h. accepted n (in_append_left (run N at (b ∷ after)).numbers h)) x stands)

  -- A list of insertions that is accepted whole is in order.
  pub accepted_in_order : (table : List ℕ) → Table N table → (l : List (List ℕ)) → AllInsertions l
      → AllAccepted (run N table l).numbers → InOrder (facts N table) l
  accepted_in_order table t l i a = record {
    properties = accepted_waits pr UsesProperty MakesProperty (record {
      found = λ w b q j e. (accepted_provided N s w b q j e).properties;
      from = property_by_maker N s;
    }) table t l i a;
    classes = accepted_waits cl UsesClass MakesClass (record {
      found = λ w b q j e. (accepted_provided N s w b q j e).classes;
      from = class_by_maker N s;
    }) table t l i a;
  }
