-- Demands 1 and 2 about the single call itself: r is what `apply` answers and v the words it leaves, and all that is known of
-- them is its contract, `ApplyPromise`. Assumes nothing.
use Prim.Native.Nat.{ℕ}
use mathlib.Core.Path.{◌≡◌, sym, ap, subst, ◌∙◌}
use mathlib.Core.Logic.{◌⊎◌, inl, inr, ⊎_elim}
use mathlib.Core.List.{List}
use lib.Dec.{T}
use lib.ListN.{length}
use Rattle.rdfs.specs.Numbers.{product}
use Rattle.rdfs.specs.Lists.{◌∈◌, ◌⊆◌}
use Rattle.rdfs.specs.Facts.{cl, graph, ◌⊑◌}
use Rattle.rdfs.specs.Consistency.{Smallest, Largest, keeps}
use Rattle.rdfs.specs.Words.{facts}
use Rattle.rdfs.specs.Tickets as defs
use Rattle.rdfs.specs.Refusals.{First}
use Rattle.rdfs.specs.Register.{step, Table}
use Rattle.rdfs.specs.Orders.{MakesClass}
use Rattle.rdfs.specs.Promises.{After, Formed, Known, Possible, PossibleUpTo, unchanged}
use Rattle.rdfs.proofs.Tickets.FirstTrue.{first_true_lem}
use Rattle.rdfs.proofs.Tickets.TicketRefusals.{passed}
use Rattle.rdfs.proofs.Tickets.Steps.{step_number, refused_keeps}
use Rattle.rdfs.proofs.Tickets.TicketTests.{known_operation}
use Rattle.rdfs.proofs.Register.AfterEach.{after}
use Rattle.rdfs.proofs.Theorems.{
  product_sound,
  insertion_is_smallest,
  sixteen_is_exact,
  repeat_is_never_sixteen,
  made_stands,
  class_by_maker,
  ten_is_exact,
  eleven_only_if_full,
  deletion_is_largest,
  repeat_changes_nothing,
}
use Rattle.table.specs.Refused.{answer_of}
use Rattle.ticket.specs.Answered.{Outcome, added_by, removed_by, ApplyPromise}
use Rattle.ticket.specs.Demand1.{conditions, Demand1}

-- Demand 1: the answer is 0 or the first refusal whose condition holds, and a refusal moves nothing.
pub demand_1 : (w b v : List ℕ) (r : Outcome) → ApplyPromise w b r v → Demand1 w b v r
demand_1 w b v r a = record {
  first = subst (First (conditions w b)) (sym (a.number ∙ step_number product w b)) (first_true_lem (conditions w b));
  moves_nothing = λ n. let k = refused_keeps product w b (λ e. n (a.number ∙ e)) in
      (a.words ∙ k.table, a.added ∙ k.added, a.removed ∙ k.removed);
}

-- On a consistent table.
module _ (w b v : List ℕ) (r : Outcome) (t : Table product w) (a : ApplyPromise w b r v) where
  zero_number : answer_of r ≡ 0 → (step product w b).number ≡ 0
  zero_number e = sym a.number ∙ e

  -- Demand 2: an accepted insertion leaves the smallest consistent graph that holds the table and the asked facts.
  pub call_smallest : T (defs.inserts (defs.decoded b)) → answer_of r ≡ 0
      → Smallest (graph (facts product w)) (graph (defs.asked (defs.decoded b))) (graph (facts product v))
  call_smallest i e = subst (λ x. Smallest (graph (facts product w)) (graph (defs.asked (defs.decoded b)))
      (graph (facts product x))) (sym a.words)
      (insertion_is_smallest product product_sound w b t i (zero_number e))

  -- Past refusal 8, 16 exactly if the ticket inserts CI with an id that is no class of the table.
  pub call_sixteen : Formed product b
      → (answer_of r ≡ 16
      → T (defs.inserts (defs.decoded b)) × ((defs.decoded b).kind ≡ 9) × (cl (defs.decoded b).b ∈ facts product w → ⊥))
      × (T (defs.inserts (defs.decoded b)) → (defs.decoded b).kind ≡ 9 → (cl (defs.decoded b).b ∈ facts product w → ⊥)
      → answer_of r ≡ 16)
  call_sixteen f = let x = sixteen_is_exact product product_sound w b t f in
      ((λ e. x.0 (sym a.number ∙ e)), (λ i k n. a.number ∙ x.1 i k n))

  -- An insertion whose asked facts are there is not refused with 16.
  pub call_repeat_is_never_sixteen : T (defs.inserts (defs.decoded b)) → defs.asked (defs.decoded b) ⊆ facts product w
      → answer_of r ≡ 16 → ⊥
  call_repeat_is_never_sixteen i all e = repeat_is_never_sixteen product product_sound w b t i all (sym a.number ∙ e)

  -- An accepted insertion leaves the classes that were there and those that it makes, and no other.
  pub call_classes : T (defs.inserts (defs.decoded b)) → answer_of r ≡ 0 → (x : ℕ)
      → (cl x ∈ facts product v → (cl x ∈ facts product w) ⊎ MakesClass (defs.decoded b) x)
      × ((cl x ∈ facts product w) ⊎ MakesClass (defs.decoded b) x → cl x ∈ facts product v)
  call_classes i e x = (
    (λ h. class_by_maker product product_sound w b t i (zero_number e) x (subst (λ u. cl x ∈ facts product u) a.words h)),
    ⊎_elim ((call_smallest i e).holds_table (cl x)) (λ m. subst (λ u. cl x ∈ facts product u) (sym a.words)
        (made_stands product product_sound w b t (zero_number e) x m)),
  )

  -- Past refusals 9 and 16, 10 exactly if there is none, whatever its ids; else there is one whose facts a table can have.
  pub call_ten : T (defs.inserts (defs.decoded b)) → Formed product b → Known (facts product w) (defs.decoded b)
      → (answer_of r ≡ 10 → Possible (graph (facts product w)) (graph (defs.asked (defs.decoded b))) → ⊥)
      × ((answer_of r ≡ 10 → ⊥) → PossibleUpTo product.top (graph (facts product w)) (graph (defs.asked (defs.decoded b))))
  call_ten i f u = let x = ten_is_exact product product_sound w b t i f u in
      ((λ e. x.0 (sym a.number ∙ e)), (λ n. x.1 (λ e. n (a.number ∙ e))))

  -- 11 only if no table of as many words holds a consistent graph with the table's facts and the asked ones.
  pub call_eleven : T (defs.inserts (defs.decoded b)) → answer_of r ≡ 11
      → (u : List ℕ) → Table product u → length u ≡ length w → ◌⊑◌ (graph (facts product w)) (graph (facts product u))
      → ◌⊑◌ (graph (defs.asked (defs.decoded b))) (graph (facts product u)) → ⊥
  call_eleven i e = eleven_only_if_full product product_sound w b t i (sym a.number ∙ e)

  -- A deletion past refusal 8 is accepted and leaves the largest consistent part of its family without the fact.
  pub call_largest : T (defs.deletes (defs.decoded b)) → Formed product b
      → (answer_of r ≡ 0) × Largest (graph (facts product w)) (defs.named (defs.decoded b)) (keeps (defs.named (defs.decoded b)))
      (graph (facts product v))
  call_largest d f =
      let x = deletion_is_largest product product_sound w b t d f in (
        a.number ∙ x.0,
        subst (λ y. Largest (graph (facts product w)) (defs.named (defs.decoded b))
            (keeps (defs.named (defs.decoded b))) (graph (facts product y))) (sym a.words) x.1,
      )

  -- A repeat of an accepted ticket is accepted, and adds and removes nothing.
  pub call_repeat : answer_of r ≡ 0 → (u : List ℕ) (q : Outcome) → ApplyPromise v b q u
      → (answer_of q ≡ 0) × (added_by q ≡ 0) × (removed_by q ≡ 0) × (u ≡ v)
  call_repeat e u q c =
      let z : (step product w b).number ≡ 0 = zero_number e in
      let f : Formed product b = (passed product w b (sym (step_number product w b) ∙ z)).formed in
      let x : After product w b = after product product_sound w b t in
      let v-table : Table product v = subst (Table product) (sym a.words) x.rules in
      let same : step product v b ≡ unchanged v = repeat_changes_nothing product product_sound v b v-table f (⊎_elim
      (λ i. inl (i, subst (λ y. defs.asked (defs.decoded b) ⊆ facts product y) (sym a.words) (x.there_are z i)))
      (λ d. inr (d, λ h. x.is_gone z d (subst (λ y. defs.named (defs.decoded b) ∈ facts product y) a.words h)))
      (known_operation (defs.decoded b) f.operation)) in (
        c.number ∙ ap (λ s. s.number) same,
        c.added ∙ ap (λ s. s.added) same,
        c.removed ∙ ap (λ s. s.removed) same,
        c.words
            ∙ ap (λ s. s.table) same,
      )
