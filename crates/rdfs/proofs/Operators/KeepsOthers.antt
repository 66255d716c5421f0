-- A ticket of an operator, and so a list of them, leaves the facts of the other kinds as they were. Assumes nothing.
use Prim.Native.Nat.{ℕ}
use mathlib.Core.Path.{◌≡◌, refl, sym, ap, subst, ◌∙◌}
use mathlib.Core.Bool.{Bool, true, false, not, cond}
use mathlib.Core.Logic.{⊎_elim}
use mathlib.Core.List.{List, [], ◌∷◌, map}
use native.Mathlib.Decide.{ℕ_discrete}
use lib.Dec.{T, eqb}
use Rattle.rdfs.specs.Numbers.{Numbers, Sound, operator_kinds}
use Rattle.rdfs.specs.Lists.{◌∈◌, ◌⊆◌, filter, member, Ascending}
use Rattle.rdfs.specs.Facts.{Fact, kind}
use Rattle.rdfs.specs.Words.{fact, filled, facts}
use Rattle.rdfs.specs.Tickets.{decoded}
use Rattle.rdfs.specs.Refusals.{first_true, none, later}
use Rattle.rdfs.specs.Register.{step, run_with, Table}
use Rattle.rdfs.specs.Operators.{not_for_operators, earlier_tests, barred, operator_step, others}
use Rattle.rdfs.proofs.Lists.Tests.{both_and, tests_self, tests_decides}
use Rattle.rdfs.proofs.Lists.ListLaws.{in_filter, filter_in, map_in}
use Rattle.rdfs.proofs.Lists.Filters.{filter_ascending}
use Rattle.rdfs.proofs.Lists.Sorted.{ascending_equal}
use Rattle.rdfs.proofs.Words.FactLaws.{member_in_lem}
use Rattle.rdfs.proofs.Words.LaidOut.{fact_says, laid_is_fact, laid_ascending, laid_word_in}
use Rattle.rdfs.proofs.Tickets.TicketTests.{stands, known_operation}
use Rattle.rdfs.proofs.Tickets.FirstTrue.{first_is}
use Rattle.rdfs.proofs.Tickets.TicketRefusals.{passed}
use Rattle.rdfs.proofs.Tickets.Steps.{step_number}
use Rattle.rdfs.proofs.Register.AfterEach.{after}
use Rattle.rdfs.proofs.Operators.OperatorSteps.{operator_barred, operator_plain, operator_keeps}
use Rattle.rdfs.proofs.Operators.Enters.{enters}
use Rattle.rdfs.proofs.Operators.Takes.{takes}

-- Of a kind that is not for operators.
abbrev not_theirs : Fact → Bool
not_theirs f = not (member operator_kinds (kind f))

-- A filter of what a function gives, and the function on a filter.
filter_map : {A B : Type 0} (f : A → B) (p : B → Bool) (l : List A) → filter p (map f l) ≡ map f (filter (λ x. p (f x)) l)
filter_map f p [] = refl
filter_map {A} {B} f p (x ∷ l) = pick (p (f x)) (filter_map f p l)
  where
    pick : (b : Bool) → filter p (map f l) ≡ map f (filter (λ x. p (f x)) l)
        → cond b (f x ∷ filter p (map f l)) (filter p (map f l))
        ≡ map f (cond b (x ∷ filter (λ x. p (f x)) l) (filter (λ x. p (f x)) l))
    pick true e = ap (λ r. f x ∷ r) e
    pick false e = e

-- Two tables with the same facts that pass a test have them in the same order.
module _ (N : Numbers) (p : Fact → Bool) where
  abbrev passes : ℕ → Bool
  passes x = p (fact N.base x)

  -- Each of one table is one of the other.
  abbrev Within : List ℕ → List ℕ → Type 0
  Within w v = (f : Fact) → T (p f) → f ∈ facts N w → f ∈ facts N v

  words_there : (w v : List ℕ) → Table N w → Table N v → Within w v → filter passes (filled w) ⊆ filter passes (filled v)
  words_there w v t u to x h =
      let q = in_filter passes (filled w) h in
      let f : Fact = fact N.base x in
      filter_in passes (filled v) (subst (λ y. y ∈ filled v) (fact_says N x (laid_is_fact N w t.laid x q.0))
      (laid_word_in N v u.laid f (to f q.1 (map_in (fact N.base) q.0)))) q.1

  same_in_order : (w v : List ℕ) → Table N w → Table N v → Within w v → Within v w
      → filter p (facts N w) ≡ filter p (facts N v)
  same_in_order w v t u to from =
      let ascends : (l : List ℕ) → Table N l → Ascending (filter passes (filled l)) =
      λ l r. filter_ascending passes (filled l) (laid_ascending N l r.laid) in
      filter_map (fact N.base) p (filled w)
      ∙ (ap (map (fact N.base)) (ascending_equal (filter passes (filled w)) (filter passes (filled v)) (ascends w t)
      (ascends v u) (words_there w v t u to) (words_there v w u t from))
      ∙ sym (filter_map (fact N.base) p (filled v)))

module _ (N : Numbers) (s : Sound N) (w bytes : List ℕ) (t : Table N w) where
  -- Accepted and not refused with 17, the ticket is of an operator's kind.
  theirs : (step N w bytes).number ≡ 0 → (T (barred N w bytes) → ⊥) → (decoded bytes).kind ∈ operator_kinds
  theirs e n =
      let p = passed N w bytes (sym (step_number N w bytes) ∙ e) in
      let f = p.formed in
      let none_before : first_true (earlier_tests N w bytes) ≡ 0 =
      first_is (earlier_tests N w bytes) (later p.sane.size (later p.sane.layout (later p.sane.rules
      (later f.long (later f.operation (later f.kind (later f.ids none))))))) in
      member_in_lem operator_kinds (decoded bytes).kind (stands (member operator_kinds (decoded bytes).kind) (λ o.
      n (both_and (eqb (first_true (earlier_tests N w bytes)) 0) (not_for_operators (decoded bytes))
      (subst (λ m. T (eqb m 0)) (sym none_before) tt) o)))

  -- Whatever the ticket and its answer, a fact of another kind is there afterwards exactly if it was before.
  record Same (v : List ℕ) : Type 0 where
    kept : Within N not_theirs w v
    none_new : Within N not_theirs v w

  unmoved : {v : List ℕ} → v ≡ w → Same v
  unmoved e = record { kept = λ f o h. subst (λ u. f ∈ facts N u) (sym e) h; none_new = λ f o h. subst (λ u. f ∈ facts N u) e h }

  accepted_same : (step N w bytes).number ≡ 0 → (decoded bytes).kind ∈ operator_kinds → Same (step N w bytes).table
  accepted_same e k =
      let f = (passed N w bytes (sym (step_number N w bytes) ∙ e)).formed in
      let a = after N s w bytes t in
      ⊎_elim
      (λ i. record { kept = λ g o. (a.grows i).1 g; none_new = λ g o h. enters N s w bytes t i k e g o h })
      (λ d. record { kept = λ g o h. takes N s w bytes t d f k g o h; none_new = λ g o. (a.shrinks d).1 g })
      (known_operation (decoded bytes) f.operation)

  step_same : (T (barred N w bytes) → ⊥) → Same (step N w bytes).table
  step_same n = elim (ℕ_discrete (step N w bytes).number 0) [
    | yes e ↦ accepted_same e (theirs e n)
    | no r ↦ unmoved ((after N s w bytes t).refused r).0
  ]

  operator_same : Same (operator_step N w bytes).table
  operator_same = elim (tests_decides (tests_self (barred N w bytes))) [
    | yes b ↦ unmoved (ap (λ a. a.table) (operator_barred N w bytes b))
    | no n ↦ subst (λ a. Same a.table) (sym (operator_plain N w bytes n)) (step_same n)
  ]

  -- So they are the same facts, in the same order.
  pub operator_keeps_others : others (facts N (operator_step N w bytes).table) ≡ others (facts N w)
  operator_keeps_others = same_in_order N not_theirs (operator_step N w bytes).table w ((operator_keeps N s).rules w bytes t) t
      operator_same.none_new operator_same.kept

-- After every list of operators' tickets, whatever their bytes, accepted or not.
pub operators_keep_others : (N : Numbers) → Sound N → (l : List (List ℕ)) (w : List ℕ) → Table N w
    → others (facts N (run_with (operator_step N) w l).table) ≡ others (facts N w)
unfolding run_with
operators_keep_others N s [] w t = refl
operators_keep_others N s (b ∷ l) w t =
    operators_keep_others N s l (operator_step N w b).table ((operator_keeps N s).rules w b t) ∙ operator_keeps_others N s w b t
