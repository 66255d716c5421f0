-- An operator's ticket beside the register's step: refused with 17, or the same. Assumes nothing.
use Prim.Native.Nat.{ℕ}
use mathlib.Core.Path.{◌≡◌, refl, sym, ap, subst, ◌∙◌}
use mathlib.Core.Bool.{Bool, true, false, not, ◌&&◌, cond}
use mathlib.Core.List.{List, [], ◌∷◌, ◌++◌}
use native.Mathlib.Omega.{arith}
use native.Mathlib.Decide.{ℕ_discrete}
use lib.Dec.{T, eqb, eqb→eq, T_not}
use lib.ListN.{length}
use Rattle.rdfs.specs.Numbers.{Numbers, Sound, operator_kinds}
use Rattle.rdfs.specs.Lists.{◌∈◌, all, member}
use Rattle.rdfs.specs.Facts.{Fact}
use Rattle.rdfs.specs.Words.{facts}
use Rattle.rdfs.specs.Tickets.{Ticket, decoded}
use Rattle.rdfs.specs.Refusals.{or_else, first_or, first_true, First, outcome, state_tests}
use Rattle.rdfs.specs.Register.{Answer, refused_with, step, Table}
use Rattle.rdfs.specs.Operators.{not_for_operators, earlier_tests, barred, operator_step, step_as, operator_tests}
use Rattle.rdfs.proofs.Lists.Tests.{and_both, both_and, tests_self, tests_decides}
use Rattle.rdfs.proofs.Lists.Filters.{cond_yes, cond_no}
use Rattle.rdfs.proofs.Words.FactLaws.{in_member}
use Rattle.rdfs.proofs.Tickets.FirstTrue.{first_true_lem, first_holds, rest_answers, first_stops}
use Rattle.rdfs.proofs.Tickets.TicketRefusals.{tests}
use Rattle.rdfs.proofs.Tickets.Steps.{step_number, refused_keeps}
use Rattle.rdfs.proofs.Register.RunLaws.{Keeps}
use Rattle.rdfs.proofs.Register.AfterEach.{step_keeps}

-- One refusal more, put among others: it is the first exactly if it holds and none before it does.
module _ (n : ℕ) (test : Bool) (m : List (ℕ × Bool)) where
  put_link : (t : Bool) (k first rest : ℕ) → T (not (eqb k 0)) → (then : ℕ)
      → then ≡ cond (eqb first 0 && test) n rest
      → or_else t k then ≡ cond (eqb (or_else t k first) 0 && test) n (or_else t k rest)
  put_link true k first rest z then e = sym (cond_no (eqb k 0 && test) n k
      (λ h. T_not (eqb k 0) z (and_both (eqb k 0) test h).0))
  put_link false k first rest z then e = e

  put_test : (t : Bool) → or_else t n (first_true m) ≡ cond t n (first_true m)
  put_test true = refl
  put_test false = refl

  pub first_put : (l : List (ℕ × Bool)) → T (all (λ r. not (eqb r.0 0)) l)
      → first_true (l ++ ((n, test) ∷ m)) ≡ cond (eqb (first_true l) 0 && test) n (first_true (l ++ m))
  first_put [] z = put_test test
  first_put (r ∷ l) z =
      let some = and_both (not (eqb r.0 0)) (all (λ r. not (eqb r.0 0)) l) z in
      put_link r.1 r.0 (first_true l) (first_true (l ++ m)) some.0 (first_true (l ++ ((n, test) ∷ m)))
      (first_put l some.1)

module _ (N : Numbers) (w bytes : List ℕ) where
  -- Refused with 17, or the register's step.
  pub operator_barred : T (barred N w bytes) → operator_step N w bytes ≡ refused_with 17 w
  unfolding operator_step
  operator_barred = cond_yes (barred N w bytes) (refused_with 17 w) (step N w bytes)

  pub operator_plain : (T (barred N w bytes) → ⊥) → operator_step N w bytes ≡ step N w bytes
  unfolding operator_step
  operator_plain = cond_no (barred N w bytes) (refused_with 17 w) (step N w bytes)

  -- An operator's kind is never refused with 17.
  pub theirs_plain : (decoded bytes).kind ∈ operator_kinds → operator_step N w bytes ≡ step N w bytes
  theirs_plain h = operator_plain (λ b. T_not (member operator_kinds (decoded bytes).kind)
      (and_both (eqb (first_true (earlier_tests N w bytes)) 0)
      (not_for_operators (decoded bytes)) b).1 (in_member operator_kinds (decoded bytes).kind h))

  abbrev t : Ticket
  t = decoded bytes

  abbrev early : List (ℕ × Bool)
  early = earlier_tests N w bytes

  abbrev state : List (ℕ × Bool)
  state = state_tests N w (facts N w) (outcome N.top (facts N w) t) t

  by_barred : (b : Bool) → (cond b (refused_with 17 w) (step N w bytes)).number ≡ cond b 17 (first_true (earlier_tests N w bytes
      ++ state))
  by_barred true = refl
  by_barred false = step_number N w bytes

  number : (operator_step N w bytes).number ≡ cond (barred N w bytes) 17 (first_true (earlier_tests N w bytes ++ state))
  unfolding operator_step
  number = by_barred (barred N w bytes)

  -- The refusals in their order, 17 among them.
  pub operator_first : First (operator_tests N w bytes) (operator_step N w bytes).number
  operator_first = subst (First (operator_tests N w bytes)) (first_put 17 (not_for_operators t) state (earlier_tests N w bytes) tt
      ∙ sym number) (first_true_lem (operator_tests N w bytes))

  -- Another kind than theirs: the first of 1 to 7, or 17.
  pub not_theirs_refused : T (not_for_operators (decoded bytes)) → (operator_step N w bytes).number ≡ first_or (earlier_tests N w bytes)
      17
  not_theirs_refused o = elim (ℕ_discrete (first_true early) 0) [
    | yes e ↦ ap (λ a. a.number) (operator_barred (both_and (eqb (first_true early) 0) (not_for_operators t)
        (subst (λ n. T (eqb n 0)) (sym e) tt) o))
        ∙ sym (rest_answers early tt 17 e)
    | no n ↦ ap (λ a. a.number) (operator_plain (λ b. n (eqb→eq (first_true early) 0 (and_both (eqb (first_true early) 0)
        (not_for_operators t) b).0)))
        ∙ (step_number N w bytes ∙ (first_stops early (first_true state) n ∙ sym (first_stops early 17 n)))
  ]

  -- 17 comes only by this.
  pub seventeen_barred : (operator_step N w bytes).number ≡ 17 → T (barred N w bytes)
  seventeen_barred e = elim (tests_decides (tests_self (barred N w bytes))) [
    | yes b ↦ b
    | no n ↦ absurd (first_holds (tests N w bytes) tt 17 (omega arith) (sym (step_number N w bytes)
        ∙ (sym (ap (λ a. a.number) (operator_plain n)) ∙ e)))
  ]

  -- A refusal changes no word, and both counts are 0.
  pub operator_refused : ((operator_step N w bytes).number ≡ 0 → ⊥) → ((operator_step N w bytes).table ≡ w)
      × ((operator_step N w bytes).added ≡ 0) × ((operator_step N w bytes).removed ≡ 0)
  unfolding operator_step
  operator_refused = by_case (barred N w bytes)
    where
      by_case : (b : Bool) → let a : Answer = cond b (refused_with 17 w) (step N w bytes) in
          (a.number ≡ 0 → ⊥) → (a.table ≡ w) × (a.added ≡ 0) × (a.removed ≡ 0)
      by_case true n = (refl, refl, refl)
      by_case false n = let k = refused_keeps N w bytes n in (k.table, k.added, k.removed)

  pub as_refused : (operator : Bool) → ((step_as operator N w bytes).number ≡ 0 → ⊥) → (step_as operator N w bytes).table ≡ w
  as_refused true n = (operator_refused n).0
  as_refused false n = (refused_keeps N w bytes n).table

-- Both steps keep tables and their lengths.
module _ (N : Numbers) (s : Sound N) where
  pub operator_keeps : Keeps N (operator_step N)
  unfolding operator_step
  operator_keeps = record {
    long = λ w b. long w b (barred N w b);
    rules = λ w b t. rules w b t (barred N w b);
  }
    where
      long : (w b : List ℕ) (out : Bool) → length (cond out (refused_with 17 w) (step N w b)).table ≡ length w
      long w b true = refl
      long w b false = (step_keeps N s).long w b

      rules : (w b : List ℕ) → Table N w → (out : Bool) → Table N (cond out (refused_with 17 w) (step N w b)).table
      rules w b t true = t
      rules w b t false = (step_keeps N s).rules w b t

  pub as_keeps : (operator : Bool) → Keeps N (step_as operator N)
  as_keeps true = operator_keeps
  as_keeps false = step_keeps N s
