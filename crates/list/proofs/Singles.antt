-- Single calls one after another, each by its contract, do as a run of the step that the contract names. Assumes nothing.
use Prim.Native.Nat.{ℕ, zero, suc}
use mathlib.Core.Path.{refl, subst}
use mathlib.Core.List.{List, [], ◌∷◌}
use lib.ListN.{take}
use Rattle.rdfs.specs.Register.{Answer, run_with}
use Rattle.ticket.specs.Answered.{Outcome, Answered}
use Rattle.list.specs.CallContracts.{SingleCall, Single, OneByOne}
use Rattle.list.specs.Demand3.{RanSingly}

module _ (one : List ℕ → List ℕ → Answer) (call : SingleCall) (contract : (table ticket : List ℕ) (outcome : Outcome)
    (after : List ℕ) → call table ticket outcome after → Answered outcome after (one table ticket)) where
  -- The first call did as the step, and the others from the words that it left.
  singly_more : (w t : List ℕ) (l : List (List ℕ)) (s : Single) (ss : List Single) → Answered s.answer s.table (one w t)
      → RanSingly s.table ss (run_with one s.table l) → RanSingly w (s ∷ ss) (run_with one w (t ∷ l))
  unfolding run_with
  singly_more w t l s ss a r =
      let q : RanSingly s.table ss (run_with one (one w t).table l) =
      subst (λ v. RanSingly s.table ss (run_with one v l)) a.words r in
      record {
        words = q.words;
        numbers = cc (a.number, q.numbers);
        counts = cc (a.added, a.removed, q.counts);
      }

  pub singly : (l : List (List ℕ)) (ss : List Single) (w : List ℕ) → OneByOne call w l ss → RanSingly w ss (run_with one w l)
  unfolding run_with
  singly [] [] w h = record { words = refl; numbers = refl; counts = refl }
  singly [] (s ∷ ss) w h = absurd h
  singly (t ∷ l) [] w h = absurd h
  singly (t ∷ l) (s ∷ ss) w h =
      singly_more w t l s ss (contract w t s.answer s.table h.0) (singly l ss s.table h.1)

-- The first calls are the calls on the first tickets.
pub first_calls : (call : SingleCall) (i : ℕ) (l : List (List ℕ)) (ss : List Single) (w : List ℕ) → OneByOne call w l ss
    → OneByOne call w (take i l) (take i ss)
first_calls call zero l ss w h = tt
first_calls call (suc i) [] [] w h = tt
first_calls call (suc i) [] (s ∷ ss) w h = absurd h
first_calls call (suc i) (t ∷ l) [] w h = absurd h
first_calls call (suc i) (t ∷ l) (s ∷ ss) w h = (h.0, first_calls call i l ss s.table h.1)
