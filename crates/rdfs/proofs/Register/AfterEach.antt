-- After each ticket of a list, whatever its bytes: every rule holds, a refusal changed nothing, the asked facts are there or the
-- fact is gone, an insertion removed nothing and a deletion added nothing. Assumes nothing.
use Prim.Native.Nat.{ℕ}
use mathlib.Core.Path.{◌≡◌, sym, ap, subst, ◌∙◌}
use mathlib.Core.Logic.{⊎_elim}
use mathlib.Core.List.{List, ◌++◌}
use native.Mathlib.Decide.{ℕ_discrete}
use Rattle.rdfs.specs.Numbers.{Numbers, Sound}
use Rattle.rdfs.specs.Lists.{◌∈◌}
use Rattle.rdfs.specs.Words.{facts}
use Rattle.rdfs.specs.Tickets.{decoded}
use Rattle.rdfs.specs.Register.{step, run, Table}
use Rattle.rdfs.specs.Promises.{After, Formed}
use Rattle.rdfs.proofs.Tickets.TicketTests.{known_operation}
use Rattle.rdfs.proofs.Tickets.TicketRefusals.{passed}
use Rattle.rdfs.proofs.Tickets.Steps.{step_number, refused_keeps, step_length}
use Rattle.rdfs.proofs.Insertion.InsertionSteps.{accepted_smallest, insertion_table, insertion_grows}
use Rattle.rdfs.proofs.Deletion.DeletionSteps.{accepted_largest, deletion_table, deletion_shrinks}
use Rattle.rdfs.proofs.Register.RunLaws.{Keeps, runs_append, runs_table}

module _ (N : Numbers) (s : Sound N) where
  module _ (w bytes : List ℕ) (t : Table N w) where
    formed : (step N w bytes).number ≡ 0 → Formed N bytes
    formed e = (passed N w bytes (sym (step_number N w bytes) ∙ e)).formed

    kept : ((step N w bytes).number ≡ 0 → ⊥) → ((step N w bytes).table ≡ w) × ((step N w bytes).added ≡ 0)
        × ((step N w bytes).removed ≡ 0)
    kept n = let k = refused_keeps N w bytes n in (k.table, k.added, k.removed)

    same : (n : (step N w bytes).number ≡ 0 → ⊥) → facts N (step N w bytes).table ≡ facts N w
    same n = ap (facts N) (kept n).0

    ruled : Dec ((step N w bytes).number ≡ 0) → Table N (step N w bytes).table
    ruled (no n) = subst (Table N) (sym (kept n).0) t
    ruled (yes e) = ⊎_elim (λ i. insertion_table N s w bytes t i e) (λ d. deletion_table N s w bytes t d (formed e))
        (known_operation (decoded bytes) (formed e).operation)

    pub after : After N w bytes
    after = record {
      rules = ruled (ℕ_discrete (step N w bytes).number 0);
      refused = kept;
      there_are = λ e i. (accepted_smallest N s w bytes t i e).holds_asked;
      is_gone = λ e d. (accepted_largest N s w bytes t d (formed e)).without;
      grows = λ i. elim (ℕ_discrete (step N w bytes).number 0) [
        | yes e ↦ (insertion_grows N s w bytes t i e, (accepted_smallest N s w bytes t i e).holds_table)
        | no n ↦ ((kept n).2, λ f h. subst (λ L. f ∈ L) (sym (same n)) h)
      ];
      shrinks = λ d. elim (ℕ_discrete (step N w bytes).number 0) [
        | yes e ↦ (deletion_shrinks N s w bytes t d (formed e), (accepted_largest N s w bytes t d (formed e)).part)
        | no n ↦ ((kept n).1, λ f h. subst (λ L. f ∈ L) (same n) h)
      ];
    }

  -- The register's step keeps tables and their lengths, and so does a run.
  pub step_keeps : Keeps N (step N)
  step_keeps = record { long = step_length N; rules = λ w b t. (after w b t).rules }

  pub run_table : (l : List (List ℕ)) (w : List ℕ) → Table N w → Table N (run N w l).table
  unfolding run
  run_table = runs_table (step N) step_keeps

  -- After each ticket of a list, the list cut off there.
  pub after_each : (w : List ℕ) → Table N w → (before : List (List ℕ)) (ticket : List ℕ)
      → After N (run N w before).table ticket
  after_each w t before b = after (run N w before).table b (run_table before w t)

-- A run cut in two.
pub run_append : (N : Numbers) (l m : List (List ℕ)) (w : List ℕ) → ((run N w (l ++ m)).table ≡ (run N (run N w l).table m).table)
    × ((run N w (l ++ m)).numbers ≡ (run N w l).numbers ++ (run N (run N w l).table m).numbers)
    × ((run N w (l ++ m)).counts ≡ (run N w l).counts ++ (run N (run N w l).table m).counts)
unfolding run
run_append N = runs_append (step N)
