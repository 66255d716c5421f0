-- A ticket tried on a copy of a consistent table: what the copy is beside the table. Assumes nothing.
use Prim.Native.Nat.{ℕ}
use mathlib.Core.Path.{◌≡◌, sym, ap, subst, ◌∙◌}
use mathlib.Core.Bool.{Bool, true, false, ◌&&◌}
use mathlib.Core.List.{List}
use lib.Dec.{T, eqb}
use lib.ListN.{length}
use Rattle.rdfs.specs.Numbers.{product}
use Rattle.rdfs.specs.Lists.{same_list}
use Rattle.rdfs.specs.Words.{laid_out}
use Rattle.rdfs.specs.Register.{step, Table}
use Rattle.rdfs.proofs.Register.AfterEach.{after}
use Rattle.rdfs.proofs.Theorems.{product_sound}
use Rattle.table.specs.Refused.{answer_of}
use Rattle.ticket.specs.Answered.{Outcome, added_by, removed_by, Answered, AnsweredAs}
use Rattle.differences.specs.Besides.{missing, Missing}
use Rattle.preview.specs.Tried.{Tried}
use Rattle.preview.proofs.StepWords.{added_is, removed_is}
use Rattle.differences.proofs.Matching.{same_false}

-- The copy w', the answer a and the words v that the ticket left.
module _ (bytes : List ℕ) {w w' v : List ℕ} (a : Outcome) (t : Table product w) (copied : w' ≡ w)
    (did : AnsweredAs false a v (step product w' bytes)) where
  trial : AnsweredAs false a v (step product w bytes)
  trial = subst (λ x. AnsweredAs false a v (step product x bytes)) copied did

  pub trial_numbers : Answered a (step product w bytes).table (step product w bytes)
  trial_numbers = trial.numbers

  module _ (z : answer_of a ≡ 0) where
    pub trial_accepted : (step product w bytes).number ≡ 0
    trial_accepted = sym trial.numbers.number ∙ z

    pub trial_words : v ≡ (step product w bytes).table
    trial_words = trial.words (subst (λ n. T (eqb n 0)) (sym trial_accepted) tt)

    pub tried : Tried w v (added_by a) (removed_by a)
    tried =
        let laid : T (laid_out product 1 v) =
        subst (λ x. T (laid_out product 1 x)) (sym trial_words) (after product product_sound w bytes t).rules.laid in
        record {
          came = record {
            laid = laid;
            other_laid = t.laid;
            many = trial.numbers.added ∙ (added_is product product_sound w bytes t trial_accepted
                ∙ ap (λ x. length (missing x w)) (sym trial_words));
          };
          went = record {
            laid = t.laid;
            other_laid = laid;
            many = trial.numbers.removed ∙ (removed_is product product_sound w bytes t trial_accepted
                ∙ ap (λ x. length (missing w x)) (sym trial_words));
          };
        }

-- A run of another length is not the words.
pub other_length : {table other : List ℕ} {n : ℕ} (run : List ℕ) → Missing table other n → (length run ≡ n → ⊥)
    → false ≡ same_list run (missing table other)
other_length {table} {other} run m d = same_false run (missing table other) (λ e. d (ap length e ∙ sym m.many))

-- Both comparisons, the second made only after the first.
pub first_differs : (a b : Bool) → false ≡ a → false ≡ (a && b)
first_differs a b e = ap (λ x. x && b) e

pub second_differs : (a b : Bool) → false ≡ b → false ≡ (a && b)
second_differs true b e = e
second_differs false b e = λ i. false
