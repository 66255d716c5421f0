-- Runs of tickets: the register's, how many are accepted, and the words that some of the tickets left. Assumes nothing.
use Prim.Native.Nat.{ℕ, ◌+◌}
use mathlib.Core.Path.{◌≡◌, refl, sym, ap, subst, ◌∙◌}
use mathlib.Core.Bool.{Bool, true, false, not, cond}
use mathlib.Core.List.{List, [], ◌∷◌, ◌++◌}
use native.Mathlib.Omega.{arith}
use lib.Dec.{eqb}
use lib.ListN.{length}
use Rattle.rdfs.specs.Numbers.{product, record_length}
use Rattle.rdfs.specs.Register.{Answer, step, run_with, run, cut, register, Table}
use Rattle.rdfs.specs.Operators.{step_as, register_as}
use Rattle.rdfs.proofs.Register.RunLaws.{Keeps, runs_more_words, runs_words, runs_table}
use Rattle.rdfs.proofs.Register.AfterEach.{step_keeps}
use Rattle.rdfs.proofs.Operators.OperatorSteps.{as_keeps}
use Rattle.rdfs.proofs.Theorems.{product_sound}
use Rattle.list_form.specs.Listing.{accepted_of, refused_of}

-- The register runs the tickets of bytes by its own step.
pub register_runs : (w bytes : List ℕ) → register product w bytes ≡ run_with (step product) w (cut record_length bytes)
unfolding register run
register_runs w bytes = refl

pub register_keeps : Keeps product (step product)
register_keeps = step_keeps product product_sound

-- So it does with operators' tickets, or with anyone's; with anyone's it is the register. Its step keeps tables.
pub as_runs : (operator : Bool) (w bytes : List ℕ)
    → register_as operator product w bytes ≡ run_with (step_as operator product) w (cut record_length bytes)
unfolding register_as
as_runs operator w bytes = refl

pub as_register : (w bytes : List ℕ) → register_as false product w bytes ≡ register product w bytes
unfolding register_as register run
as_register w bytes = refl

pub steps_keep : (operator : Bool) → Keeps product (step_as operator product)
steps_keep = as_keeps product product_sound

-- Accepted and refused are all.
pub all_counted : (numbers : List ℕ) → accepted_of numbers + refused_of numbers ≡ length numbers
all_counted [] = refl
all_counted (n ∷ l) = omega (arith, one (eqb n 0), all_counted l)
  where
    one : (b : Bool) → cond b 1 0 + cond (not b) 1 0 ≡ 1
    one true = refl
    one false = refl

-- The words w that the tickets `before` left, from the words `start`.
module _ (one : List ℕ → List ℕ → Answer) (start : List ℕ) (before : List (List ℕ)) {w : List ℕ}
    (words : w ≡ (run_with one start before).table) where
  pub left_length : Keeps product one → length w ≡ length start
  left_length keeps = ap length words ∙ runs_words one keeps before start

  pub left_table : Keeps product one → Table product start → Table product w
  left_table keeps h = subst (Table product) (sym words) (runs_table one keeps before start h)

  -- One ticket more.
  pub left_more : (t : List ℕ) {v : List ℕ} → v ≡ (one w t).table → v ≡ (run_with one start (before ++ (t ∷ []))).table
  left_more t e = e ∙ (ap (λ u. (one u t).table) words ∙ sym (runs_more_words one before t start))
