-- The ways through the host's calls of Ask 6 up to writing, for which those of a call with one ticket serve. Assumes nothing.
use Prim.Native.Nat.{ℕ}
use mathlib.Core.Path.{◌≡◌, sym, subst, ◌∙◌}
use mathlib.Core.Bool.{Bool, true, false, cond, ◌&&◌}
use mathlib.Core.List.{List}
use lib.Dec.{eqb}
use Rattle.rdfs.specs.Numbers.{product}
use Rattle.rdfs.specs.Register.{refused_with, step, Table}
use Rattle.rdfs.proofs.Register.AfterEach.{after}
use Rattle.rdfs.proofs.Theorems.{product_sound}
use Rattle.reading.specs.ReadPromise.{read_answer, read_words}
use Rattle.table.specs.Refused.{answer_of}
use Rattle.ticket.specs.Answered.{Outcome, added_by, removed_by, Answered}
use Rattle.exchange.specs.ToText.{room}
use Rattle.exchange.proofs.Between.{passed_leaves}
use Rattle.packing.specs.Packed.{packed}
use Rattle.packing.proofs.Refused.{passed_is}
use Rattle.preview.specs.Previews.{Asked, out_of_date, committing}
use Rattle.preview.specs.PreviewPromises.{AskPromise, CommitPromise}
use Rattle.host_preview.specs.HostPreview.{asked_on, committed_on, HostAskPromise}

-- Asking.
module _ (image ticket added removed : List ℕ) where
  abbrev asked : Asked
  asked = asked_on image ticket added removed

  pub ask_done : {w added' removed' : List ℕ} → read_answer room image ≡ 0 → w ≡ read_words room image → (outcome : Outcome)
      → AskPromise w ticket added removed outcome added' removed'
      → HostAskPromise image ticket added removed (packed (answer_of outcome) (added_by outcome) (removed_by outcome) 0) added' removed'
  unfolding asked_on
  ask_done {added' = added'} {removed'} read from outcome did =
      let same : AskPromise (read_words room image) ticket added removed outcome added' removed' =
      subst (λ x. AskPromise x ticket added removed outcome added' removed') from did in
      record {
        answer = (λ i. packed (same.number i) (same.added_count i) (same.removed_count i) 0)
            ∙ sym (passed_is (read_answer room image) _ read);
        added_run = same.added_run ∙ sym (passed_leaves (read_answer room image) asked.added_run added read);
        removed_run = same.removed_run ∙ sym (passed_leaves (read_answer room image) asked.removed_run removed read);
      }

-- Committing on the words that were read.
pub committed_from : {w v : List ℕ} (image ticket added removed : List ℕ) → w ≡ read_words room image → (outcome : Outcome)
    → CommitPromise w ticket added removed outcome v → Answered outcome v (committed_on image ticket added removed)
unfolding committed_on
committed_from {v = v} image ticket added removed from outcome did =
    subst (λ x. CommitPromise x ticket added removed outcome v) from did

-- It leaves a consistent table.
pub committed_table : {w v : List ℕ} (ticket added removed : List ℕ) → Table product w → (outcome : Outcome)
    → CommitPromise w ticket added removed outcome v → Table product v
unfolding committing
committed_table {w} ticket added removed t outcome did = subst (Table product) (sym did.words)
    (by (eqb (step product w ticket).number 0 && out_of_date product w ticket added removed))
  where
    by : (b : Bool) → Table product (cond b (refused_with 18 w) (step product w ticket)).table
    by true = t
    by false = (after product product_sound w ticket t).rules
