-- The counts of an accepted ticket are the numbers of the words that it adds and removes. Assumes nothing.
use Prim.Native.Nat.{ℕ}
use mathlib.Core.Path.{◌≡◌, sym, ap, subst, ◌∙◌}
use mathlib.Core.Logic.{⊎_elim}
use mathlib.Core.List.{List}
use lib.Dec.{T}
use lib.ListN.{length}
use Rattle.rdfs.specs.Numbers.{Numbers, Sound}
use Rattle.rdfs.specs.Words.{filled, facts, words}
use Rattle.rdfs.specs.Tickets.{decoded, inserts, deletes, asked, named}
use Rattle.rdfs.specs.Register.{besides, step, Table}
use Rattle.rdfs.proofs.Consistency.LawfulParts.{All}
use Rattle.rdfs.proofs.Words.Allowed.{Allowed}
use Rattle.rdfs.proofs.Words.Tables.{filled_padded}
use Rattle.rdfs.proofs.Tickets.TicketTests.{known_operation, known_kind, asked_allowed}
use Rattle.rdfs.proofs.Tickets.TicketRefusals.{new, Passed, passed}
use Rattle.rdfs.proofs.Tickets.Steps.{table_allowed, step_number, accepted_leaves}
use Rattle.rdfs.proofs.Insertion.InsertionSmallest.{insertion_allowed}
use Rattle.rdfs.proofs.Insertion.InsertionSteps as inserted
use Rattle.rdfs.proofs.Deletion.DeletionLaws.{deletion_part}
use Rattle.rdfs.proofs.Deletion.DeletionSteps as deleted
use Rattle.preview.specs.Previews.{added_words, removed_words}

module _ (N : Numbers) (s : Sound N) (w bytes : List ℕ) (t : Table N w) (e : (step N w bytes).number ≡ 0) where
  past : Passed N w bytes
  past = passed N w bytes (sym (step_number N w bytes) ∙ e)

  new_allowed : All (Allowed N.top) (new N w bytes)
  new_allowed = ⊎_elim of_insertion of_deletion (known_operation (decoded bytes) past.formed.operation)
    where
      of_insertion : T (inserts (decoded bytes)) → All (Allowed N.top) (new N w bytes)
      of_insertion i = subst (All (Allowed N.top)) (sym (inserted.new_is N s w bytes t i))
          (insertion_allowed N.top (facts N w) (asked (decoded bytes)) (table_allowed N s w t)
          (asked_allowed N.top (decoded bytes) i (known_kind (decoded bytes) past.formed.kind) past.formed.ids))

      of_deletion : T (deletes (decoded bytes)) → All (Allowed N.top) (new N w bytes)
      of_deletion d = subst (All (Allowed N.top)) (sym (deleted.new_is N s w bytes t d past.formed))
          (λ g h. table_allowed N s w t g (deletion_part (facts N w) (named (decoded bytes)) g h))

  -- The words before the zeros of the new table.
  pub filled_new : filled (step N w bytes).table ≡ words N (new N w bytes)
  filled_new = ap filled (accepted_leaves N w bytes e).table ∙ filled_padded N s (length w) (new N w bytes) new_allowed

  pub added_is : (step N w bytes).added ≡ length (added_words N w bytes)
  added_is = (accepted_leaves N w bytes e).added ∙ ap (λ v. besides (filled w) v) (sym filled_new)

  pub removed_is : (step N w bytes).removed ≡ length (removed_words N w bytes)
  removed_is = (accepted_leaves N w bytes e).removed ∙ ap (λ v. besides v (filled w)) (sym filled_new)
