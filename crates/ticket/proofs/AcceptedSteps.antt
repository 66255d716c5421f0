-- The register's step where a ticket is accepted: the counts are the difference of two numbers of facts. Assumes nothing.
use Prim.Native.Nat.{ℕ, ◌+◌, ◌≤◌}
use mathlib.Core.Path.{◌≡◌, refl, sym, ap, subst, ◌∙◌}
use mathlib.Core.Logic.{◌⊎◌, inl, inr, ⊎_elim}
use mathlib.Core.List.{List, map}
use native.Mathlib.Omega.{arith}
use lib.Dec.{T, ltb→lt}
use lib.ListN.{length}
use Rattle.std.specs.Prelude.{Ok, Err}
use Rattle.rdfs.specs.Numbers.{product}
use Rattle.rdfs.specs.Facts.{Fact}
use Rattle.rdfs.specs.Words.{word, filled, facts, words, padded}
use Rattle.rdfs.specs.Insertion.{insertion}
use Rattle.rdfs.specs.Deletion.{deletion}
use Rattle.rdfs.specs.Tickets.{decoded, inserts, deletes, asked, named}
use Rattle.rdfs.specs.Lookups.{lookup_clash}
use Rattle.rdfs.specs.Register.{refused_with, step, Table}
use Rattle.rdfs.specs.Promises.{Formed, Known, unchanged}
use Rattle.rdfs.proofs.Lists.Sorted.{sort_ascending}
use Rattle.rdfs.proofs.Words.LaidOut.{laid_ascending, laid_words, laid_fits}
use Rattle.rdfs.proofs.Lists.Counts.{besides_balance}
use Rattle.rdfs.proofs.Tickets.TicketRefusals.{new, pass}
use Rattle.rdfs.proofs.Tickets.Steps.{table_sane, step_number, accepted_leaves}
use Rattle.rdfs.proofs.Insertion.InsertionSteps.{new_is, insertion_grows}
use Rattle.rdfs.proofs.Deletion.DeletionSteps as steps
use Rattle.rdfs.proofs.Theorems.{product_sound}
use Rattle.table.specs.declared.refusals.Refusal.{Refusal}
use Rattle.table.specs.Refused.{number}
use Rattle.ticket.specs.Answered.{Stepped}
use Rattle.ticket.proofs.RefusedSteps.{clash_free}

module _ (w bytes : List ℕ) where
  -- A refused step.
  pub stepped_refused : (n : ℕ) (refusal : Refusal) → step product w bytes ≡ refused_with (number refusal) w
      → Stepped n (Err refusal) w (step product w bytes)
  stepped_refused n refusal e =
      subst (Stepped n (Err refusal) w) (sym e) (record { number = refl; added = refl; removed = refl; words = refl; fits = tt })

  module _ (t : Table product w) (n : ℕ) (c : n ≡ length (filled w)) where
    pub count_fits : n ≤ product.most
    count_fits = omega (arith, c, ap length (laid_words product w t.laid), laid_fits product w t.laid, t.fits)

    -- A step that changes nothing.
    pub stepped_same : step product w bytes ≡ unchanged w → Stepped n (Ok n) w (step product w bytes)
    stepped_same e = subst (Stepped n (Ok n) w) (sym e) (record {
      number = refl;
      added = omega arith;
      removed = omega arith;
      words = refl;
      fits = count_fits;
    })

    -- Facts before and added are facts after and removed.
    balance : (step product w bytes).number ≡ 0 → n + (step product w bytes).added ≡ length (words product (new product w bytes)) +
        (step product w bytes).removed
    balance e =
        let l = accepted_leaves product w bytes e in
        let b = besides_balance (filled w) (words product (new product w bytes)) (laid_ascending product w t.laid)
        (sort_ascending (map (word product.base) (new product w bytes))) in
        omega (arith, l.added, l.removed, b, c)

    -- An accepted step that leaves the words of K, m of them, and adds nothing or removes nothing.
    stepped_changed : (K : List Fact) (m : ℕ) → new product w bytes ≡ K → m ≡ length (words product K) → m ≤ length w
        → (step product w bytes).number ≡ 0
        → ((step product w bytes).added ≡ 0) ⊎ ((step product w bytes).removed ≡ 0)
        → Stepped n (Ok m) (padded (length w) (words product K)) (step product w bytes)
    stepped_changed K m same d room e z =
        let after : m ≡ length (words product (new product w bytes)) = d ∙ ap (λ L. length (words product L)) (sym same) in
        record {
          number = sym e;
          added = ⊎_elim (λ a. omega (arith, balance e, after, a)) (λ r. omega (arith, balance e, after, r)) z;
          removed = ⊎_elim (λ a. omega (arith, balance e, after, a)) (λ r. omega (arith, balance e, after, r)) z;
          words = ap (λ L. padded (length w) (words product L)) (sym same) ∙ sym (accepted_leaves product w bytes e).table;
          fits = omega (arith, room, t.fits);
        }

    module _ (f : Formed product bytes) (m : ℕ) where
      -- An insertion without a clash whose graph fits.
      pub stepped_inserted : T (inserts (decoded bytes)) → Known (facts product w) (decoded bytes)
          → (T (lookup_clash (facts product w) (decoded bytes)) → ⊥)
          → m ≡ length (words product (insertion product.top (facts product w) (asked (decoded bytes)))) → m ≤ length w
          → Stepped n (Ok m) (padded (length w) (words product (insertion product.top (facts product w)
          (asked (decoded bytes))))) (step product w bytes)
      stepped_inserted i k free d room =
          let same = new_is product product_sound w bytes t i in
          let after : m ≡ length (words product (new product w bytes)) = d ∙ ap (λ L. length (words product L)) (sym same) in
          let e : (step product w bytes).number ≡ 0 = step_number product w bytes ∙ pass product w bytes (record {
            sane = table_sane product w t;
            formed = f;
            known = k;
            possible = clash_free w bytes t f i k free;
            room = λ h. omega (arith, ltb→lt (length w) (length (words product (new product w bytes))) h, after);
          }) in
          stepped_changed _ m same d room e (inr (insertion_grows product product_sound w bytes t i e))

      -- A deletion.
      pub stepped_deleted : T (deletes (decoded bytes))
          → m ≡ length (words product (deletion (facts product w) (named (decoded bytes)))) → m ≤ length w
          → Stepped n (Ok m) (padded (length w) (words product (deletion (facts product w) (named (decoded bytes)))))
          (step product w bytes)
      stepped_deleted g d room = stepped_changed _ m (steps.new_is product product_sound w bytes t g f) d room
          (steps.deletion_accepted product product_sound w bytes t g f)
          (inl (steps.deletion_shrinks product product_sound w bytes t g f))
