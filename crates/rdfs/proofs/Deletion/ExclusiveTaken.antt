-- Which deletions take Excl(z) along. Assumes nothing.
use Prim.Native.Nat.{ℕ}
use mathlib.Core.Path.{◌≡◌, refl, sym, ap, subst}
use mathlib.Core.Bool.{false, not, ◌||◌}
use mathlib.Core.Logic.{inl, inr, ⊎_elim}
use mathlib.Core.List.{List}
use lib.Dec.{T, eqb, eqb→eq}
use Rattle.rdfs.specs.Lists.{◌∈◌}
use Rattle.rdfs.specs.Facts.{Fact, cl, pr, ind, lit, csub, psub, dom, rng, ci, pi, excl, graph}
use Rattle.rdfs.specs.Consistency.{Lawful}
use Rattle.rdfs.specs.Deletion.{goes, deletion}
use Rattle.rdfs.specs.Promises.{TakesExclusive}
use Rattle.rdfs.proofs.Lists.Tests.{or_either}
use Rattle.rdfs.proofs.Lists.ListLaws.{filter_in}
use Rattle.rdfs.proofs.Tickets.TicketTests.{stands}
use Rattle.rdfs.proofs.Deletion.DeletedIds.{tests_falls_with_class}
use Rattle.rdfs.proofs.Deletion.DeletionLargest.{deletion_case}

-- Excl(z) goes with itself, with its property and with the class that is its property's domain or range, and with nothing else.
module _ (K : List Fact) (c : Lawful (graph K)) (z : ℕ) (h : excl z ∈ K) where
  known : pr z ∈ K
  known = c.rule_e1 z h

  falls : (x : ℕ) → T (eqb x z || false) → x ≡ z
  falls x t = ⊎_elim (eqb→eq x z) (λ f. absurd f) (or_either (eqb x z) false t)

  taken_by : (d : Fact) → d ∈ K → T (goes K d (excl z)) → TakesExclusive K z d
  unfolding goes
  taken_by (cl a) m t = ⊎_elim (λ e. absurd (c.rule_4 a m (subst (λ x. pr x ∈ K) e known)))
      (λ o. inr (inr (a, refl, o))) ((tests_falls_with_class K a (excl z)).sound t)
  taken_by (pr a) m t = inr (inl (ap pr (falls a t)))
  taken_by (ind a) m t = absurd (c.rule_6 z known (subst (λ x. ind x ∈ K) (falls a t) m))
  taken_by (lit a) m t = absurd ((c.rule_h2 z (subst (λ x. lit x ∈ K) (falls a t) m)).1 known)
  taken_by (csub a b) m t = absurd t
  taken_by (psub a b) m t = absurd t
  taken_by (dom a b) m t = absurd t
  taken_by (rng a b) m t = absurd t
  taken_by (ci a b) m t = absurd t
  taken_by (pi a b v) m t = absurd t
  taken_by (excl a) m t = inl (ap excl (sym (eqb→eq z a t)))

  pub exclusive_taken : (d : Fact) → (excl z ∈ deletion K d → ⊥) → TakesExclusive K z d
  exclusive_taken d = deletion_case K d (λ L. (excl z ∈ L → ⊥) → TakesExclusive K z d)
      (λ m n. taken_by d m (stands (goes K d (excl z)) (λ t. n (filter_in (λ f. not (goes K d f)) K h t))))
      (λ _ n. absurd (n h))
