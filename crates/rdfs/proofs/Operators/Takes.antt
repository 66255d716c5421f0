-- An operator's deletion takes no fact of another kind: its ids are classes, properties or the mark, which no individual and no
-- literal is; with a membership or a value go memberships and values alone. Assumes nothing.
use Prim.Native.Nat.{ℕ}
use mathlib.Core.Path.{◌≡◌, refl, sym, subst}
use mathlib.Core.Bool.{Bool, not, ◌&&◌, ◌||◌}
use mathlib.Core.Logic.{◌⊎◌, inl, inr, ⊎_elim}
use mathlib.Core.List.{List, [], ◌∷◌}
use native.Mathlib.Decide.{ℕ_discrete}
use lib.Dec.{T, eqb, eqb→eq, T_not, not_T}
use Rattle.rdfs.specs.Numbers.{Numbers, Sound, operator_kinds}
use Rattle.rdfs.specs.Lists.{◌∈◌, any, member}
use Rattle.rdfs.specs.Facts.{Fact, cl, pr, ind, lit, csub, psub, dom, rng, ci, pi, excl}
use Rattle.rdfs.specs.Facts.{kind, ids, first, second, third, graph}
use Rattle.rdfs.specs.Consistency.{Consistent}
use Rattle.rdfs.specs.Words.{facts}
use Rattle.rdfs.specs.Deletion.{under, leads, of, goes, deletion}
use Rattle.rdfs.specs.Tickets.{Ticket, decoded, deletes, named, ticket_of}
use Rattle.rdfs.specs.Register.{step, Table}
use Rattle.rdfs.specs.Promises.{Formed}
use Rattle.rdfs.proofs.Lists.Tests.{and_both, or_either}
use Rattle.rdfs.proofs.Lists.ListLaws.{in_cons, in_one, any_in, filter_in}
use Rattle.rdfs.proofs.Consistency.LawfulParts.{All}
use Rattle.rdfs.proofs.Words.Allowed.{Allowed, fields}
use Rattle.rdfs.proofs.Tickets.Steps.{table_allowed}
use Rattle.rdfs.proofs.Deletion.DeletionLargest.{deletion_case}
use Rattle.rdfs.proofs.Deletion.DeletionSteps.{deletion_leaves}
use Rattle.rdfs.proofs.Operators.Enters.{by_their_kind}

-- An id that the class tree is made of: a class, a property, the mark.
abbrev Schema : List Fact → ℕ → Type 0
Schema K x = (cl x ∈ K) ⊎ ((pr x ∈ K) ⊎ (x ≡ 1))

module _ (K : List Fact) (c : Consistent (graph K)) where
  one_id : {x z : ℕ} → Schema K x → z ∈ (x ∷ []) → Schema K z
  one_id h m = subst (Schema K) (sym (in_one m)) h

  two_ids : {x y z : ℕ} → Schema K x → Schema K y → z ∈ (x ∷ y ∷ []) → Schema K z
  two_ids h k m = ⊎_elim (λ e. subst (Schema K) (sym e) h) (one_id k) (in_cons m)

  -- A fact of another kind than theirs has such ids.
  schema_ids : (f : Fact) → f ∈ K → T (not (member operator_kinds (kind f))) → (z : ℕ) → z ∈ ids f → Schema K z
  schema_ids (cl x) h o z = one_id (inl h)
  schema_ids (pr x) h o z = one_id (inr (inl h))
  schema_ids (ind x) h o z = absurd o
  schema_ids (lit x) h o z = absurd o
  schema_ids (csub x y) h o z = let q = c.rule_7 x y h in two_ids (inl q.0) (inl q.1)
  schema_ids (psub x y) h o z = let q = c.rule_8 x y h in two_ids (inr (inl q.0)) (inr (inl q.1))
  schema_ids (dom x y) h o z = let q = c.rule_9 x y h in two_ids (inr (inl q.0)) (inl q.1)
  schema_ids (rng x y) h o z =
      let q = c.rule_10 x y h in
      two_ids (inr (inl q.0)) (elim (ℕ_discrete y 1) [ yes e ↦ inr (inr e) | no n ↦ inl (q.1 n) ])
  schema_ids (ci x y) h o z = absurd o
  schema_ids (pi x y v) h o z = absurd o
  schema_ids (excl x) h o z = one_id (inr (inl (c.rule_e1 x h)))

  module _ (top : ℕ) (allowed : All (Allowed top) K) where
    -- No individual and no literal is one.
    no_individual : (a : ℕ) → ind a ∈ K → Schema K a → ⊥
    no_individual a h = ⊎_elim (λ k. c.rule_5 a k h)
        (⊎_elim (λ k. c.rule_6 a k h) (fields top (ind a) (allowed (ind a) h)).one_mark)

    no_literal : (a : ℕ) → lit a ∈ K → Schema K a → ⊥
    no_literal a h = ⊎_elim (λ k. (c.rule_h2 a h).0 k)
        (⊎_elim (λ k. (c.rule_h2 a h).1 k) (fields top (lit a) (allowed (lit a) h)).one_mark)

    module _ (f : Fact) (h : f ∈ K) (o : T (not (member operator_kinds (kind f)))) where
      -- It does not go with an id that is none of the class tree's.
      apart : (a : ℕ) → (Schema K a → ⊥) → T (any (eqb a) (ids f)) → ⊥
      apart a n g =
          let r = any_in (eqb a) (ids f) g in
          n (subst (Schema K) (sym (eqb→eq a r.0 r.2)) (schema_ids f h o r.0 r.1))

      -- Nor with a membership or a value.
      not_of : (k : ℕ) (test : ℕ → ℕ → ℕ → Bool) → T (member operator_kinds k) → T (of k test f) → ⊥
      not_of k test m g = T_not (member operator_kinds (kind f)) o (subst (λ n. T (member operator_kinds n))
          (sym (eqb→eq (kind f) k (and_both (eqb (kind f) k) (test (first f) (second f) (third f)) g).0)) m)

      stays : (d : Fact) → T (member operator_kinds (kind d)) → d ∈ K → T (goes K d f) → ⊥
      unfolding goes
      stays (cl a) k m = absurd k
      stays (pr a) k m = absurd k
      stays (ind a) k m = apart a (no_individual a m)
      stays (lit a) k m = apart a (no_literal a m)
      stays (csub a b) k m = absurd k
      stays (psub a b) k m = absurd k
      stays (dom a b) k m = absurd k
      stays (rng a b) k m = absurd k
      stays (ci a b) k m =
          let members : ℕ → ℕ → ℕ → Bool = λ x y z. eqb x a && under K 5 b y in
          let values : ℕ → ℕ → ℕ → Bool = λ x y z. (eqb x a && leads K 7 z (under K 5 b)) || (eqb y a && leads K 8 z (under K 5
          b)) in
          λ g. ⊎_elim (not_of 9 members tt) (not_of 10 values tt) (or_either (of 9 members f) (of 10 values f) g)
      stays (pi a b v) k m = not_of 10 (λ x y z. eqb x a && (eqb y b && under K 6 v z)) tt
      stays (excl a) k m = absurd k

      pub left_there : (d : Fact) → T (member operator_kinds (kind d)) → f ∈ deletion K d
      left_there d k = deletion_case K d (λ L. f ∈ L)
          (λ m. filter_in (λ g. not (goes K d g)) K h (not_T (goes K d f) (stays d k m))) (λ _. h)

-- What an operator's ticket names is of its kind.
named_theirs : (o k a b c : ℕ) → k ∈ operator_kinds → T (member operator_kinds (kind (named (ticket_of o k a b c))))
named_theirs o k a b c h = by_their_kind (λ k. T (member operator_kinds (kind (named (ticket_of o k a b c))))) k h tt tt tt tt

-- One deletion of an operator past refusal 8.
pub takes : (N : Numbers) → Sound N → (w bytes : List ℕ) → Table N w → T (deletes (decoded bytes)) → Formed N bytes
    → (decoded bytes).kind ∈ operator_kinds → (f : Fact) → T (not (member operator_kinds (kind f)))
    → f ∈ facts N w → f ∈ facts N (step N w bytes).table
takes N s w bytes t d form h f o m =
    let n : Ticket = decoded bytes in
    deletion_leaves N s w bytes t d form f (left_there (facts N w) t.consistent N.top (table_allowed N s w t) f m o
    (named n)
    (named_theirs n.operation n.kind n.a n.b n.c h))
