-- What the tests of a ticket tell where they do not hold. Assumes nothing.
use Prim.Native.Nat.{ℕ, ◌≤◌}
use mathlib.Core.Path.{◌≡◌, refl, sym, subst}
use mathlib.Core.Bool.{Bool, true, false, not, ◌&&◌, ◌||◌}
use mathlib.Core.Logic.{◌⊎◌, inl, inr, ⊎_elim}
use mathlib.Core.List.{List, [], ◌∷◌}
use native.Mathlib.Omega.{arith}
use lib.Dec.{T, eqb, ltb, not_T, nltb→le}
use Rattle.rdfs.specs.Numbers.{ticket_kinds}
use Rattle.rdfs.specs.Lists.{◌∈◌, member}
use Rattle.rdfs.specs.Facts.{Fact, cl, pr, ind, lit, csub, psub, dom, rng, ci, pi, excl, has}
use Rattle.rdfs.specs.Tickets.{
  Ticket,
  inserts,
  deletes,
  makes_property,
  asked,
  bad_operation,
  bad_kind,
  bad_ids,
  unused_not_zero,
  mark_misplaced,
  above_highest,
  unknown_property,
  unknown_class,
  ticket_of,
}
use Rattle.rdfs.specs.Promises.{Known, Provided}
use Rattle.rdfs.proofs.Lists.Tests.{
  Tests,
  tests_and,
  tests_or,
  tests_not,
  tests_eq,
  tests_self,
  and_both,
  either_or,
  or_either,
}
use Rattle.rdfs.proofs.Lists.ListLaws.{in_cons, in_one}
use Rattle.rdfs.proofs.Words.FactLaws.{member_in_lem, tests_has}
use Rattle.rdfs.proofs.Consistency.LawfulParts.{All}
use Rattle.rdfs.proofs.Words.Allowed.{Allowed, Id, Ids, ids_allowed}

-- by kind
pub by_kind {ℓ} : (P : ℕ → Type ℓ) (k : ℕ) → k ∈ ticket_kinds → P 1 → P 2 → P 3 → P 4 → P 5 → P 6 → P 9 → P 10 → P 11
    → P k
by_kind P k h p1 p2 p3 p4 p5 p6 p9 p10 p11 =
    ⊎_elim (λ e. subst P (sym e) p1) (λ h. ⊎_elim (λ e. subst P (sym e) p2) (λ h. ⊎_elim (λ e. subst P (sym e) p3) (λ h.
    ⊎_elim (λ e. subst P (sym e) p4) (λ h.
    ⊎_elim (λ e. subst P (sym e) p5) (λ h. ⊎_elim (λ e. subst P (sym e) p6) (λ h. ⊎_elim (λ e. subst P (sym e) p9)
    (λ h. ⊎_elim (λ e. subst P (sym e) p10) (λ h. subst P (sym (in_one h)) p11) (in_cons h))
    (in_cons h)) (in_cons h)) (in_cons h)) (in_cons h)) (in_cons h)) (in_cons h)) (in_cons h)

-- A test that does not fail holds.
pub stands : (b : Bool) → (T (not b) → ⊥) → T b
stands true h = tt
stands false h = absurd (h tt)

-- Neither of two tests holds.
neither : (s t : Bool) → (T (s || t) → ⊥) → (T s → ⊥) × (T t → ⊥)
neither s t n = ((λ h. n (either_or s t (inl h))), (λ h. n (either_or s t (inr h))))

pub known_operation : (t : Ticket) → (T (bad_operation t) → ⊥) → T (inserts t) ⊎ T (deletes t)
known_operation t n = or_either (inserts t) (deletes t) (stands (inserts t || deletes t) n)

pub known_kind : (t : Ticket) → (T (bad_kind t) → ⊥) → t.kind ∈ ticket_kinds
known_kind t n = member_in_lem ticket_kinds t.kind (stands (member ticket_kinds t.kind) n)

-- Refusals 9 and 16, and the properties and classes that an insertion uses.
module _ (K : List Fact) (t : Ticket) where
  lacks : (f : Fact) → Tests (not (has K f)) (f ∈ K → ⊥)
  lacks f = tests_not (tests_has K f)

  there : (f : Fact) → ((f ∈ K → ⊥) → ⊥) → f ∈ K
  there f h = (tests_has K f).sound (stands (has K f) (λ m. h ((lacks f).sound m)))

  -- A property that the ticket uses does not stand.
  abbrev pub Unknown : Type 0
  Unknown =
      ((t.kind ≡ 6) × ((pr t.a ∈ K → ⊥) ⊎ (pr t.b ∈ K → ⊥)))
      ⊎ (((t.kind ≡ 10) × (pr t.c ∈ K → ⊥)) ⊎ ((t.kind ≡ 11) × (pr t.a ∈ K → ⊥)))

  pub tests_unknown_property : Tests (unknown_property K t) (T (inserts t) × Unknown)
  tests_unknown_property = tests_and (tests_self (inserts t))
      (tests_or (tests_and (tests_eq t.kind 6) (tests_or (lacks (pr t.a)) (lacks (pr t.b))))
      (tests_or (tests_and (tests_eq t.kind 10) (lacks (pr t.c))) (tests_and (tests_eq t.kind 11) (lacks (pr t.a)))))

  pub tests_unknown_class : Tests (unknown_class K t) (T (inserts t) × ((t.kind ≡ 9) × (cl t.b ∈ K → ⊥)))
  tests_unknown_class = tests_and (tests_self (inserts t)) (tests_and (tests_eq t.kind 9) (lacks (cl t.b)))

  -- CI uses no property.
  pub member_no_property : t.kind ≡ 9 → T (unknown_property K t) → ⊥
  member_no_property e h =
      ⊎_elim (λ q. omega (arith, e, q.0)) (⊎_elim (λ q. omega (arith, e, q.0)) (λ q. omega (arith, e, q.0)))
      (tests_unknown_property.sound h).1

  -- Past both, what an insertion uses stands.
  pub known_provided : T (inserts t) → Known K t → Provided K t
  known_provided i k = record {
    properties = λ p. ⊎_elim
        (λ q. ⊎_elim (λ e. at e (λ m. property (inl (q.0, inl m)))) (λ e. at e (λ m. property (inl (q.0, inr m)))) q.1)
        (⊎_elim (λ q. at q.1 (λ m. property (inr (inl (q.0, m))))) (λ q. at q.1 (λ m. property (inr (inr (q.0, m))))));
    classes = λ x u. subst (λ y. cl y ∈ K) (sym u.2)
        (there (cl t.b) (λ m. k.class (tests_unknown_class.complete (i, (u.1, m)))));
  }
    where
      property : Unknown → ⊥
      property q = k.property (tests_unknown_property.complete (i, q))

      at : {p x : ℕ} → p ≡ x → ((pr x ∈ K → ⊥) → ⊥) → pr p ∈ K
      at {x = x} e h = subst (λ y. pr y ∈ K) (sym e) (there (pr x) h)

  pub provided_known : T (inserts t) → Provided K t → Known K t
  provided_known i u = record {
    property = λ h. ⊎_elim
        (λ q. ⊎_elim (λ m. m (u.properties t.a (inl (q.0, inl refl)))) (λ m. m (u.properties t.b (inl (q.0, inr refl))))
        q.1)
        (⊎_elim (λ q. q.1 (u.properties t.c (inr (inl (q.0, refl)))))
        (λ q. q.1 (u.properties t.a (inr (inr (q.0, refl)))))) (tests_unknown_property.sound h).1;
    class = λ h. let q = (tests_unknown_class.sound h).1 in q.1 (u.classes t.b (i, q.0, refl));
  }

-- The ids of a ticket past refusal 7.
module _ (top : ℕ) (t : Ticket) (n : T (bad_ids top t) → ⊥) where
  pub record Given : Type 0 where
    pub a_top : t.a ≤ top
    pub b_top : t.b ≤ top
    pub c_top : t.c ≤ top
    pub a_mark : t.a ≡ 1 → ⊥
    pub b_mark : t.b ≡ 1 → ⊥
    pub c_mark : (T (makes_property t) → ⊥) → t.c ≡ 1 → ⊥

  up_to : (x : ℕ) → (T (ltb top x) → ⊥) → x ≤ top
  up_to x h = nltb→le top x (not_T (ltb top x) h)

  pub given_ids : Given
  given_ids =
      let p = neither (unused_not_zero t) (mark_misplaced t || above_highest top t) n in
      let q = neither (mark_misplaced t) (above_highest top t) p.1 in
      let m = neither (eqb t.a 1) (eqb t.b 1 || (eqb t.c 1 && not (makes_property t))) q.0 in
      let m' = neither (eqb t.b 1) (eqb t.c 1 && not (makes_property t)) m.1 in
      let h = neither (ltb top t.a) (ltb top t.b || ltb top t.c) q.1 in
      let h' = neither (ltb top t.b) (ltb top t.c) h.1 in
      let c = tests_and (tests_eq t.c 1) (tests_not (tests_self (makes_property t))) in
      record {
        a_top = up_to t.a h.0;
        b_top = up_to t.b h'.0;
        c_top = up_to t.c h'.1;
        a_mark = λ e. m.0 ((tests_eq t.a 1).complete e);
        b_mark = λ e. m'.0 ((tests_eq t.b 1).complete e);
        c_mark = λ k e. m'.1 (c.complete (e, k));
      }

-- The facts that an insertion asks for have ids up to the highest and the mark in its place.
pub asked_allowed : (top : ℕ) (t : Ticket) → T (inserts t) → t.kind ∈ ticket_kinds → (T (bad_ids top t) → ⊥)
    → All (Allowed top) (asked t)
asked_allowed top t i h n = of t.operation t.kind t.a t.b t.c i h n
  where
    of : (o k a b c : ℕ) → T (eqb o 1) → k ∈ ticket_kinds → (T (bad_ids top (ticket_of o k a b c)) → ⊥)
        → All (Allowed top) (asked (ticket_of o k a b c))
    of o k a b c i h = by_kind (λ k. (T (bad_ids top (ticket_of o k a b c)) → ⊥) → All (Allowed top) (asked (ticket_of o k a b c))) k
        h
        (λ n. single (cl a) (fst 1 n))
        (λ n f m. ⊎_elim (λ e. put f (pr a) e (fst 2 n)) (λ m. ⊎_elim (λ e. put f (dom a b) e (fst 2 n, snd 2 n))
        (λ m. put f (rng a c) (in_one m) (fst 2 n, (given_ids top (ticket_of o 2 a b c) n).c_top)) (in_cons m)) (in_cons m))
        (λ n. single (ind a) (fst 3 n))
        (λ n. single (lit a) (fst 4 n))
        (λ n. single (csub a b) (fst 5 n, snd 5 n))
        (λ n. single (psub a b) (fst 6 n, snd 6 n))
        (λ n. single (ci a b) (fst 9 n, snd 9 n))
        (λ n. single (pi a b c) (
          fst 10 n,
          snd 10 n,
          (
            (given_ids top (ticket_of o 10 a b c) n).c_top,
            (given_ids top (ticket_of o 10 a b c) n).c_mark (λ p. (and_both (eqb o 1) false p).1),
          ),
        ))
        (λ n. single (excl a) (fst 11 n))
      where
        fst : (k : ℕ) → (T (bad_ids top (ticket_of o k a b c)) → ⊥) → Id top a
        fst k n = let g = given_ids top (ticket_of o k a b c) n in (g.a_top, g.a_mark)

        snd : (k : ℕ) → (T (bad_ids top (ticket_of o k a b c)) → ⊥) → Id top b
        snd k n = let g = given_ids top (ticket_of o k a b c) n in (g.b_top, g.b_mark)

        put : (f g : Fact) → f ≡ g → Ids top g → Allowed top f
        put f g e h = subst (Allowed top) (sym e) (ids_allowed top g h)

        single : (f : Fact) → Ids top f → All (Allowed top) (f ∷ [])
        single f h g m = put g f (in_one m) h
