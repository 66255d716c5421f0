-- Two graphs with the same facts meet the same rules. Assumes nothing.
use Prim.Native.Nat.{ℕ}
use mathlib.Core.Logic.{inl, inr, ⊎_elim}
use mathlib.Core.List.{List}
use Rattle.rdfs.specs.Facts.{Graph, ◌⊑◌}
use Rattle.rdfs.specs.Rules.{
  Rule,
  Meets,
  r4,
  r5,
  r6,
  r7,
  r8,
  r9,
  r10,
  r11,
  r12,
  r13,
  r14,
  r15,
  r16,
  r17,
  r18,
  r19,
  r20,
  r21,
  r22,
  r23,
  r24,
  r25,
  r26,
  r27,
  h1,
  h2,
  h3,
  h4,
  e1,
  e2,
}
use Rattle.consistency.specs.Order.{MetFirst, end, stop, pass}

meets_same : (G H : Graph) → ◌⊑◌ G H → ◌⊑◌ H G → (r : Rule) → Meets G r → Meets H r
meets_same G H to from r4 m = λ x p q. m x (from _ p) (from _ q)
meets_same G H to from r5 m = λ x p q. m x (from _ p) (from _ q)
meets_same G H to from r6 m = λ x p q. m x (from _ p) (from _ q)
meets_same G H to from r7 m = λ x y p. let q = m x y (from _ p) in (to _ q.0, to _ q.1)
meets_same G H to from r8 m = λ x y p. let q = m x y (from _ p) in (to _ q.0, to _ q.1)
meets_same G H to from r9 m = λ x y p. let q = m x y (from _ p) in (to _ q.0, to _ q.1)
meets_same G H to from r10 m = λ x y p. let q = m x y (from _ p) in (to _ q.0, λ n. to _ (q.1 n))
meets_same G H to from r11 m = λ x y p. let q = m x y (from _ p) in (to _ q.0, to _ q.1)
meets_same G H to from r12 m = λ x y z p. let q = m x y z (from _ p) in
    (to _ q.0, to _ q.1, ⊎_elim (λ a. inl (to _ a)) (λ b. inr (to _ b)) q.2)
meets_same G H to from r13 m = λ x p n. to _ (m x (from _ p) n)
meets_same G H to from r14 m = λ x p. to _ (m x (from _ p))
meets_same G H to from r15 m = λ x p. let q = m x (from _ p) in ((q.0.0, to _ q.0.1), (q.1.0, to _ q.1.1))
meets_same G H to from r16 m = λ x y z p q. m x y z (from _ p) (from _ q)
meets_same G H to from r17 m = λ x y z p q. m x y z (from _ p) (from _ q)
meets_same G H to from r18 m = λ x y z p q. to _ (m x y z (from _ p) (from _ q))
meets_same G H to from r19 m = λ x y p q. m x y (from _ p) (from _ q)
meets_same G H to from r20 m = λ x y z p q. to _ (m x y z (from _ p) (from _ q))
meets_same G H to from r21 m = λ x y p q. m x y (from _ p) (from _ q)
meets_same G H to from r22 m = λ x y z w p q s n. to _ (m x y z w (from _ p) (from _ q) (from _ s) n)
meets_same G H to from r23 m = λ x y z w p q s n a b. to _ (m x y z w (from _ p) (from _ q) (from _ s) n a b)
meets_same G H to from r24 m = λ x y z w p q. to _ (m x y z w (from _ p) (from _ q))
meets_same G H to from r25 m = λ x y z w p n q. to _ (m x y z w (from _ p) n (from _ q))
meets_same G H to from r26 m = λ x y z p q. to _ (m x y z (from _ p) (from _ q))
meets_same G H to from r27 m = λ x y z w p q. to _ (m x y z w (from _ p) (from _ q))
meets_same G H to from h1 m = to _ m
meets_same G H to from h2 m = λ x p. let q =
    m x (from _ p) in ((λ k. q.0 (from _ k)), (λ k. q.1 (from _ k)), (λ k. q.2 (from _ k)))
meets_same G H to from h3 m = λ x y z p q. to _ (m x y z (from _ p) (from _ q))
meets_same G H to from h4 m = λ x y z w p q s. m x y z w (from _ p) (from _ q) (from _ s)
meets_same G H to from e1 m = λ x p. to _ (m x (from _ p))
meets_same G H to from e2 m = λ x y z w p q s. m x y z w (from _ p) (from _ q) (from _ s)

pub met_same : (G H : Graph) → ◌⊑◌ G H → ◌⊑◌ H G → {l : List Rule} {n : ℕ} → MetFirst G l n → MetFirst H l n
met_same G H to from end = end
met_same G H to from (stop {r = r} b) = stop (λ m. b (meets_same H G from to r m))
met_same G H to from (pass {r = r} p m) = pass (meets_same G H to from r p) (met_same G H to from m)
