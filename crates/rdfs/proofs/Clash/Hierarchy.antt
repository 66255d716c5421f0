-- A strict order with one link more and what it carries: classes and properties alike. Assumes nothing.
use Prim.Native.Nat.{ℕ}
use mathlib.Core.Path.{refl, sym, subst}
use mathlib.Core.Logic.{◌⊎◌, inl, inr, ⊎_elim}
use Rattle.rdfs.proofs.Deletion.Between.{Strict, strict_differ, Under}

-- x is y, or below y.
abbrev pub Le : (ℕ → ℕ → Type 0) → ℕ → ℕ → Type 0
Le R x y = Under R y x

-- Where Q holds, a is put below b, and with it whatever is below a below whatever is above b.
abbrev pub Link : (ℕ → ℕ → Type 0) → Type 0 → ℕ → ℕ → ℕ → ℕ → Type 0
Link R Q a b x y = R x y ⊎ (Q × Le R x a × Le R b y)

pub le_trans : (R : ℕ → ℕ → Type 0) → Strict R → (x y z : ℕ) → Le R x y → Le R y z → Le R x z
le_trans R o x y z (inl e) k = subst (λ q. Le R q z) (sym e) k
le_trans R o x y z (inr h) (inl e) = inr (subst (R x) e h)
le_trans R o x y z (inr h) (inr k) = inr (o.trans x y z h k)

-- Of two ids one is not below the other and above or the same.
pub order_back : (R : ℕ → ℕ → Type 0) → Strict R → (x y : ℕ) → R x y → Le R y x → ⊥
order_back R o x y h (inl e) = strict_differ R o x y h (sym e)
order_back R o x y h (inr k) = o.apart x y h k

-- The link itself stands.
pub link_self : (R : ℕ → ℕ → Type 0) (Q : Type 0) (a b : ℕ) → Q → Link R Q a b a b
link_self R Q a b q = inr (q, inl refl, inl refl)

-- A link closes no cycle unless b is below a.
pub link_order : (R : ℕ → ℕ → Type 0) (Q : Type 0) (a b : ℕ) → Strict R → (Q → Le R b a → ⊥) → Strict (Link R Q a b)
link_order R Q a b o no_way = record {
  trans = λ x y z h k. ⊎_elim
      (λ p. ⊎_elim (λ q. inl (o.trans x y z p q)) (λ q. inr (q.0, up x y a (inr p) q.1, q.2)) k)
      (λ p. ⊎_elim (λ q. inr (p.0, p.1, up b y z p.2 (inr q))) (λ q. inr (p.0, p.1, q.2)) k) h;
  apart = λ x y h k. ⊎_elim
      (λ p. ⊎_elim (o.apart x y p) (λ q. no_way q.0 (up b x a q.2 (up x y a (inr p) q.1))) k)
      (λ p. ⊎_elim (λ q. no_way p.0 (up b y a p.2 (up y x a (inr q) p.1))) (λ q. no_way p.0 (up b y a p.2 q.1))
      k) h;
}
  where
    up : (x y z : ℕ) → Le R x y → Le R y z → Le R x z
    up = le_trans R o
