-- Tests: a Bool that is true exactly if a statement holds, by its connectives. Assumes nothing. The computed cases stand below
-- every law, so that a definition which no longer gives them is refused there first.
use Prim.Native.Nat.{ℕ}
use mathlib.Core.Path.{◌≡◌, refl, subst}
use mathlib.Core.Bool.{Bool, true, false, not, ◌&&◌, ◌||◌, cond}
use mathlib.Core.Logic.{◌⊎◌, inl, inr, ⊎_elim}
use lib.Dec.{T, eqb, T_not, not_T, eqb→eq, eqb_refl}
use Rattle.rdfs.proofs.Cases

pub and_both : (a b : Bool) → T (a && b) → T a × T b
and_both true true h = (tt, tt)
and_both true false h = absurd h
and_both false true h = absurd h
and_both false false h = absurd h

pub both_and : (a b : Bool) → T a → T b → T (a && b)
both_and true true h k = tt
both_and true false h k = k
both_and false true h k = h
both_and false false h k = h

pub either_or : (a b : Bool) → T a ⊎ T b → T (a || b)
either_or true true h = tt
either_or true false h = tt
either_or false true h = tt
either_or false false (inl h) = h
either_or false false (inr h) = h

pub or_either : (a b : Bool) → T (a || b) → T a ⊎ T b
or_either true true h = inl tt
or_either true false h = inl tt
or_either false true h = inr tt
or_either false false h = absurd h

-- tests on numbers
pub differ : {a b : ℕ} → T (not (eqb a b)) → a ≡ b → ⊥
differ {a} {b} t e = T_not (eqb a b) t (subst (λ n. T (eqb a n)) e (eqb_refl a))

pub differs : (a b : ℕ) → (a ≡ b → ⊥) → T (not (eqb a b))
differs a b n = not_T (eqb a b) (λ t. n (eqb→eq a b t))

-- a test that is true exactly if a statement holds
pub record Tests (t : Bool) (P : Type 0) : Type 0 where
  pub sound : T t → P
  pub complete : P → T t

pub tests_not : {t : Bool} {P : Type 0} → Tests t P → Tests (not t) (P → ⊥)
tests_not {t} e = record { sound = λ n p. T_not t n (e.complete p); complete = λ n. not_T t (λ h. n (e.sound h)) }

pub tests_and : {s t : Bool} {P Q : Type 0} → Tests s P → Tests t Q → Tests (s && t) (P × Q)
tests_and {s} {t} d e = record {
  sound = λ h. let q = and_both s t h in (d.sound q.0, e.sound q.1);
  complete =
      λ p. both_and s t (d.complete p.0) (e.complete p.1);
}

pub tests_or : {s t : Bool} {P Q : Type 0} → Tests s P → Tests t Q → Tests (s || t) (P ⊎ Q)
tests_or {s} {t} d e = record {
  sound = λ h. ⊎_elim (λ p. inl (d.sound p)) (λ q. inr (e.sound q)) (or_either s t h);
  complete =
      λ o. either_or s t (⊎_elim (λ p. inl (d.complete p)) (λ q. inr (e.complete q)) o);
}

pub tests_eq : (x y : ℕ) → Tests (eqb x y) (x ≡ y)
tests_eq x y = record { sound = eqb→eq x y; complete = λ e. subst (λ z. T (eqb x z)) e (eqb_refl x) }

pub tests_as : {t : Bool} {P Q : Type 0} → Tests t P → (P → Q) → (Q → P) → Tests t Q
tests_as e f g = record { sound = λ h. f (e.sound h); complete = λ q. e.complete (g q) }

-- two tests of one statement agree
pub tests_agree : {s t : Bool} {P : Type 0} → Tests s P → Tests t P → s ≡ t
tests_agree {s = true} {t = true} d e = refl
tests_agree {s = true} {t = false} d e = absurd (e.complete (d.sound tt))
tests_agree {s = false} {t = true} d e = absurd (d.complete (e.sound tt))
tests_agree {s = false} {t = false} d e = refl

pub tests_none : Tests false ⊥
tests_none = record { sound = λ h. h; complete = λ h. h }

pub tests_self : (t : Bool) → Tests t (T t)
tests_self t = record { sound = λ h. h; complete = λ h. h }

pub tests_cond : {s t u : Bool} {P Q R : Type 0} → Tests s P → Tests t Q → Tests u R
    → Tests (cond s t u) ((P × Q) ⊎ ((P → ⊥) × R))
tests_cond {s = true} d e f = record {
  sound = λ h. inl (d.sound tt, e.sound h);
  complete =
      ⊎_elim (λ q. e.complete q.1) (λ q. absurd (q.0 (d.sound tt)));
}
tests_cond {s = false} d e f = record {
  sound = λ h. inr ((λ p. d.complete p), f.sound h);
  complete =
      ⊎_elim (λ q. absurd (d.complete q.0)) (λ q. f.complete q.1);
}

pub tests_decides : {t : Bool} {P : Type 0} → Tests t P → Dec P
tests_decides {t = true} e = yes (e.sound tt)
tests_decides {t = false} e = no e.complete
