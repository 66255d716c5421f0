-- The answer of tests made in turn: the first test that settles it decides, or else the last one's answer is it. Assumes nothing.
use mathlib.Core.Path.{◌≡◌, refl, sym, ap, ◌∙◌}
use mathlib.Core.Bool.{Bool, true, false, ◌&&◌, ◌||◌, cond}

-- What a call answered is what its test is.
pub told : {r s b : Bool} → r ≡ s → r ≡ b → s ≡ b
told p q = sym p ∙ q

-- One of two; where the first does not matter, the equation says which it is.
pub or_first : {s : Bool} (t : Bool) → s ≡ true → true ≡ (s || t)
or_first t e = sym (ap (λ b. b || t) e)

pub or_second : {r s t : Bool} → r ≡ s → true ≡ t → true ≡ (s || t)
or_second {s = true} p e = refl
or_second {s = false} p e = e

pub or_rest : {s t r : Bool} → s ≡ false → r ≡ t → r ≡ (s || t)
or_rest {t = t} e h = h ∙ sym (ap (λ b. b || t) e)

pub or_last : {s r : Bool} → r ≡ s → r ≡ (s || false)
or_last {s = true} h = h
or_last {s = false} h = h

-- Both of two.
pub and_first : {s : Bool} (t : Bool) → s ≡ false → false ≡ (s && t)
and_first t e = sym (ap (λ b. b && t) e)

pub and_rest : {s t r : Bool} → s ≡ true → r ≡ t → r ≡ (s && t)
and_rest {t = t} e h = h ∙ sym (ap (λ b. b && t) e)

pub and_last : {s r : Bool} → r ≡ s → r ≡ (s && true)
and_last {s = true} h = h
and_last {s = false} h = h

-- The one or the other.
pub cond_then : {s t r : Bool} (u : Bool) → s ≡ true → r ≡ t → r ≡ cond s t u
cond_then {t = t} u e h = h ∙ sym (ap (λ b. cond b t u) e)

pub cond_else : {s u r : Bool} (t : Bool) → s ≡ false → r ≡ u → r ≡ cond s t u
cond_else {u = u} t e h = h ∙ sym (ap (λ b. cond b t u) e)
