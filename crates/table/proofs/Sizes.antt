-- Refusal 1 by the length of a table. Assumes nothing.
use Prim.Native.Nat.{ℕ, ◌≤◌, ◌<◌}
use mathlib.Core.Path.{◌≡◌, subst}
use mathlib.Core.Bool.{false}
use mathlib.Core.Logic.{◌⊎◌, inl, inr, ⊎_elim}
use mathlib.Core.List.{List}
use native.Mathlib.Omega.{arith}
use native.Mathlib.Decide.{dec_lt}
use lib.Dec.{T, leb, ltb, leb→le, le→leb, ltb→lt, lt→ltb}
use lib.ListN.{length}
use Rattle.rdfs.specs.Numbers.{Numbers, product}
use Rattle.rdfs.specs.Refusals.{bad_size}
use Rattle.rdfs.proofs.Lists.Tests.{Tests, tests_or, tests_as}

pub tests_size : (N : Numbers) (t : List ℕ) → Tests (bad_size N t) ((length t ≡ 0) ⊎ (N.most < length t))
tests_size N t = tests_as
    (tests_or {s = leb (length t) 0} {t = ltb N.most (length t)} (record {
      sound = leb→le (length t) 0;
      complete = le→leb (length t) 0;
    }) (record {
      sound = ltb→lt N.most (length t);
      complete =
          lt→ltb N.most (length t);
    }))
    (⊎_elim (λ h. inl (omega arith)) inr)
    (⊎_elim (λ h. inl (omega arith)) inr)

-- A table that it does not refuse has no more than the most words.
pub size_most : (t : List ℕ) → bad_size product t ≡ false → length t ≤ product.most
size_most t e = elim (dec_lt product.most (length t)) [
  | yes h ↦ absurd (subst T e ((tests_size product t).complete (inr h)))
  | no h ↦ omega (arith, h)
]
