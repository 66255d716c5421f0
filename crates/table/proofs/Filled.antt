-- A table that is laid out: its facts are its first words, and its first zero says how many. Assumes nothing.
use Prim.Native.Nat.{ℕ, zero, suc, ◌+◌, ◌-◌, ◌≤◌, ◌<◌}
use mathlib.Core.Path.{◌≡◌, refl, sym, ap, subst, ◌∙◌}
use mathlib.Core.Bool.{not, cond}
use mathlib.Core.List.{List, [], ◌∷◌, ◌++◌}
use native.Mathlib.Omega.{arith}
use native.Mathlib.Decide.{dec_lt}
use lib.Dec.{T, eqb, ltb}
use lib.ListN.{length, get_or, take, replicate, length-append, get_or-append}
use lib.Seq.{take-append_seam, get_or-append-add}
use Rattle.rdfs.specs.Numbers.{Numbers}
use Rattle.rdfs.specs.Lists.{◌∈◌, here, there, Ascending}
use Rattle.rdfs.specs.Words.{laid_out, filled}
use Rattle.rdfs.proofs.Lists.Tests.{differ}
use Rattle.rdfs.proofs.Lists.ListLaws.{in_filter}
use Rattle.rdfs.proofs.Words.LaidOut.{laid_shape, laid_ascending}
use Rattle.table.specs.Turning.{Turns}
use Rattle.table.proofs.Halving.{turns}

pub at_in : (l : List ℕ) (i : ℕ) → i < length l → get_or l i 0 ∈ l
at_in [] i h = absurd (omega arith)
at_in (x ∷ l) zero h = here refl
at_in (x ∷ l) (suc i) h = there (at_in l i (omega arith))

zeros_at : (m k : ℕ) → ◌≡◌ {A = ℕ} (get_or (replicate m 0) k 0) 0
zeros_at zero k = refl
zeros_at (suc m) zero = refl
zeros_at (suc m) (suc k) = zeros_at m k

module _ (N : Numbers) (t : List ℕ) (h : T (laid_out N 1 t)) where
  shape : t ≡ filled t ++ replicate (length t - length (filled t)) 0
  shape = laid_shape N t h

  pub filled_first : take (length (filled t)) t ≡ filled t
  filled_first = ap (take (length (filled t))) shape ∙ take-append_seam (filled t) (replicate (length t - length (filled t)) 0)

  pub filled_within : length (filled t) ≤ length t
  filled_within = omega (arith, ap length shape, length-append (filled t) (replicate (length t - length (filled t)) 0))

  pub filled_some : (k : ℕ) → k < length (filled t) → get_or t k 0 ≡ 0 → ⊥
  filled_some k l e =
      let same : get_or t k 0 ≡ get_or (filled t) k 0 =
      ap (λ m. get_or m k 0) shape ∙ get_or-append (filled t) (replicate (length t - length (filled t)) 0) 0 k l in
      differ (in_filter (λ x. not (eqb x 0)) t (at_in (filled t) k l)).1 (sym same ∙ e)

  pub filled_none : (k : ℕ) → length (filled t) ≤ k → get_or t k 0 ≡ 0
  filled_none k l =
      let rest : List ℕ = replicate (length t - length (filled t)) 0 in
      let place : length (filled t) + (k - length (filled t)) ≡ k = omega arith in
      ap (λ m. get_or m k 0) shape
      ∙ (ap (λ j. get_or (filled t ++ rest) j 0) (sym place) ∙ (get_or-append-add (filled t) rest (k - length (filled t)) 0
      ∙ zeros_at (length t - length (filled t)) (k - length (filled t))))

  pub filled_end : (k : ℕ) → get_or t k 0 ≡ 0 → length (filled t) ≤ k
  filled_end k e = elim (dec_lt k (length (filled t))) [ yes l ↦ absurd (filled_some k l e) | no n ↦ omega (arith, n) ]

  pub filled_more : (k : ℕ) → (get_or t k 0 ≡ 0 → ⊥) → k < length (filled t)
  filled_more k e = elim (dec_lt k (length (filled t))) [ yes l ↦ l | no n ↦ absurd (e (filled_none k (omega (arith, n)))) ]

  -- A test of the search for the first zero.
  pub filled_turns : (k r : ℕ) → r ≡ cond (ltb 0 (get_or t k 0)) 1 0 → Turns (length (filled t)) k r
  filled_turns k r e =
      turns (length (filled t)) k 0 (get_or t k 0) r (λ l. filled_more k (omega arith)) (λ l. filled_end k (omega arith)) e

  -- The first words, as many as there are facts, are the facts, and they ascend.
  module _ (n : ℕ) (e : n ≡ length (filled t)) where
    pub counted_filled : take n t ≡ filled t
    counted_filled = ap (λ m. take m t) e ∙ filled_first

    pub counted_ascending : (n ≤ length t) × Ascending (take n t)
    counted_ascending = (omega (arith, filled_within), subst Ascending (sym counted_filled) (laid_ascending N t h))
