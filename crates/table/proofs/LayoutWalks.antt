-- A walk up a table while its words are facts, each above the one before, and a walk while they are zeros. Assumes nothing.
use Prim.Native.Nat.{ℕ, zero, suc, ◌+◌, ◌≤◌, ◌<◌}
use Rattle.std.specs.Prelude.{max}
use mathlib.Core.Path.{◌≡◌, refl, sym, ap, ◌∙◌}
use mathlib.Core.Logic.{◌⊎◌, inl, inr, ⊎_elim}
use mathlib.Core.Bool.{Bool, true, false, ◌&&◌, cond, and-false}
use mathlib.Core.List.{List, [], ◌∷◌}
use native.Mathlib.Omega.{arith}
use native.Mathlib.Numerals.{add-one}
use lib.Dec.{eqb, leb}
use lib.ListN.{length, get_or, drop, drop_of_length-le}
use lib.Seq.{drop-cons}
use borrow.Author.Tests.{le-leb, lt-leb, ne_eqb}
use Rattle.rdfs.specs.Numbers.{product}
use Rattle.rdfs.specs.Words.{is_fact, laid_out}
use Rattle.table.specs.Layout.{zeros, Rising}

-- The words before place i are facts, ascending up to `last`: the table is laid out if the rest is, from above `last` on.
pub record Walk (t : List ℕ) (i last : ℕ) : Type 0 where
  pub within : i ≤ length t
  pub rest : laid_out product 1 t ≡ laid_out product (suc last) (drop i t)

pub walk_start : (t : List ℕ) → Walk t 0 0
walk_start t = record { within = omega arith; rest = refl }

-- The first of some words, by what it is.
module _ (least w : ℕ) (l : List ℕ) where
  pub laid_some : 0 < w → laid_out product least (w ∷ l) ≡ (leb least w && (is_fact product w && laid_out product (suc w) l))
  laid_some p =
      ap (λ b. cond b (zeros l) (leb least w && (is_fact product w && laid_out product (suc w) l))) (ne_eqb w 0 (omega arith))

  pub laid_on : least ≤ w → 0 < w → is_fact product w ≡ true → laid_out product least (w ∷ l) ≡ laid_out product (suc w) l
  laid_on h p e = laid_some p ∙ (ap (λ b. b && (is_fact product w && laid_out product (suc w) l)) (le-leb least w h)
      ∙ ap (λ b. b && laid_out product (suc w) l) e)

  either_zero : (b rest : Bool) → rest ≡ false → cond b (zeros l) rest ≡ (b && zeros l)
  either_zero true rest e = refl
  either_zero false rest e = e

  pub laid_low : w < least → laid_out product least (w ∷ l) ≡ zeros (w ∷ l)
  laid_low h = either_zero (eqb w 0) _ (ap (λ b. b && (is_fact product w && laid_out product (suc w) l)) (lt-leb least w h))

  pub laid_no_fact : is_fact product w ≡ false → laid_out product least (w ∷ l) ≡ zeros (w ∷ l)
  laid_no_fact e = either_zero (eqb w 0) _ (ap (λ b. leb least w && (b && laid_out product (suc w) l)) e ∙ and-false (leb least w))

  pub zeros_not : 0 < w → zeros (w ∷ l) ≡ false
  zeros_not p = ap (λ b. b && zeros l) (ne_eqb w 0 (omega arith))

module _ {t : List ℕ} {i last : ℕ} (k : Walk t i last) where
  pub walk_more : i < length t → last < get_or t i 0 → is_fact product (get_or t i 0) ≡ true → Walk t (i + 1) (get_or t i 0)
  walk_more h l e = record {
    within = omega arith;
    rest = k.rest ∙ (ap (laid_out product (suc last)) (drop-cons t i 0 h)
        ∙ (laid_on (suc last) (get_or t i 0) (drop (suc i) t) l (omega arith) e
        ∙ ap (λ n. laid_out product (suc (get_or t i 0)) (drop n t)) (sym (add-one i))));
  }

  stop : i < length t → laid_out product (suc last) (get_or t i 0 ∷ drop (suc i) t) ≡ zeros (get_or t i 0 ∷ drop (suc i) t)
      → Rising t i
  stop h e = record {
    within = k.within;
    rest = k.rest ∙ (ap (laid_out product (suc last)) (drop-cons t i 0 h)
        ∙ (e ∙ ap zeros (sym (drop-cons t i 0 h))));
  }

  pub walk_low : i < length t → get_or t i 0 ≤ last → Rising t i
  walk_low h l = stop h (laid_low (suc last) (get_or t i 0) (drop (suc i) t) (omega arith))

  pub walk_no_fact : i < length t → is_fact product (get_or t i 0) ≡ false → Rising t i
  walk_no_fact h e = stop h (laid_no_fact (suc last) (get_or t i 0) (drop (suc i) t) e)

  pub walk_end : length t ≤ i → Rising t i
  walk_end h =
      let none : drop i t ≡ [] = drop_of_length-le t h in
      record { within = k.within; rest = k.rest ∙ (ap (laid_out product (suc last)) none ∙ ap zeros (sym none)) }

-- Zeros from a place on.
module _ (t : List ℕ) (i : ℕ) where
  zeros_more : i < length t → get_or t i 0 ≡ 0 → zeros (drop i t) ≡ zeros (drop (i + 1) t)
  zeros_more h e = ap zeros (drop-cons t i 0 h) ∙ (ap (λ n. eqb n 0 && zeros (drop (suc i) t)) e
      ∙ ap (λ n. zeros (drop n t)) (sym (add-one i)))

  zeros_stop : i < length t → (get_or t i 0 ≡ 0 → ⊥) → zeros (drop i t) ≡ false
  zeros_stop h n = ap zeros (drop-cons t i 0 h) ∙ ap (λ b. b && zeros (drop (suc i) t)) (ne_eqb (get_or t i 0) 0 n)

  zeros_end : length t ≤ i → zeros (drop i t) ≡ true
  zeros_end h = ap zeros (drop_of_length-le t h)

-- The highest of the first i words: while it is 0, the words are zeros if those from i on are.
pub record Highest (t : List ℕ) (i highest : ℕ) : Type 0 where
  pub none : highest ≡ 0 → zeros t ≡ zeros (drop i t)
  pub some : 0 < highest → zeros t ≡ false

pub highest_start : (t : List ℕ) → Highest t 0 0
highest_start t = record { none = λ e. refl; some = λ h. absurd (omega arith) }

module _ {t : List ℕ} {i highest : ℕ} (k : Highest t i highest) where
  pub highest_more : i < length t → Highest t (i + 1) (max highest (get_or t i 0))
  highest_more h = record {
    none = λ e. k.none (omega (arith, e)) ∙ zeros_more t i h (omega (arith, e));
    some = λ p. ⊎_elim (λ e. k.none e ∙ zeros_stop t i h (λ z. omega (arith, p, e, z))) (λ q. k.some q) (zero_or_more highest);
  }
    where
      zero_or_more : (m : ℕ) → (m ≡ 0) ⊎ (0 < m)
      zero_or_more zero = inl refl
      zero_or_more (suc m) = inr (omega arith)

  pub highest_zero : length t ≤ i → highest ≡ 0 → zeros t ≡ true
  highest_zero h e = k.none e ∙ zeros_end t i h
