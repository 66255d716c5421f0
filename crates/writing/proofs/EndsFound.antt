-- The ends of a table's kinds, found kind by kind. Assumes nothing.
use Prim.Native.Nat.{ℕ, ◌+◌, ◌≤◌, ◌<◌}
use mathlib.Core.Path.{◌≡◌, refl, sym, ap, ◌∙◌}
use mathlib.Core.List.{List}
use native.Mathlib.Omega.{arith}
use native.Mathlib.Decide.{dec_lt}
use lib.ListN.{length, get_or, set, take, length-set}
use lib.Seq.{get_or-set_same, get_or-set_other}
use Rattle.table.specs.Found.{below}
use Rattle.table.specs.Parts.{word_of}
use Rattle.contents.specs.ImageForm.{Form}
use Rattle.writing.specs.KindEnds.{KindEndsOf}
use Rattle.writing.specs.Writing.{Writable}
use Rattle.writing.proofs.KindCount.{kind_first}

module _ (t : List ℕ) (n : ℕ) where
  -- The ends of the kinds up to `done`.
  pub record Found (ends₀ ends : List ℕ) (done : ℕ) : Type 0 where
    pub long : length ends ≡ length ends₀
    pub so_far : (k : ℕ) → k ≤ done → get_or ends k 0 ≡ below (take n t) (word_of (k + 1) 0 0 0)

  pub found_start : Writable t n → (ends : List ℕ) → get_or ends 0 0 ≡ 0 → Found ends ends 0
  found_start c ends e = record {
    long = refl;
    so_far = λ k h. let none : k ≡ 0 = omega arith in
        ap (λ i. get_or ends i 0) none ∙ (e ∙ (kind_first t n c ∙ ap (λ i. below (take n t) (word_of (i + 1) 0 0 0)) (sym none)));
  }

  module _ {ends₀ ends : List ℕ} {done : ℕ} (f : Found ends₀ ends done) where
    pub found_more : done + 1 < length ends₀ → (to : ℕ) → to ≡ below (take n t) (word_of (done + 1 + 1) 0 0 0)
        → Found ends₀ (set ends (done + 1) to) (done + 1)
    found_more h to e = record {
      long = length-set ends (done + 1) to ∙ f.long;
      so_far = λ k l. elim (dec_lt k (done + 1)) [
        | yes q ↦ get_or-set_other ends (done + 1) k to 0 (λ z. omega (arith, q, z)) ∙ f.so_far k (omega (arith, q))
        | no q ↦ let same : k ≡ done + 1 = omega (arith, q, l) in
            ap (λ i. get_or (set ends (done + 1) to) i 0) same
            ∙ (get_or-set_same ends (done + 1) to 0 (omega (arith, h, f.long))
            ∙ (e ∙ ap (λ i. below (take n t) (word_of (i + 1) 0 0 0)) (sym same)))
      ];
    }

    pub found_all : (F : Form) → F.entries ≤ done → F.entries < length ends₀ → KindEndsOf F t n ends
    found_all F h l = record { places = omega (arith, l, f.long); at = λ k m. f.so_far k (omega (arith, h, m)) }
