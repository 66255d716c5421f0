-- Where the words with one kind and the same first two ids start. Assumes nothing.
use Prim.Native.Nat.{ℕ, ◌-◌, ◌/◌, ◌<◌}
use mathlib.Core.Path.{◌≡◌, refl, subst, sym}
use mathlib.Core.Logic.{⊎_elim}
use mathlib.Core.List.{List}
use native.Mathlib.Nat.{eq-or-lt_of_le}
use native.Mathlib.Omega.{arith}
use Rattle.rdfs.specs.Numbers.{product}
use Rattle.spans.specs.Spans.{at, Before}
use Rattle.spans.specs.Passes.{group_of, GroupStart, GroupSoFar}
use Rattle.spans.proofs.SpanPlaces.{words_ascend}

-- A word without its third id, as a quotient.
abbrev head : ℕ → ℕ
head w = w / product.base

same_head : (v w : ℕ) → head v ≡ head w → group_of v ≡ group_of w
same_head v w e = omega arith

other_head : (v w x : ℕ) → v < w → (head v ≡ head w → ⊥) → group_of v ≡ group_of x → x < group_of w
other_head v w x h n e = omega arith

module _ {t : List ℕ} (i g : ℕ) (G : GroupSoFar t i g) where
  pub group_goes_on : head (at t g) ≡ head (at t i) → GroupStart t i g
  group_goes_on e = record {
    within = G.within;
    same = same_head (at t g) (at t i) e;
    before = ⊎_elim (λ q. subst (λ m. Before t m (group_of (at t i))) (sym q) (G.first q)) (λ l k b. omega (
      arith,
      (G.last l).before k b,
      (G.last l).same,
      same_head (at t g) (at t i) e,
    )) (eq-or-lt_of_le G.within);
  }

  pub group_begins : (head (at t g) ≡ head (at t i) → ⊥) → GroupStart t i i
  group_begins n = record {
    within = omega arith;
    same = refl;
    before = ⊎_elim G.first (λ l k b. omega (
      arith,
      words_ascend G.words k (i - 1) (omega arith) (omega (arith, G.here)),
      other_head (at t g) (at t i) (at t (i - 1)) (G.words.ascending g i l G.here) n (G.last l).same,
    )) (eq-or-lt_of_le G.within);
  }
