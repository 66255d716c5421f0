-- A walk over the facts of a body, and over the bodies: their words are laid out if the rest is, from above the last word on.
-- Assumes nothing.
use Prim.Native.Nat.{ℕ, suc, ◌+◌, ◌*◌, ◌-◌, ◌≤◌, ◌<◌}
use mathlib.Core.Path.{◌≡◌, sym, ap, ◌∙◌}
use mathlib.Core.Bool.{true, false}
use mathlib.Core.List.{List, ◌∷◌, ◌++◌}
use native.Mathlib.Omega.{arith}
use Rattle.std.specs.Prelude.{Option, Some, None}
use lib.Dec.{lit<}
use Rattle.rdfs.specs.Numbers.{product}
use Rattle.rdfs.specs.Lists.{concat_map}
use Rattle.rdfs.specs.Facts.{made}
use Rattle.rdfs.specs.Words.{is_fact, laid_out}
use Rattle.rdfs.proofs.Words.Digits.{word_some}
use Rattle.table.proofs.LayoutWalks.{laid_on, laid_low, laid_no_fact, zeros_not}
use Rattle.contents.specs.ImageForm.{Form, fact_size, kinds_after}
use Rattle.contents.specs.Reading.{start_at, count_at, id_at, word_at, words_from, words_in, words_of}
use Rattle.contents.specs.BodyRise.{laid_after, RisesTo}
use Rattle.contents.proofs.Linking.{kinds_more, kinds_all, kinds_done}

module _ (F : Form) (bytes : List ℕ) (k : ℕ) where
  word_at_some : (p : ℕ) → 0 < word_at product F bytes k p
  word_at_some p = word_some product.base (made k (id_at F bytes p 0) (id_at F bytes p 1) (id_at F bytes p 2)) (lit< tt)

  -- The first i of the facts from `from` on are facts, ascending up to `top`; the next stands at p.
  pub record Climb (from count last i p top : ℕ) : Type 0 where
    pub within : i ≤ count
    pub place : p ≡ from + fact_size F k * i
    pub rest : (r : List ℕ) → laid_out product (suc last) (words_from product F bytes k count from ++ r) ≡ laid_out product
        (suc top) (words_from product F bytes k (count - i) p ++ r)

  pub climb_start : (from count last : ℕ) → Climb from count last 0 from last
  climb_start from count last = record {
    within = omega arith;
    place = omega arith;
    rest = λ r. let same : count ≡ count - 0 =
        omega arith in ap (λ n. laid_out product (suc last) (words_from product F bytes k n from ++ r)) same;
  }

  module _ {from count last i p top : ℕ} (c : Climb from count last i p top) where
    abbrev left : List ℕ
    left = words_from product F bytes k (count - (i + 1)) (p + fact_size F k)

    split : i < count → (r : List ℕ) → laid_out product (suc last) (words_from product F bytes k count from ++ r) ≡ laid_out
        product (suc top) (word_at product F bytes k p ∷ (left ++ r))
    split h r = let more : count - i ≡ suc (count - (i + 1)) =
        omega arith in c.rest r ∙ ap (λ n. laid_out product (suc top) (words_from product F bytes k n p ++ r)) more

    module _ (h : i < count) (w : ℕ) (e : w ≡ word_at product F bytes k p) where
      some : 0 < w
      some = omega (arith, e, word_at_some p)

      first : (r : List ℕ) → laid_out product (suc last) (words_from product F bytes k count from ++ r) ≡ laid_out product
          (suc top) (w ∷ (left ++ r))
      first r = split h r ∙ ap (λ v. laid_out product (suc top) (v ∷ (left ++ r))) (sym e)

      pub climb_more : top < w → is_fact product w ≡ true → (size : ℕ) → size ≡ fact_size F k
          → Climb from count last (i + 1) (p + size) w
      climb_more u t size s = record {
        within = omega arith;
        place = omega (arith, c.place, s);
        rest = λ r. first r ∙ (laid_on (suc top) w (left ++ r) u some t
            ∙ ap (λ n. laid_out product (suc w) (words_from product F bytes k (count - (i + 1)) (p + n) ++ r)) (sym s));
      }

      pub climb_low : w ≤ top → (r : List ℕ) → RisesTo last (words_from product F bytes k count from) r None
      climb_low u r = first r ∙ (laid_low (suc top) w (left ++ r) (omega arith) ∙ zeros_not (suc top) w (left ++ r) some)

      pub climb_no_fact : is_fact product w ≡ false → (r : List ℕ) → RisesTo last (words_from product F bytes k count from) r
          None
      climb_no_fact t r = first r ∙ (laid_no_fact (suc top) w (left ++ r) t ∙ zeros_not (suc top) w (left ++ r) some)

    pub climb_end : count ≤ i → (r : List ℕ) → RisesTo last (words_from product F bytes k count from) r (Some top)
    climb_end h r = let none : count - i ≡ 0 =
        omega arith in c.rest r ∙ ap (λ n. laid_out product (suc top) (words_from product F bytes k n p ++ r)) none

-- The words of the first `done` kinds are facts, ascending up to `last`.
pub record Climbed (F : Form) (bytes : List ℕ) (done last : ℕ) : Type 0 where
  pub within : done ≤ F.entries
  pub rest : laid_out product 1 (words_of product F bytes) ≡ laid_out product (suc last) (concat_map (words_in product F bytes)
      (kinds_after done (F.entries - done)))

pub climbed_start : (F : Form) (bytes : List ℕ) → Climbed F bytes 0 0
unfolding words_of
climbed_start F bytes = record {
  within = omega arith;
  rest = ap (λ ks. laid_out product 1 (concat_map (words_in product F bytes) ks)) (kinds_all F);
}

-- The body of the next kind, at the place and with the count that its entry gives.
module _ {F : Form} {bytes : List ℕ} {done last : ℕ} (c : Climbed F bytes done last) (h : done < F.entries) (r : Option ℕ)
    (from count : ℕ) (e : from ≡ start_at F bytes (done + 1)) (d : count ≡ count_at F bytes (done + 1)) (f : (rest : List ℕ)
    → RisesTo last (words_from product F bytes (done + 1) count from) rest r) where
  abbrev others : List ℕ
  others = concat_map (words_in product F bytes) (kinds_after (done + 1) (F.entries - (done + 1)))

  next : laid_out product 1 (words_of product F bytes) ≡ laid_after r others
  next =
      let same : words_in product F bytes (done + 1) ≡ words_from product F bytes (done + 1) count from =
      ap (λ n. words_from product F bytes (done + 1) n (start_at F bytes (done + 1))) (sym d)
      ∙ ap (words_from product F bytes (done + 1) count) (sym e) in
      c.rest ∙ (ap (λ ks. laid_out product (suc last) (concat_map (words_in product F bytes) ks)) (kinds_more F.entries
      done h) ∙ (ap (λ l. laid_out product (suc last) (l ++ others)) same ∙ f others))

  pub climbed_more : (w : ℕ) → r ≡ Some w → Climbed F bytes (done + 1) w
  climbed_more w q = record { within = omega arith; rest = next ∙ ap (λ x. laid_after x others) q }

  pub climbed_broken : r ≡ None → laid_out product 1 (words_of product F bytes) ≡ false
  climbed_broken q = next ∙ ap (λ x. laid_after x others) q

pub climbed_end : {F : Form} {bytes : List ℕ} {done last : ℕ} → Climbed F bytes done last → F.entries ≤ done
    → laid_out product 1 (words_of product F bytes) ≡ true
climbed_end {F} {bytes} {done} {last} c h =
    c.rest ∙ ap (λ ks. laid_out product (suc last) (concat_map (words_in product F bytes) ks)) (kinds_done F.entries done
    h)
