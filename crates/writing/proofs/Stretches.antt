-- The facts of one kind stand together in a table, and have as many ids each. Assumes nothing.
use Prim.Native.Nat.{ℕ, ◌+◌, ◌-◌, ◌≤◌, ◌<◌}
use mathlib.Core.Path.{◌≡◌, ap, ◌∙◌}
use mathlib.Core.List.{List}
use native.Mathlib.Omega.{arith}
use native.Mathlib.Decide.{dec_lt}
use lib.ListN.{length, get_or, take, drop, length-take, length-drop}
use lib.Seq.{get_or-take, get_or-drop, length-take-le}
use Rattle.rdfs.specs.Numbers.{product, arity}
use Rattle.rdfs.specs.Words.{filled}
use Rattle.table.specs.Found.{below}
use Rattle.table.specs.Parts.{kind_of, word_of}
use Rattle.table.proofs.Below.{first_within, first_up, first_down}
use Rattle.table.proofs.CountedLaws.{counted_search}
use Rattle.table.proofs.Filled.{filled_within}
use Rattle.writing.specs.Writing.{Writable, Stretch}
use Rattle.writing.proofs.KindCount.{kind_order}

module _ (t : List ℕ) (n : ℕ) (c : Writable t n) where
  -- Before and from the place that a search gives.
  module _ (w p : ℕ) (f : p ≡ below (take n t) w) where
    within : p ≤ n
    within = let ready = counted_search c.counted in omega (arith, f, first_within t n w ready.0 ready.1)

    before : (i : ℕ) → i < p → get_or t i 0 < w
    before i h =
        let ready = counted_search c.counted in
        elim (dec_lt (get_or t i 0) w) [
          | yes q ↦ q
          | no q ↦ absurd (omega (
            arith,
            h,
            f,
            first_down t n w ready.0 ready.1 i (omega (arith, h, within)) (omega (arith, q)),
          ))
        ]

    from : (i : ℕ) → p ≤ i → i < n → w ≤ get_or t i 0
    from i h l =
        let ready = counted_search c.counted in
        elim (dec_lt (get_or t i 0) w) [
          | yes q ↦ absurd (omega (arith, h, f, first_up t n w ready.0 ready.1 i l q))
          | no q ↦ omega (arith, q)
        ]

  -- The facts of kind k, by a search for it and one for the next kind.
  pub kind_stretch : (k i j : ℕ) → i ≡ below (take n t) (word_of k 0 0 0) → j ≡ below (take n t) (word_of (k + 1) 0 0 0)
      → (ids : ℕ) → ids ≡ arity k → Stretch t i j ids
  kind_stretch k i j f g ids e = record {
    order = kind_order t n c k i j f g;
    within = omega (arith, within (word_of (k + 1) 0 0 0) j g, c.counted.size);
    alike = λ p h l.
        let is : k ≡ kind_of (get_or t p 0) = omega (
          arith,
          from (word_of k 0 0 0) i f p h (omega (arith, l, within (word_of (k + 1) 0 0 0) j g)),
          before (word_of (k + 1) 0 0 0) j g p l,
        ) in e ∙ ap arity is;
  }

-- The words of a stretch, lent as a part of the table.
module _ {t : List ℕ} {from to ids : ℕ} (s : Stretch t from to ids) where
  abbrev lent : List ℕ
  lent = take (to - from) (drop from t)

  module _ (i : ℕ) (h : i < length lent) where
    few : i < to - from
    few = omega (arith, h, length-take (to - from) (drop from t))

    pub lent_word : get_or lent i 0 ≡ get_or t (from + i) 0
    lent_word = get_or-take (to - from) (drop from t) i 0 few ∙ get_or-drop from t i 0

    pub lent_inside : (from + i < to) × (from + i < length (filled t))
    lent_inside = (omega (arith, few), omega (arith, few, s.within))

  pub stretch_within : Writable t (length (filled t)) → to ≤ length t
  stretch_within w = omega (arith, s.within, filled_within product t w.counted.laid)

  pub lent_all : Writable t (length (filled t)) → (i : ℕ) → length lent ≤ i → i ≤ length lent → from + i ≡ to
  lent_all w i h l =
      let size : length lent ≡ to - from = length-take-le (to - from) (drop from t)
      (omega (arith, length-drop from t, stretch_within w)) in
      omega (arith, h, l, size, s.order)
