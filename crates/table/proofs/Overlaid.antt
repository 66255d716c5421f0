-- A run written over a lent one, from its first number on. Assumes nothing.
use Prim.Native.Nat.{ℕ, ◌+◌, ◌-◌, ◌≤◌}
use mathlib.Core.Path.{◌≡◌, refl, sym, ap, ◌∙◌}
use mathlib.Core.List.{List, [], ◌∷◌, ◌++◌, append_assoc}
use native.Mathlib.Omega.{arith}
use native.Mathlib.Numerals.{add-one}
use lib.ListN.{length, set, take, drop, length-append, length-drop}
use lib.Seq.{take_at, drop_at, drop-drop, drop-append-add, take-add, take-length, length-take-le, sets-eq}
use Rattle.table.specs.Overlay.{over, Overlaid}

module _ {image out₀ out : List ℕ} {at : ℕ} (o : Overlaid image out₀ out at) where
  firsts : length (take at image) ≡ at
  firsts = length-take-le at image o.within

  pub overlaid_length : at ≤ length out₀ → length out ≡ length out₀
  overlaid_length room = ap length o.so_far ∙ (length-append (take at image) (drop at out₀)
      ∙ omega (arith, firsts, length-drop at out₀, room))

  pub overlaid_after : (n : ℕ) → drop (at + n) out ≡ drop (at + n) out₀
  overlaid_after n =
      let place : at + n ≡ length (take at image) + n = omega (arith, firsts) in
      ap (drop (at + n)) o.so_far ∙ (ap (λ m. drop m (take at image ++ drop at out₀)) place
      ∙ (drop-append-add (take at image) (drop at out₀) n ∙ drop-drop n at out₀))

  -- More of it over what is there now.
  pub overlaid_trans : {out' : List ℕ} {end : ℕ} → Overlaid image out out' end → at ≤ end → Overlaid image out₀ out' end
  overlaid_trans {end = end} p h =
      let split : at + (end - at) ≡ end = omega arith in
      record {
        within = p.within;
        so_far = p.so_far ∙ ap (λ l. take end image ++ l) (ap (λ n. drop n out) (sym split)
            ∙ (overlaid_after (end - at) ∙ ap (λ n. drop n out₀) split));
      }

  -- The same over the bytes as they are now.
  pub overlaid_self : Overlaid image out out at
  overlaid_self = record {
    within = o.within;
    so_far = o.so_far ∙ ap (λ l. take at image ++ l) (sym (ap (drop at) o.so_far
        ∙ drop_at (take at image) (drop at out₀) at firsts));
  }

  pub overlaid_more : (new rest : List ℕ) → drop at image ≡ new ++ rest → (out' : List ℕ) → out' ≡ over out at new
      → Overlaid image out₀ out' (at + length new)
  overlaid_more new rest e out' q =
      let n : ℕ = length new in
      let low : take at out ≡ take at image = ap (take at) o.so_far ∙ take_at (take at image) (drop at out₀) at firsts in
      let more : take (at + n) image ≡ take at image ++ new =
      take-add at n image ∙ ap (λ l. take at image ++ l) (ap (take n) e ∙ take_at new rest n refl) in
      record {
        within = omega (arith, o.within, length-drop at image, ap length e, length-append new rest);
        so_far = q ∙ (ap (λ l. l ++ (new ++ drop (at + n) out)) low ∙ (ap (λ l. take at image ++ (new ++ l)) (overlaid_after n)
            ∙ (sym (append_assoc (take at image) new (drop (at + n) out₀)) ∙ ap (λ l. l ++ drop (at + n) out₀) (sym more))));
      }

  pub overlaid_all : length image ≤ at → out ≡ image ++ drop (length image) out₀
  overlaid_all h =
      let all : at ≡ length image = omega (arith, o.within) in
      o.so_far ∙ (ap (λ n. take n image ++ drop n out₀) all ∙ ap (λ l. l ++ drop (length image) out₀) (take-length image))

-- Two stores, one after the other.
pub two_stores : (l : List ℕ) (i a b : ℕ) → i + 2 ≤ length l → set (set l i a) (i + 1) b ≡ over l i (a ∷ b ∷ [])
two_stores l i a b h = ap (λ n. set (set l i a) n b) (add-one i) ∙ (sets-eq (a ∷ b ∷ []) l i h
    ∙ append_assoc (take i l) (a ∷ b ∷ []) (drop (i + 2) l))

-- Numbers in place of others, and more behind them.
module _ (l : List ℕ) (i : ℕ) (new : List ℕ) (h : i + length new ≤ length l) where
  split : over l i new ≡ (take i l ++ new) ++ drop (i + length new) l
  split = sym (append_assoc (take i l) new (drop (i + length new) l))

  long : length (take i l ++ new) ≡ i + length new
  long = length-append (take i l) new ∙ omega (arith, length-take-le i l (omega arith))

  pub over_length : length (over l i new) ≡ length l
  over_length = ap length split ∙ (length-append (take i l ++ new) (drop (i + length new) l)
      ∙ omega (arith, long, length-drop (i + length new) l))

  pub over_more : (more : List ℕ) → over (over l i new) (i + length new) more ≡ over l i (new ++ more)
  over_more more =
      let at : ℕ = i + length new in
      let first : take at (over l i new) ≡ take i l ++ new =
      ap (take at) split ∙ take_at (take i l ++ new) (drop at l) at long in
      let behind : drop at (over l i new) ≡ drop at l = ap (drop at) split ∙ drop_at (take i l ++ new) (drop at l) at long in
      let last : drop (at + length more) (over l i new) ≡ drop (at + length more) l =
      sym (drop-drop (length more) at (over l i new)) ∙ (ap (drop (length more)) behind ∙ drop-drop (length more) at l) in
      let place : at + length more ≡ i + length (new ++ more) = omega (arith, length-append new more) in
      ap (λ m. m ++ (more ++ drop (at + length more) (over l i new))) first
      ∙ (ap (λ m. (take i l ++ new) ++ (more ++ m)) (last ∙ ap (λ n. drop n l) place)
      ∙ (append_assoc (take i l) new (more ++ drop (i + length (new ++ more)) l)
      ∙ ap (λ m. take i l ++ m) (sym (append_assoc new more (drop (i + length (new ++ more)) l)))))
