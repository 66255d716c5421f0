-- A number read byte by byte, from its last byte to its first. Assumes nothing.
use Prim.Native.Nat.{ℕ, suc, ◌+◌, ◌*◌, ◌-◌, ◌^◌, ◌≤◌, ◌<◌}
use mathlib.Core.Path.{◌≡◌, sym, ap, ◌∙◌}
use mathlib.Core.List.{List}
use native.Mathlib.Omega.{arith}
use lib.ListN.{length, get_or, take}
use lib.Seq.{drop-cons}
use Rattle.contents.specs.ImageForm.{byte_values, from_bytes}
use Rattle.contents.specs.Legible.{widest}
use Rattle.contents.specs.Reading.{number_at}
use Rattle.contents.proofs.InBytes.{AllBytes, number_bound}
use Rattle.contents.proofs.FormBounds.{values_mono}

-- One byte more, in front.
number_more : (bytes : List ℕ) (i n : ℕ) → i < length bytes
    → number_at (suc n) bytes i ≡ number_at n bytes (suc i) * 256 + get_or bytes i 0
number_more bytes i n h = ap (λ l. from_bytes (take (suc n) l)) (drop-cons bytes i 0 h) ∙ omega arith

-- The value of the last bytes, all but the first `left` of `size`.
pub record Summed (bytes : List ℕ) (place size left value : ℕ) : Type 0 where
  pub within : left ≤ size
  pub so_far : value ≡ number_at (size - left) bytes (place + left)

pub summed_start : (bytes : List ℕ) (place size : ℕ) → Summed bytes place size size 0
summed_start bytes place size =
    let none : 0 ≡ size - size = omega arith in
    record { within = omega arith; so_far = ap (λ n. number_at n bytes (place + size)) none }

module _ {bytes : List ℕ} {place size left value : ℕ} (s : Summed bytes place size left value) where
  pub summed_small : AllBytes bytes → 0 < left → size ≤ widest → value < byte_values ^ 3
  summed_small b h few =
      let bound = number_bound (size - left) bytes b (place + left) in
      omega (arith, s.so_far, bound, values_mono (size - left) 3 (omega arith))

  pub summed_more : place + size ≤ length bytes → 0 < left → (byte : ℕ) → byte ≡ get_or bytes (place + (left - 1)) 0
      → Summed bytes place size (left - 1) (value * 256 + byte)
  summed_more room h byte e =
      let more : size - (left - 1) ≡ suc (size - left) = omega (arith, s.within) in
      let next : place + left ≡ suc (place + (left - 1)) = omega arith in
      record {
        within = omega (arith, s.within);
        so_far = ap (λ v. v * 256 + byte) (s.so_far ∙ ap (number_at (size - left) bytes) next)
            ∙ (ap (λ v. number_at (size - left) bytes (suc (place + (left - 1))) * 256 + v) e
            ∙ (sym (number_more bytes (place + (left - 1)) (size - left) (omega (arith, s.within)))
            ∙ ap (λ n. number_at n bytes (place + (left - 1))) (sym more)));
      }

  pub summed_all : left ≡ 0 → value ≡ number_at size bytes place
  summed_all e =
      let all : size - left ≡ size = omega arith in
      let here : place + left ≡ place = omega arith in
      s.so_far ∙ (ap (λ n. number_at n bytes (place + left)) all ∙ ap (number_at size bytes) here)
