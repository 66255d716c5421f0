-- A number stored byte by byte, from its first byte on. Assumes nothing.
use Prim.Native.Nat.{ℕ, zero, suc, ◌+◌, ◌-◌, ◌/◌, ◌%◌, ◌^◌, ◌≤◌, ◌<◌}
use mathlib.Core.Path.{◌≡◌, refl, sym, ap, subst, ◌∙◌}
use mathlib.Core.List.{List, [], ◌∷◌, ◌++◌, append_assoc}
use native.Mathlib.Omega.{arith}
use native.Mathlib.Nat.{pow-succ'}
use native.Mathlib.Numerals.{add-one}
use lib.ListN.{length, get_or, set, take, drop}
use lib.Seq.{drop-drop, get_or-drop, take_all, paste, paste-zero, paste-suc, length-paste}
use Rattle.contents.specs.ImageForm.{in_bytes}
use Rattle.contents.proofs.InBytes.{in_bytes_length}
use Rattle.table.specs.Overlay.{over}

-- The first byte, then the others.
bytes_next : (n x : ℕ) → x < 256 ^ suc n → in_bytes (suc n) x ≡ (x % 256) ∷ in_bytes n (x / 256)
bytes_next zero x h = let same : x ≡ x % 256 = omega (arith, h) in ap (λ y. y ∷ []) same
bytes_next (suc n) x h = refl

-- The first i bytes of a number are stored; the others are those of `rest`.
pub record BytesPut (out₀ : List ℕ) (at value size : ℕ) (out : List ℕ) (i rest : ℕ) : Type 0 where
  pub within : i ≤ size
  pub so_far : out ≡ paste out₀ at (in_bytes size value) i
  pub others : drop i (in_bytes size value) ≡ in_bytes (size - i) rest
  pub small : rest < 256 ^ (size - i)

pub bytes_start : (out : List ℕ) (at value size : ℕ) → value < 256 ^ size → BytesPut out at value size out 0 value
bytes_start out at value size h =
    let all : size ≡ size - 0 = omega arith in
    record {
      within = omega arith;
      so_far = paste-zero out at (in_bytes size value);
      others = ap (λ n. in_bytes n value) all;
      small = subst (λ n. value < 256 ^ n) all h;
    }

module _ {out₀ : List ℕ} {at value size : ℕ} {out : List ℕ} {i rest : ℕ} (b : BytesPut out₀ at value size out i rest)
    (room : at + size ≤ length out₀) where
  abbrev bytes : List ℕ
  bytes = in_bytes size value

  pub bytes_length : length out ≡ length out₀
  bytes_length = ap length b.so_far ∙ length-paste out₀ at bytes i (omega (arith, b.within))
      (omega (arith, b.within, in_bytes_length size value))

  pub bytes_more : i < size → BytesPut out₀ at value size (set out (at + i) (rest % 256)) (i + 1) (rest / 256)
  bytes_more h =
      let more : size - i ≡ suc (size - (i + 1)) = omega arith in
      let left : ℕ = size - (i + 1) in
      let fits : rest < 256 ^ suc left = subst (λ n. rest < 256 ^ n) more b.small in
      let next : drop i bytes ≡ (rest % 256) ∷ in_bytes left (rest / 256) =
      b.others ∙ (ap (λ n. in_bytes n rest) more ∙ bytes_next left rest fits) in
      let zeroth : i + 0 ≡ i = omega arith in
      let first : rest % 256 ≡ get_or bytes i 0 =
      sym (ap (λ l. get_or l 0 0) next) ∙ (get_or-drop i bytes 0 0 ∙ ap (λ n. get_or bytes n 0) zeroth) in
      record {
        within = omega arith;
        so_far = ap (λ l. set l (at + i) (rest % 256)) b.so_far ∙ (ap (set (paste out₀ at bytes i) (at + i)) first
            ∙ (paste-suc out₀ at bytes i 0 (omega arith) (omega (arith, in_bytes_length size value))
            ∙ ap (paste out₀ at bytes) (sym (add-one i))));
        others = sym (drop-drop 1 i bytes) ∙ ap (drop 1) next;
        small = omega (arith, fits, pow-succ' 256 left);
      }

  pub bytes_all : size ≤ i → out ≡ over out₀ at bytes
  bytes_all h =
      let all : i ≡ size = omega (arith, b.within) in
      let long : length bytes ≡ size = in_bytes_length size value in
      b.so_far ∙ (ap (paste out₀ at bytes) all
      ∙ (ap (λ l. (take at out₀ ++ l) ++ drop (at + size) out₀) (take_all size bytes (omega (arith, long)))
      ∙ (append_assoc (take at out₀) bytes (drop (at + size) out₀)
      ∙ ap (λ n. take at out₀ ++ (bytes ++ drop (at + n) out₀)) (sym long))))
