-- The bytes of an entry, stored part by part. Assumes nothing.
use Prim.Native.Nat.{ℕ, ◌+◌, ◌≤◌}
use mathlib.Core.Path.{◌≡◌, sym, ap, ◌∙◌}
use mathlib.Core.List.{List, [], ◌∷◌, ◌++◌, append-nil, append_assoc}
use native.Mathlib.Omega.{arith}
use lib.ListN.{length, set, length-append}
use Rattle.contents.specs.ImageForm.{Form, fact_size, entry_size, entry_at, in_bytes}
use Rattle.contents.specs.Image.{entry}
use Rattle.contents.proofs.InBytes.{in_bytes_length}
use Rattle.table.specs.Overlay.{over}
use Rattle.table.proofs.Overlaid.{two_stores, over_more}

module _ (F : Form) (out : List ℕ) (k start count : ℕ) (room : entry_at F k + entry_size F ≤ length out) where
  abbrev s : ℕ
  s = F.field_size

  -- Two stores, then two numbers.
  pub entry_put : (at : ℕ) → at ≡ entry_at F k → (size : ℕ) → size ≡ fact_size F k → (out₁ out₂ : List ℕ)
      → out₁ ≡ over (set (set out at k) (at + 1) size) (at + 2) (in_bytes s start)
      → out₂ ≡ over out₁ (at + 2 + s) (in_bytes s count) → out₂ ≡ over out (entry_at F k) (entry F k start count)
  entry_put at e size z out₁ out₂ p q =
      let head : List ℕ = k ∷ size ∷ [] in
      let first : List ℕ = in_bytes s start in
      let second : List ℕ = in_bytes s count in
      let long : length (head ++ first) ≡ 2 + s = length-append head first ∙ omega (arith, in_bytes_length s start) in
      let one : out₁ ≡ over out at (head ++ first) =
      p ∙ (ap (λ l. over l (at + 2) first) (two_stores out at k size (omega (arith, e, room)))
      ∙ over_more out at head (omega (arith, e, room)) first) in
      let place : at + 2 + s ≡ at + length (head ++ first) = omega (arith, long) in
      let two : out₂ ≡ over out at ((head ++ first) ++ second) =
      q ∙ (ap (λ l. over l (at + 2 + s) second) one ∙ (ap (λ n. over (over out at (head ++ first)) n second) place
      ∙ over_more out at (head ++ first) (omega (arith, e, long, room)) second)) in
      let all : (head ++ first) ++ second ≡ entry F k start count =
      append_assoc head first second ∙ (ap (λ l. k ∷ size ∷ (first ++ l)) (sym (append-nil second))
      ∙ ap (λ n. k ∷ n ∷ (first ++ (second ++ []))) z) in
      two ∙ (ap (over out at) all ∙ ap (λ i. over out i (entry F k start count)) e)
