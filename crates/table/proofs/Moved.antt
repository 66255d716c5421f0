-- Words moved one place up, and zeros stored from a place on. Assumes nothing.
use Prim.Native.Nat.{ℕ, suc, ◌+◌, ◌-◌, ◌≤◌, ◌<◌}
use mathlib.Core.Path.{◌≡◌, ap, ◌∙◌}
use mathlib.Core.List.{List, [], ◌∷◌, ◌++◌, append_assoc, append-nil}
use native.Mathlib.Omega.{arith}
use lib.ListN.{length, get_or, take, drop, set, replicate, drop_of_length-le, length-drop}
use lib.Seq.{take-suc, set_at, length-take-le}
use borrow.Rule.Slice.PartMut.{put_mid}
use Rattle.std.specs.List.{copy_within}
use Rattle.table.specs.Room.{put_at, cleared_from}

-- Of n words, those from place k on stand one place up; the word at k stands there still.
abbrev pub moved_from : List ℕ → ℕ → ℕ → List ℕ
moved_from t n k = take (suc k) t ++ (take (n - k) (drop k t) ++ drop (suc n) t)

pub moved_within : (t : List ℕ) (n k : ℕ) → k ≤ n → copy_within t k n (suc k) ≡ moved_from t n k
moved_within t n k h =
    let end : suc k + (n - k) ≡ suc n = omega arith in
    ap (λ m. (take (suc k) t ++ take (n - k) (drop k t)) ++ drop m t) end
    ∙ append_assoc (take (suc k) t) (take (n - k) (drop k t)) (drop (suc n) t)

module _ (t : List ℕ) (n k : ℕ) (h : k < length t) where
  later : List ℕ
  later = take (n - k) (drop k t) ++ drop (suc n) t

  -- The word at k is the last of the first part.
  parted : moved_from t n k ≡ take k t ++ (get_or t k 0 ∷ later)
  unfolding later
  parted = ap (λ l. l ++ later) (take-suc t k 0 h) ∙ append_assoc (take k t) (get_or t k 0 ∷ []) later

  pub moved_set : (w : ℕ) → set (moved_from t n k) k w ≡ put_at t n k w
  unfolding later
  moved_set w = ap (λ l. set l k w) parted ∙ set_at (take k t) (get_or t k 0) later w k (length-take-le k t (omega arith))

-- Zeros stored in the part from place k on, as `fill` does.
pub cleared_part : (t : List ℕ) (k : ℕ) {x : List ℕ} → k ≤ length t
    → x ≡ replicate (length (take (length t - k) (drop k t))) 0 → put_mid k (length t - k) t x ≡ cleared_from t k
cleared_part t k {x} h e =
    let part : length (take (length t - k) (drop k t)) ≡ length t - k =
    length-take-le (length t - k) (drop k t) (omega (arith, length-drop k t)) in
    let rest : drop (length t - k) (drop k t) ≡ [] =
    drop_of_length-le (drop k t) {i = length t - k} (omega (arith, length-drop k t)) in
    ap (λ l. take k t ++ (x ++ l)) rest ∙ ap (λ l. take k t ++ l) (append-nil x ∙ e ∙ ap (λ m. replicate m 0) part)
