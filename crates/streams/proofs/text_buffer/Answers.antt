-- `text_buffer`: the length of a list of zeros, by the law; it is too long to be counted. Assumes nothing.
use Prim.Native.Nat.{ℕ}
use mathlib.Core.Path.{◌≡◌, sym}
use lib.ListN.{length, replicate, length-replicate}
use Rattle.streams.proofs.text_buffer.Goals as goal

zeros_long : (n : ℕ) → n ≡ length (replicate {A = ℕ} n 0)
zeros_long n = sym (length-replicate {A = ℕ} n 0)

pub returns : goal.returns
returns c =
    record {
      length = zeros_long 1048577;
    }
