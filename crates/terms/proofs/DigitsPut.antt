-- A number in decimal put over lent bytes: its last digit behind the others. Assumes nothing.
use Prim.Native.Nat.{ℕ, ◌+◌, ◌/◌, ◌%◌, ◌≤◌, ◌<◌}
use mathlib.Core.Path.{sym}
use mathlib.Core.List.{List, [], ◌∷◌}
use native.Mathlib.Omega.{arith}
use lib.ListN.{length, set}
use Rattle.terms.specs.Terms.{decimal}
use Rattle.terms.specs.Putting.{Room, Puts}
use Rattle.terms.proofs.Decimal.{decimal_one, decimal_more}
use Rattle.terms.proofs.DigitCount.{count_one, count_more}
use Rattle.terms.proofs.Putting.{puts_byte, puts_same, puts_length, room_same, puts_behind}

-- One digit.
module _ (out : List ℕ) (at n : ℕ) (room : Room out at (decimal n)) (h : n < 10) where
  pub one_room : at < length out
  one_room = omega (arith, room, count_one n h)

  pub one_put : Puts out at (decimal n) (set out at (48 + n)) (at + 1)
  one_put = puts_same (sym (decimal_one n h)) (puts_byte out at (48 + n) one_room)

-- More digits.
module _ (out : List ℕ) (at n : ℕ) (room : Room out at (decimal n)) (h : 10 ≤ n) where
  pub more_room : Room out at (decimal (n / 10))
  more_room = omega (arith, room, count_more n h)

  module _ {mid : List ℕ} {last : ℕ} (p : Puts out at (decimal (n / 10)) mid last) where
    pub more_place : last < length mid
    more_place = omega (arith, room, count_more n h, p.end, puts_length (decimal (n / 10)) p more_room)

    pub more_put : Puts out at (decimal n) (set mid last (48 + n % 10)) (last + 1)
    more_put = puts_same (sym (decimal_more n h))
        (puts_behind (decimal (n / 10)) ((48 + n % 10) ∷ []) (room_same out at (decimal_more n h) room) p
        (puts_byte mid last (48 + n % 10) more_place))
