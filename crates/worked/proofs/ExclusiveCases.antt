-- Worked examples of exclusive properties, computed on the definitions: one holder of a value, properties over one another, links
-- that would join values, deletions. Assumes nothing.
use Prim.Native.Nat.{ℕ}
use mathlib.Core.Path.{◌≡◌, refl}
use mathlib.Core.List.{List, [], ◌∷◌}
use Rattle.rdfs.specs.Numbers.{product}
use Rattle.rdfs.specs.Words.{fresh}
use Rattle.rdfs.specs.Demands.{by18, by20, by22, by23, by24, by25, by26, by27, needs}
use Rattle.rdfs.specs.Clashes.{bars, unequal, exists_for, is_consistent}
use Rattle.rdfs.specs.Insertion.{closure, insertion}
use Rattle.rdfs.specs.Deletion.{goes, deletion}
use Rattle.rdfs.specs.Register.{step, run, register}

-- Properties 40, 41 and 42; individuals 30 and 31; 32 is the value that they would share.
abbrev holders : List ℕ
holders =
    1 ∷ 11 ∷ 40 ∷ 0 ∷ 0 ∷  -- Excl of no property
    1 ∷ 2 ∷ 40 ∷ 0 ∷ 0 ∷
    1 ∷ 2 ∷ 41 ∷ 0 ∷ 0 ∷
    1 ∷ 2 ∷ 42 ∷ 0 ∷ 0 ∷
    1 ∷ 6 ∷ 40 ∷ 41 ∷ 0 ∷  -- 40 under 41
    1 ∷ 10 ∷ 30 ∷ 32 ∷ 40 ∷  -- 30 holds 32 through 40, and so through 41
    1 ∷ 11 ∷ 41 ∷ 0 ∷ 0 ∷  -- 41 is exclusive
    1 ∷ 10 ∷ 31 ∷ 32 ∷ 40 ∷  -- a second holder, by the property above
    1 ∷ 10 ∷ 30 ∷ 32 ∷ 40 ∷  -- a repeat
    1 ∷ 10 ∷ 31 ∷ 32 ∷ 42 ∷  -- through another property
    1 ∷ 6 ∷ 42 ∷ 41 ∷ 0 ∷  -- a link that would join 31 and 30 in 41
    1 ∷ 11 ∷ 42 ∷ 0 ∷ 0 ∷
    2 ∷ 6 ∷ 40 ∷ 41 ∷ 0 ∷  -- 40 no longer under 41
    1 ∷ 10 ∷ 31 ∷ 32 ∷ 40 ∷  -- the second holder, through 40
    1 ∷ 11 ∷ 40 ∷ 0 ∷ 0 ∷  -- Excl of a property with two holders
    1 ∷ 6 ∷ 40 ∷ 42 ∷ 0 ∷  -- a link from it to an exclusive property
    2 ∷ 2 ∷ 41 ∷ 0 ∷ 0 ∷  -- a property, its value and its Excl
    []

-- A port (8) that containers (6 and 7) poll (5): the second is refused until Excl is deleted; then Excl is refused.
abbrev pollers : List ℕ
pollers =
    1 ∷ 2 ∷ 5 ∷ 2 ∷ 3 ∷
    1 ∷ 11 ∷ 5 ∷ 0 ∷ 0 ∷
    1 ∷ 10 ∷ 6 ∷ 8 ∷ 5 ∷
    1 ∷ 10 ∷ 7 ∷ 8 ∷ 5 ∷
    2 ∷ 11 ∷ 5 ∷ 0 ∷ 0 ∷
    1 ∷ 10 ∷ 7 ∷ 8 ∷ 5 ∷
    1 ∷ 11 ∷ 5 ∷ 0 ∷ 0 ∷
    2 ∷ 10 ∷ 6 ∷ 8 ∷ 5 ∷
    1 ∷ 11 ∷ 5 ∷ 0 ∷ 0 ∷
    2 ∷ 1 ∷ 3 ∷ 0 ∷ 0 ∷ []  -- the class of ports, with it the property and its Excl

-- On a table that is full with Excl in it: a repeat changes nothing, a second holder is a clash.
abbrev full : List ℕ
full = 1 ∷ 2 ∷ 5 ∷ 0 ∷ 0 ∷ 1 ∷ 11 ∷ 5 ∷ 0 ∷ 0 ∷ 1 ∷ 10 ∷ 6 ∷ 8 ∷ 5 ∷ 1 ∷ 11 ∷ 5 ∷ 0 ∷ 0 ∷ 1 ∷ 10 ∷ 7 ∷ 8 ∷ 5 ∷ []

pub worked_exclusive :
    ((register product (fresh product 25) holders).numbers ≡
    9 ∷ 0 ∷ 0 ∷ 0 ∷ 0 ∷ 0 ∷ 0 ∷ 10 ∷ 0 ∷ 0 ∷ 10 ∷ 0 ∷ 0 ∷ 0 ∷ 10 ∷ 10 ∷ 0 ∷ [])
    × ((register product (fresh product 25) holders).counts ≡
    0 ∷ 0 ∷ 3 ∷ 0 ∷ 3 ∷ 0 ∷ 3 ∷ 0 ∷ 1 ∷ 0 ∷ 6 ∷ 0 ∷ 1 ∷ 0 ∷ 0 ∷ 0 ∷ 0 ∷ 0 ∷ 3 ∷ 0 ∷ 0 ∷ 0 ∷ 1 ∷ 0 ∷ 0 ∷ 1 ∷ 1 ∷ 0 ∷ 0 ∷ 0 ∷
    0 ∷ 0 ∷ 0 ∷ 5 ∷ [])
    × (register product (fresh product 25) pollers ≡ record {
      numbers = 0 ∷ 0 ∷ 0 ∷ 10 ∷ 0 ∷ 0 ∷ 10 ∷ 0 ∷ 0 ∷ 0 ∷ [];
      counts = 7 ∷ 0 ∷ 1 ∷ 0 ∷ 7 ∷ 0 ∷ 0 ∷ 0 ∷ 0 ∷ 1 ∷ 4 ∷ 0 ∷ 0 ∷ 0 ∷ 0 ∷ 1 ∷ 1 ∷ 0 ∷ 0 ∷ 8 ∷ [];
      table = 0x01000000 ∷ 0x01020000 ∷ 0x03060000 ∷ 0x03070000 ∷ 0x03080000 ∷ 0x05020000 ∷ 0x09060000 ∷ 0x09060200 ∷
          0x09070000 ∷ 0x09070200 ∷ 0x09080000 ∷ 0 ∷ 0 ∷ 0 ∷ 0 ∷ 0 ∷ 0 ∷ 0 ∷ 0 ∷ 0 ∷ 0 ∷ 0 ∷ 0 ∷ 0 ∷ 0 ∷ [];
    })
    × ((register product (fresh product 10) full).numbers ≡ 0 ∷ 0 ∷ 0 ∷ 0 ∷ 10 ∷ [])
unfolding by18 by20 by22 by23 by24 by25 by26 by27 needs bars unequal exists_for is_consistent closure insertion goes deletion step
    run register
worked_exclusive = (refl, refl, refl, refl)
