-- Worked examples of operators' tickets, computed on the definitions: the refusals in their order, what goes in and out, and what
-- stays. Assumes nothing.
use Prim.Native.Nat.{ℕ}
use mathlib.Core.Path.{◌≡◌, refl}
use mathlib.Core.Bool.{true}
use mathlib.Core.List.{List, [], ◌∷◌}
use Rattle.rdfs.specs.Numbers.{product}
use Rattle.rdfs.specs.Words.{fresh}
use Rattle.rdfs.specs.Demands.{by18, by20, by22, by23, by24, by25, by26, by27, needs}
use Rattle.rdfs.specs.Clashes.{bars, unequal, exists_for, is_consistent}
use Rattle.rdfs.specs.Insertion.{closure, insertion}
use Rattle.rdfs.specs.Deletion.{goes, deletion}
use Rattle.rdfs.specs.Register.{step, run_with, run, register}
use Rattle.rdfs.specs.Operators.{operator_step, register_as}

-- On a fresh table, all as operators' tickets.
abbrev orders : List ℕ
orders =
    1 ∷ 3 ∷ 50 ∷ 0 ∷ 0 ∷  -- an individual
    1 ∷ 2 ∷ 51 ∷ 0 ∷ 0 ∷  -- a property
    1 ∷ 9 ∷ 50 ∷ 0 ∷ 0 ∷  -- a membership that is there
    2 ∷ 9 ∷ 50 ∷ 0 ∷ 0 ∷  -- 8: a membership in Resource
    2 ∷ 1 ∷ 0 ∷ 0 ∷ 0 ∷  -- 17, though 8 holds: Cl(0)
    1 ∷ 1 ∷ 1 ∷ 51 ∷ 0 ∷  -- 7, though 17 holds: the mark
    1 ∷ 10 ∷ 50 ∷ 51 ∷ 0 ∷  -- 9: Resource is no property
    1 ∷ 7 ∷ 50 ∷ 0 ∷ 0 ∷  -- 6: Dom is no ticket
    1 ∷ 11 ∷ 50 ∷ 0 ∷ 0 ∷  -- 17, though 9 holds
    1 ∷ 9 ∷ 50 ∷ 60 ∷ 0 ∷  -- 16: 60 is no class
    1 ∷ 1 ∷ 50 ∷ 0 ∷ 0 ∷  -- 17, though 10 holds: 50 is an individual
    1 ∷ 1 ∷ []  -- 4

-- A plant by anyone: class 3 under 2, property 5 from 2 to literals, exclusive.
abbrev plant : List ℕ
plant = 1 ∷ 5 ∷ 3 ∷ 2 ∷ 0 ∷ 1 ∷ 2 ∷ 5 ∷ 2 ∷ 1 ∷ 1 ∷ 11 ∷ 5 ∷ 0 ∷ 0 ∷ []

-- Then by an operator.
abbrev shift : List ℕ
shift =
    1 ∷ 9 ∷ 4 ∷ 3 ∷ 0 ∷  -- a member, carried up to 2
    1 ∷ 10 ∷ 4 ∷ 7 ∷ 5 ∷  -- a reading
    1 ∷ 1 ∷ 6 ∷ 0 ∷ 0 ∷  -- 17: a class
    2 ∷ 5 ∷ 3 ∷ 2 ∷ 0 ∷  -- 17: a link
    1 ∷ 10 ∷ 8 ∷ 7 ∷ 5 ∷  -- 10: a second holder
    2 ∷ 2 ∷ 5 ∷ 0 ∷ 0 ∷  -- 17: the property
    2 ∷ 3 ∷ 4 ∷ 0 ∷ 0 ∷ []  -- the individual, its memberships and its reading

pub worked_operators :
    (register_as true product (fresh product 20) orders ≡ record {
      numbers = 0 ∷ 17 ∷ 0 ∷ 8 ∷ 17 ∷ 7 ∷ 9 ∷ 6 ∷ 17 ∷ 16 ∷ 17 ∷ 4 ∷ [];
      counts = 2 ∷ 0 ∷ 0 ∷ 0 ∷ 0 ∷ 0 ∷ 0 ∷ 0 ∷ 0 ∷ 0 ∷ 0 ∷ 0 ∷ 0 ∷ 0 ∷ 0 ∷ 0 ∷ 0 ∷ 0 ∷ 0 ∷ 0 ∷ 0 ∷ 0 ∷ 0 ∷ 0 ∷ [];
      table = 0x01000000 ∷ 0x03320000 ∷ 0x09320000 ∷ 0 ∷ 0 ∷ 0 ∷ 0 ∷ 0 ∷ 0 ∷ 0 ∷ 0 ∷ 0 ∷ 0 ∷ 0 ∷ 0 ∷ 0 ∷ 0 ∷ 0 ∷ 0 ∷ 0 ∷ [];
    })
    × (register_as true product (register product (fresh product 17) plant).table shift ≡ record {
      numbers = 0 ∷ 0 ∷ 17 ∷ 17 ∷ 10 ∷ 17 ∷ 0 ∷ [];
      counts = 4 ∷ 0 ∷ 2 ∷ 0 ∷ 0 ∷ 0 ∷ 0 ∷ 0 ∷ 0 ∷ 0 ∷ 0 ∷ 0 ∷ 0 ∷ 5 ∷ [];
      table = 0x01000000 ∷ 0x01020000 ∷ 0x01030000 ∷ 0x02050000 ∷ 0x04070000 ∷ 0x05020000 ∷ 0x05030000 ∷ 0x05030200 ∷
          0x07050200 ∷ 0x08050100 ∷ 0x0b050000 ∷ 0 ∷ 0 ∷ 0 ∷ 0 ∷ 0 ∷ 0 ∷ [];
    })
    -- A full table: 17 comes before 11.
    × ((register_as true product (fresh product 1) (1 ∷ 1 ∷ 2 ∷ 0 ∷ 0 ∷ 1 ∷ 3 ∷ 2 ∷ 0 ∷ 0 ∷ [])).numbers ≡ 17 ∷ 11 ∷ [])
unfolding by18 by20 by22 by23 by24 by25 by26 by27 needs bars unequal exists_for is_consistent closure insertion goes deletion step
    run_with run register operator_step register_as
worked_operators = (refl, refl, refl)
