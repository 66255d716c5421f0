-- Worked examples of the sources that the cases P1 to P12 do not reach, computed on the definitions. Assumes nothing.
use Prim.Native.Nat.{ℕ}
use mathlib.Core.Path.{◌≡◌, refl}
use mathlib.Core.List.{List, [], ◌∷◌, map}
use Rattle.rdfs.specs.Numbers.{product}
use Rattle.rdfs.specs.Words.{padded, fresh}
use Rattle.rdfs.specs.Demands.{by18, by20, by22, by23, by24, by25, by26, by27, needs}
use Rattle.rdfs.specs.Clashes.{bars, unequal, exists_for, is_consistent}
use Rattle.rdfs.specs.Insertion.{closure, insertion}
use Rattle.rdfs.specs.Deletion.{goes, deletion}
use Rattle.rdfs.specs.Register.{step, run, register, Answer}

-- A part of the database of the paper's Figs. 1 and 2, ticket by ticket, and the same with the class tree drawn last, after the
-- members.
abbrev tree_first : List ℕ
tree_first =
    1 ∷ 5 ∷ 3 ∷ 2 ∷ 0 ∷
    1 ∷ 5 ∷ 4 ∷ 3 ∷ 0 ∷
    1 ∷ 5 ∷ 7 ∷ 6 ∷ 0 ∷
    1 ∷ 2 ∷ 10 ∷ 2 ∷ 6 ∷
    1 ∷ 2 ∷ 11 ∷ 4 ∷ 7 ∷
    1 ∷ 6 ∷ 11 ∷ 10 ∷ 0 ∷
    1 ∷ 10 ∷ 22 ∷ 23 ∷ 11 ∷ []

abbrev tree_last : List ℕ
tree_last =
    1 ∷ 2 ∷ 10 ∷ 2 ∷ 6 ∷
    1 ∷ 2 ∷ 11 ∷ 4 ∷ 7 ∷
    1 ∷ 10 ∷ 22 ∷ 23 ∷ 11 ∷
    1 ∷ 5 ∷ 4 ∷ 3 ∷ 0 ∷
    1 ∷ 5 ∷ 3 ∷ 2 ∷ 0 ∷
    1 ∷ 5 ∷ 7 ∷ 6 ∷ 0 ∷
    1 ∷ 6 ∷ 11 ∷ 10 ∷ 0 ∷ []

-- Its 33 words: as a table they leave no word free.
abbrev figure : List ℕ
figure =
    0x01000000 ∷ 0x01020000 ∷ 0x01030000 ∷ 0x01040000 ∷ 0x01060000 ∷ 0x01070000 ∷ 0x020a0000 ∷ 0x020b0000 ∷ 0x03160000 ∷
    0x03170000 ∷ 0x05020000 ∷ 0x05030000 ∷ 0x05030200 ∷ 0x05040000 ∷ 0x05040200 ∷ 0x05040300 ∷ 0x05060000 ∷ 0x05070000 ∷
    0x05070600 ∷ 0x060b0a00 ∷ 0x070a0200 ∷ 0x070b0400 ∷ 0x080a0600 ∷ 0x080b0700 ∷ 0x09160000 ∷ 0x09160200 ∷ 0x09160300 ∷
    0x09160400 ∷ 0x09170000 ∷ 0x09170600 ∷ 0x09170700 ∷ 0x0a16170a ∷ 0x0a16170b ∷ []

-- W3C rdfs07: the object of a value is in the property's range, the subject is not.
abbrev range_of_object : List ℕ
range_of_object = 1 ∷ 2 ∷ 3 ∷ 0 ∷ 2 ∷ 1 ∷ 10 ∷ 4 ∷ 5 ∷ 3 ∷ []

-- A subproperty: the domain link and the range link both go in.
abbrev both_links : List ℕ
both_links =
    1 ∷ 2 ∷ 2 ∷ 4 ∷ 6 ∷
    1 ∷ 2 ∷ 3 ∷ 5 ∷ 7 ∷
    1 ∷ 6 ∷ 3 ∷ 2 ∷ 0 ∷ []

-- The links between the domains and between the ranges would close a cycle together, though neither does alone.
abbrev cycle_through_both : List ℕ
cycle_through_both =
    1 ∷ 2 ∷ 2 ∷ 4 ∷ 6 ∷
    1 ∷ 2 ∷ 3 ∷ 5 ∷ 7 ∷
    1 ∷ 5 ∷ 4 ∷ 7 ∷ 0 ∷
    1 ∷ 5 ∷ 6 ∷ 5 ∷ 0 ∷
    1 ∷ 6 ∷ 3 ∷ 2 ∷ 0 ∷ []

-- A literal value and its deletion; a chain of property links cut at its end.
abbrev literal_gone : List ℕ
literal_gone =
    1 ∷ 2 ∷ 13 ∷ 2 ∷ 1 ∷
    1 ∷ 10 ∷ 22 ∷ 30 ∷ 13 ∷
    2 ∷ 4 ∷ 30 ∷ 0 ∷ 0 ∷ []

abbrev chain_cut : List ℕ
chain_cut =
    1 ∷ 2 ∷ 13 ∷ 2 ∷ 6 ∷
    1 ∷ 6 ∷ 10 ∷ 13 ∷ 0 ∷
    2 ∷ 6 ∷ 11 ∷ 13 ∷ 0 ∷ []

-- A member waits for its class, the upper one of a link, the domain of a property; Resource stands at the start.
abbrev members_wait : List ℕ
members_wait =
    1 ∷ 9 ∷ 4 ∷ 3 ∷ 0 ∷
    1 ∷ 5 ∷ 2 ∷ 3 ∷ 0 ∷
    1 ∷ 9 ∷ 4 ∷ 3 ∷ 0 ∷
    1 ∷ 9 ∷ 7 ∷ 6 ∷ 0 ∷
    1 ∷ 2 ∷ 5 ∷ 6 ∷ 1 ∷
    1 ∷ 9 ∷ 7 ∷ 6 ∷ 0 ∷
    1 ∷ 9 ∷ 7 ∷ 0 ∷ 0 ∷ []

-- The number, added and removed of one ticket on the full table of the figure.
abbrev on_figure : List ℕ → List ℕ
on_figure t = let a : Answer = step product figure t in a.number ∷ a.added ∷ a.removed ∷ []

abbrev single : List (List ℕ)
single =
    (2 ∷ 1 ∷ 4 ∷ 0 ∷ 0 ∷ []) ∷  -- a class, its members, and the property with it as domain
    (2 ∷ 1 ∷ 6 ∷ 0 ∷ 0 ∷ []) ∷  -- a class that is a range
    (2 ∷ 2 ∷ 10 ∷ 0 ∷ 0 ∷ []) ∷  -- a property
    (2 ∷ 3 ∷ 23 ∷ 0 ∷ 0 ∷ []) ∷  -- an individual that is a value
    (2 ∷ 5 ∷ 4 ∷ 2 ∷ 0 ∷ []) ∷  -- a class link, the link of the class between, and the property link that needs it
    (2 ∷ 5 ∷ 7 ∷ 6 ∷ 0 ∷ []) ∷  -- a class link, and the property link that needs it
    (2 ∷ 6 ∷ 11 ∷ 10 ∷ 0 ∷ []) ∷  -- a property link; the values that it carried stay
    (2 ∷ 9 ∷ 22 ∷ 3 ∷ 0 ∷ []) ∷  -- a member leaves a class and the class below, and the value by that
    (2 ∷ 9 ∷ 22 ∷ 2 ∷ 0 ∷ []) ∷  -- a member leaves a domain, and its values go
    (2 ∷ 9 ∷ 23 ∷ 6 ∷ 0 ∷ []) ∷  -- a member leaves a range
    (2 ∷ 10 ∷ 22 ∷ 23 ∷ 10 ∷ []) ∷  -- a value, and that of the subproperty
    (1 ∷ 9 ∷ 22 ∷ 3 ∷ 0 ∷ []) ∷  -- a repeat on the full table
    (1 ∷ 9 ∷ 4 ∷ 4 ∷ 0 ∷ []) ∷  -- a clash on the full table
    (1 ∷ 1 ∷ 9 ∷ 0 ∷ 0 ∷ []) ∷  -- two facts more on the full table
    (1 ∷ 9 ∷ 22 ∷ 9 ∷ 0 ∷ []) ∷  -- a member of an id without a role, on the full table
    (1 ∷ 9 ∷ 22 ∷ 10 ∷ 0 ∷ []) ∷  -- of a property
    (1 ∷ 9 ∷ 4 ∷ 23 ∷ 0 ∷ []) ∷  -- of an individual, and a class as the member
    (1 ∷ 9 ∷ 9 ∷ 9 ∷ 0 ∷ []) ∷  -- of itself, unknown
    (2 ∷ 9 ∷ 22 ∷ 9 ∷ 0 ∷ []) ∷  -- the first of these deleted
    (1 ∷ 9 ∷ 22 ∷ 9 ∷ 5 ∷ []) ∷  -- and with an unused byte that is not 0
    []

abbrev answers : List (List ℕ)
answers =
    (0 ∷ 0 ∷ 10 ∷ []) ∷ (0 ∷ 0 ∷ 9 ∷ []) ∷ (0 ∷ 0 ∷ 5 ∷ []) ∷ (0 ∷ 0 ∷ 6 ∷ []) ∷ (0 ∷ 0 ∷ 3 ∷ []) ∷ (0 ∷ 0 ∷ 2 ∷ []) ∷
    (0 ∷ 0 ∷ 1 ∷ []) ∷ (0 ∷ 0 ∷ 3 ∷ []) ∷ (0 ∷ 0 ∷ 5 ∷ []) ∷ (0 ∷ 0 ∷ 4 ∷ []) ∷ (0 ∷ 0 ∷ 2 ∷ []) ∷ (0 ∷ 0 ∷ 0 ∷ []) ∷
    (10 ∷ 0 ∷ 0 ∷ []) ∷ (11 ∷ 0 ∷ 0 ∷ []) ∷ (16 ∷ 0 ∷ 0 ∷ []) ∷ (16 ∷ 0 ∷ 0 ∷ []) ∷ (16 ∷ 0 ∷ 0 ∷ []) ∷ (16 ∷ 0 ∷ 0 ∷ []) ∷
    (0 ∷ 0 ∷ 0 ∷ []) ∷ (7 ∷ 0 ∷ 0 ∷ []) ∷ []

pub worked :
    (register product (fresh product 33) tree_first ≡ record {
      numbers = 0 ∷ 0 ∷ 0 ∷ 0 ∷ 0 ∷ 0 ∷ 0 ∷ [];
      counts = 5 ∷ 0 ∷ 4 ∷ 0 ∷ 5 ∷ 0 ∷ 3 ∷ 0 ∷ 3 ∷ 0 ∷ 1 ∷ 0 ∷ 11 ∷ 0 ∷ [];
      table = figure;
    })
    × (register product (fresh product 33) tree_last ≡ record {
      numbers = 0 ∷ 0 ∷ 0 ∷ 0 ∷ 0 ∷ 0 ∷ 0 ∷ [];
      counts = 7 ∷ 0 ∷ 7 ∷ 0 ∷ 7 ∷ 0 ∷ 4 ∷ 0 ∷ 3 ∷ 0 ∷ 2 ∷ 0 ∷ 2 ∷ 0 ∷ [];
      table = figure;
    })
    × (map on_figure single ≡ answers)
    × ((register product (padded 44 figure) literal_gone).counts ≡ 3 ∷ 0 ∷ 2 ∷ 0 ∷ 0 ∷ 2 ∷ [])
    × ((register product (padded 44 figure) chain_cut).counts ≡ 3 ∷ 0 ∷ 3 ∷ 0 ∷ 0 ∷ 2 ∷ [])
    × ((register product (fresh product 12) range_of_object).table ≡ 0x01000000 ∷ 0x01020000 ∷ 0x02030000 ∷ 0x03040000 ∷ 0x03050000 ∷
    0x05020000 ∷ 0x07030000 ∷ 0x08030200 ∷ 0x09040000 ∷ 0x09050000 ∷ 0x09050200 ∷ 0x0a040503 ∷ [])
    × ((register product (fresh product 18) both_links).table ≡ 0x01000000 ∷ 0x01040000 ∷ 0x01050000 ∷ 0x01060000 ∷ 0x01070000 ∷
    0x02020000 ∷ 0x02030000 ∷ 0x05040000 ∷ 0x05050000 ∷ 0x05050400 ∷ 0x05060000 ∷ 0x05070000 ∷ 0x05070600 ∷ 0x06030200 ∷
    0x07020400 ∷ 0x07030500 ∷ 0x08020600 ∷ 0x08030700 ∷ [])
    × ((register product (fresh product 32) cycle_through_both).numbers ≡ 0 ∷ 0 ∷ 0 ∷ 0 ∷ 10 ∷ [])
    × ((register product (fresh product 32) members_wait).numbers ≡ 16 ∷ 0 ∷ 0 ∷ 16 ∷ 0 ∷ 0 ∷ 0 ∷ [])
    × ((register product (fresh product 4) (1 ∷ 1 ∷ 2 ∷ 0 ∷ 0 ∷ 1 ∷ 1 ∷ 3 ∷ [])).numbers ≡ 0 ∷ 4 ∷ [])
unfolding by18 by20 by22 by23 by24 by25 by26 by27 needs bars unequal exists_for is_consistent closure insertion goes deletion step
    run register
worked = (refl, refl, refl, refl, refl, refl, refl, refl, refl, refl)
