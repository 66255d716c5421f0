-- The worked example of Ask 6, computed on the definitions. Assumes nothing.
use Prim.Native.Nat.{ℕ}
use mathlib.Core.Path.{◌≡◌, refl}
use mathlib.Core.List.{List, [], ◌∷◌, ◌++◌}
use Rattle.rdfs.specs.Numbers.{product}
use Rattle.rdfs.specs.Facts.{cl, csub}
use Rattle.rdfs.specs.Words.{fresh, words}
use Rattle.rdfs.specs.Demands.{by18, by20, by22, by23, by24, by25, by26, by27, needs}
use Rattle.rdfs.specs.Clashes.{bars, unequal, exists_for, is_consistent}
use Rattle.rdfs.specs.Insertion.{closure, insertion}
use Rattle.rdfs.specs.Deletion.{goes, deletion}
use Rattle.rdfs.specs.Register.{refused_with, step}
use Rattle.preview.specs.Previews.{not_asked, asking, committing}

-- Class 9 under class 3, and class 3 alone.
abbrev link : List ℕ
link = 1 ∷ 5 ∷ 9 ∷ 3 ∷ 0 ∷ []

abbrev class : List ℕ
class = 1 ∷ 1 ∷ 3 ∷ 0 ∷ 0 ∷ []

-- A fresh table, and the words that the link brings to it: Cl(3), Cl(9), CSub(3,0), CSub(9,0), CSub(9,3).
abbrev table : List ℕ
table = fresh product 8

abbrev five : List ℕ
five = words product (cl 3 ∷ cl 9 ∷ csub 3 0 ∷ csub 9 0 ∷ csub 9 3 ∷ [])

-- Asked with runs of seven words and of none; with four words and nine; on a table of five words. Committed with the five words;
-- with a 0 behind them; after class 3 has been put in; and gone again, asked.
pub worked_previews : (asking product table link (0 ∷ 0 ∷ 0 ∷ 0 ∷ 0 ∷ 7 ∷ 7 ∷ []) []
    ≡ record { number = 0; added = 5; removed = 0; added_run = five ++ (7 ∷ 7 ∷ []); removed_run = [] })
    × (asking product table link (0 ∷ 0 ∷ 0 ∷ 0 ∷ []) (1 ∷ 2 ∷ 3 ∷ []) ≡ not_asked 13 (0 ∷ 0 ∷ 0 ∷ 0 ∷ []) (1 ∷ 2 ∷ 3 ∷ []))
    × (asking product (fresh product 5) link [] [] ≡ not_asked 11 [] [])
    × (committing product table link five [] ≡ step product table link)
    × ((step product table link).number ≡ 0)
    × (committing product table link (five ++ (0 ∷ [])) [] ≡ refused_with 18 table)
    × (committing product (step product table class).table link five []
    ≡ refused_with 18 (step product table class).table)
    × (asking product (step product table link).table (2 ∷ 1 ∷ 3 ∷ 0 ∷ 0 ∷ []) [] (0 ∷ 0 ∷ 0 ∷ 9 ∷ [])
    ≡ record {
      number = 0;
      added = 0;
      removed = 3;
      added_run = [];
      removed_run = words product (cl 3 ∷ csub 3 0 ∷ csub 9 3 ∷ []) ++ (9 ∷ []);
    })
unfolding by18 by20 by22 by23 by24 by25 by26 by27 needs bars unequal exists_for is_consistent closure insertion goes deletion step
    asking committing
worked_previews = (refl, refl, refl, refl, refl, refl, refl, refl)
