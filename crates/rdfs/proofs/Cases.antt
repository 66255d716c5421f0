-- The cases of document 01 as one list, computed on the definitions. Assumes nothing.
use Prim.Native.Nat.{ℕ}
use mathlib.Core.Path.{◌≡◌, refl}
use mathlib.Core.List.{List, [], ◌∷◌, ◌++◌, map}
use lib.ListN.{replicate}
use Rattle.rdfs.specs.Numbers.{product}
use Rattle.rdfs.specs.Facts.{Fact, cl, pr, ind, lit, csub, dom, rng, ci, pi}
use Rattle.rdfs.specs.Words.{word, fresh}
use Rattle.rdfs.specs.Demands.{by18, by20, by22, by23, by24, by25, by26, by27, needs}
use Rattle.rdfs.specs.Clashes.{bars, unequal, exists_for, is_consistent}
use Rattle.rdfs.specs.Insertion.{closure, insertion}
use Rattle.rdfs.specs.Deletion.{goes, deletion}
use Rattle.rdfs.specs.Register.{step, run, register, Done}

-- P1 to P12, five bytes each.
abbrev tickets : List ℕ
tickets =
    1 ∷ 1 ∷ 2 ∷ 0 ∷ 0 ∷
    1 ∷ 5 ∷ 3 ∷ 2 ∷ 0 ∷
    1 ∷ 9 ∷ 4 ∷ 3 ∷ 0 ∷
    2 ∷ 9 ∷ 4 ∷ 2 ∷ 0 ∷
    1 ∷ 5 ∷ 2 ∷ 3 ∷ 0 ∷
    1 ∷ 2 ∷ 5 ∷ 2 ∷ 1 ∷
    1 ∷ 10 ∷ 6 ∷ 7 ∷ 5 ∷
    1 ∷ 10 ∷ 6 ∷ 6 ∷ 5 ∷
    1 ∷ 6 ∷ 5 ∷ 6 ∷ 0 ∷
    2 ∷ 5 ∷ 2 ∷ 0 ∷ 0 ∷
    1 ∷ 9 ∷ 3 ∷ 3 ∷ 0 ∷
    1 ∷ 1 ∷ 1 ∷ 0 ∷ 0 ∷ []

-- Facts as words, in the product's width.
abbrev in_words : List Fact → List ℕ
in_words K = map (word product.base) K

-- The facts that the twelve leave.
abbrev left : List Fact
left =
    cl 0 ∷ cl 2 ∷ cl 3 ∷ pr 5 ∷ ind 4 ∷ ind 6 ∷ lit 7 ∷ csub 2 0 ∷ csub 3 0 ∷ csub 3 2 ∷
    dom 5 2 ∷ rng 5 1 ∷ ci 4 0 ∷ ci 6 0 ∷ ci 6 2 ∷ pi 6 7 5 ∷ []

-- On a fresh table of 2,048 words: each ticket's number, its added and removed, and the words at the end.
abbrev expected : Done
expected = record {
  numbers = 0 ∷ 0 ∷ 0 ∷ 0 ∷ 10 ∷ 0 ∷ 0 ∷ 10 ∷ 9 ∷ 8 ∷ 10 ∷ 7 ∷ [];
  counts = 2 ∷ 0 ∷ 3 ∷ 0 ∷ 4 ∷ 0 ∷ 0 ∷ 2 ∷ 0 ∷ 0 ∷ 3 ∷ 0 ∷ 5 ∷ 0 ∷ 0 ∷ 0 ∷ 0 ∷ 0 ∷ 0 ∷ 0 ∷ 0 ∷ 0 ∷ 0 ∷ 0 ∷ [];
  table = in_words left ++ replicate 2032 0;
}

-- The twelve tickets as one list; a table of 2 words refuses P1 with 11, one of 3 takes it.
pub cases :
    (register product (fresh product 2048) tickets ≡ expected)
    × (step product (fresh product 2) (1 ∷ 1 ∷ 2 ∷ 0 ∷ 0 ∷ []) ≡ record {
      number = 11;
      added = 0;
      removed = 0;
      table = in_words (cl 0 ∷ []) ++ (0 ∷ []);
    })
    × (step product (fresh product 3) (1 ∷ 1 ∷ 2 ∷ 0 ∷ 0 ∷ []) ≡ record {
      number = 0;
      added = 2;
      removed = 0;
      table = in_words (cl 0 ∷ cl 2 ∷ csub 2 0 ∷ []);
    })
unfolding by18 by20 by22 by23 by24 by25 by26 by27 needs bars unequal exists_for is_consistent closure insertion goes deletion step
    run register
cases = (refl, refl, refl)

-- Their words at the product's width, as numbers of eight hexadecimal digits: kind, a, b, c, two each.
pub cases_in_words : in_words left ≡
    0x01000000 ∷ 0x01020000 ∷ 0x01030000 ∷ 0x02050000 ∷ 0x03040000 ∷ 0x03060000 ∷ 0x04070000 ∷ 0x05020000 ∷
    0x05030000 ∷ 0x05030200 ∷ 0x07050200 ∷ 0x08050100 ∷ 0x09040000 ∷ 0x09060000 ∷ 0x09060200 ∷ 0x0a060705 ∷ []
cases_in_words = refl
