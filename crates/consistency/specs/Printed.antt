-- How a rule is called in print, and the order that document 02 asks for in Ask 4: "from 4 to 27 in printed
-- order, then H1 to H4 and the two of Ask 3".
use Rattle.std.specs.Prelude.{ℕ, zero, suc, ◌+◌, ◌-◌, List, [], ◌∷◌, map, ◌++◌}
use Rattle.rdfs.specs.Rules.{Rule, r4, r5, r6, r7, r8, r9, r10, r11, r12, r13, r14, r15, r16, r17, r18, r19}
use Rattle.rdfs.specs.Rules.{r20, r21, r22, r23, r24, r25, r26, r27, h1, h2, h3, h4, e1, e2}

-- A number in Fig. 3; one of document 01's own, H1 to H4; the first or the second of Ask 3, E1 and E2.
pub data Name : Type 0 where
  fig3 H ask3 : ℕ → Name

abbrev pub name_of : Rule → Name
name_of r4 = fig3 4
name_of r5 = fig3 5
name_of r6 = fig3 6
name_of r7 = fig3 7
name_of r8 = fig3 8
name_of r9 = fig3 9
name_of r10 = fig3 10
name_of r11 = fig3 11
name_of r12 = fig3 12
name_of r13 = fig3 13
name_of r14 = fig3 14
name_of r15 = fig3 15
name_of r16 = fig3 16
name_of r17 = fig3 17
name_of r18 = fig3 18
name_of r19 = fig3 19
name_of r20 = fig3 20
name_of r21 = fig3 21
name_of r22 = fig3 22
name_of r23 = fig3 23
name_of r24 = fig3 24
name_of r25 = fig3 25
name_of r26 = fig3 26
name_of r27 = fig3 27
name_of h1 = H 1
name_of h2 = H 2
name_of h3 = H 3
name_of h4 = H 4
name_of e1 = ask3 1
name_of e2 = ask3 2

-- As many numbers, one after another, from n on.
abbrev pub numbers_from : ℕ → ℕ → List ℕ
numbers_from n zero = []
numbers_from n (suc k) = n ∷ numbers_from (suc n) k

-- The numbers from n to m.
abbrev pub from_to : ℕ → ℕ → List ℕ
from_to n m = numbers_from n (suc m - n)

-- The names in the order asked for.
abbrev pub names_in_order : List Name
names_in_order = map fig3 (from_to 4 27) ++ (map H (from_to 1 4) ++ map ask3 (from_to 1 2))

-- The place of a name in that order, counted from 0.
abbrev pub place_of_name : Name → ℕ
place_of_name (fig3 n) = n - 4
place_of_name (H n) = 24 + (n - 1)
place_of_name (ask3 n) = 28 + (n - 1)

abbrev pub place_of : Rule → ℕ
place_of r = place_of_name (name_of r)
