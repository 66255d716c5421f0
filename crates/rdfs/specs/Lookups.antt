-- The clash of an insertion, decided by a few lookups in a consistent table.
use Rattle.std.specs.Prelude.{ℕ, Bool, not, ◌&&◌, ◌||◌, cond, List, [], ◌∷◌, eqb}
use Rattle.rdfs.specs.Lists.{filter, all, any}
use Rattle.rdfs.specs.Facts.{Fact, csub, psub, rng, kind, first, second, made, has}
use Rattle.rdfs.specs.Demands.{with_a, with_c}
use Rattle.rdfs.specs.Clashes.{mixed, held_by_other, two_holders}
use Rattle.rdfs.specs.Deletion.{under}
use Rattle.rdfs.specs.Tickets.{Ticket, asked}

-- x is a class, property, individual or literal, and not by a fact of kind k.
abbrev pub other_role : List Fact → ℕ → ℕ → Bool
other_role K k x = any (λ m. not (eqb m k) && has K (made m x 0 0)) (1 ∷ 2 ∷ 3 ∷ 4 ∷ [])

-- The b of the first fact; 0 if there is none.
abbrev pub first_b : List Fact → ℕ
first_b [] = 0
first_b (f ∷ l) = second f

abbrev pub domain_of : List Fact → ℕ → ℕ
domain_of K p = first_b (with_a K 7 p)

abbrev pub range_of : List Fact → ℕ → ℕ
range_of K p = first_b (with_a K 8 p)

-- CSub(x,y) is wanted, and CSub(y,x) stands.
abbrev pub backwards : List Fact → ℕ → ℕ → Bool
backwards K x y = not (eqb x y) && has K (csub y x)

-- CSub(x,y) and CSub(z,w) are wanted, and would close a cycle together.
abbrev pub cycle_of_two : List Fact → ℕ → ℕ → ℕ → ℕ → Bool
cycle_of_two K x y z w = not (eqb x y) && (not (eqb z w) && (under K 5 z y && under K 5 x w))

-- The clash of a property with domain b and range c that are not all there.
abbrev pub new_property_clash : List Fact → ℕ → ℕ → ℕ → Bool
new_property_clash K a b c =
    other_role K 0 a || (other_role K 1 b || ((not (eqb c 1) && other_role K 1 c) || (eqb a b || eqb a c)))

abbrev pub property_clash : List Fact → Ticket → Bool
property_clash K ticket =
    not (all (has K) (asked ticket)) && new_property_clash K ticket.a ticket.b ticket.c

-- CSub(a,b) can't be, whatever else a and b are.
abbrev pub no_link : List Fact → ℕ → ℕ → Bool
no_link K a b = eqb a b || (eqb a 0 || has K (csub b a))

abbrev pub class_link_clash : List Fact → ℕ → ℕ → Bool
class_link_clash K a b = other_role K 1 a || (other_role K 1 b || no_link K a b)

-- The domains x, y and the ranges z, w of a property and one over it clash.
abbrev pub ends_clash : List Fact → ℕ → ℕ → ℕ → ℕ → Bool
ends_clash K x y z w = mixed z w || (backwards K x y || (backwards K z w || cycle_of_two K x y z w))

-- Excl of p and of the properties over it.
abbrev pub exclusive_over : List Fact → ℕ → List Fact
exclusive_over K p = filter (λ f. eqb (kind f) 11 && under K 6 (first f) p) K

-- A value of a has two holders, or one of a and another of an exclusive property at b or over it.
abbrev pub values_shared : List Fact → ℕ → ℕ → Bool
values_shared K a b =
    any (λ g. any (λ f. held_by_other K (first f) (second f) a
    || held_by_other K (first f) (second f) (first g)) (with_c K 10 a)) (exclusive_over K b)

abbrev pub property_link_clash : List Fact → ℕ → ℕ → Bool
property_link_clash K a b =
    eqb a b || (has K (psub b a) || (ends_clash K (domain_of K a) (domain_of K b) (range_of K a) (range_of K b)
    || values_shared K a b))

-- b can't be a value of a by property c.
abbrev pub no_value : List Fact → ℕ → ℕ → ℕ → Bool
no_value K a b c = cond (has K (rng c 1)) (other_role K 4 b || eqb a b) (other_role K 3 b)

-- Another individual than a has the value b through an exclusive property at c or over it.
abbrev pub value_taken : List Fact → ℕ → ℕ → ℕ → Bool
value_taken K a b c = any (λ g. held_by_other K a b (first g)) (exclusive_over K c)

abbrev pub value_clash : List Fact → ℕ → ℕ → ℕ → Bool
value_clash K a b c = other_role K 3 a || (no_value K a b c || value_taken K a b c)

-- CI with a class of the table clashes as Ind does.
unfoldable pub lookup_clash : List Fact → Ticket → Bool
lookup_clash K ticket =
    cond (eqb ticket.kind 2) (property_clash K ticket)
    (cond (eqb ticket.kind 5) (class_link_clash K ticket.a ticket.b)
    (cond (eqb ticket.kind 6) (property_link_clash K ticket.a ticket.b)
    (cond (eqb ticket.kind 9) (other_role K 3 ticket.a)
    (cond (eqb ticket.kind 10) (value_clash K ticket.a ticket.b ticket.c)
    (cond (eqb ticket.kind 11) (two_holders K ticket.a)
    (other_role K ticket.kind ticket.a))))))
