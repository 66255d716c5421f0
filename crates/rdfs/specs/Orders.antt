-- Lists of tickets: rearrangements, and the properties and classes that tickets use and make.
use Rattle.std.specs.Prelude.{ℕ, ◌≡◌, ◌⊎◌, List, [], ◌∷◌, ◌++◌, T}
use Rattle.rdfs.specs.Lists.{◌∈◌, count, same_list}
use Rattle.rdfs.specs.Facts.{Fact, cl, pr}
use Rattle.rdfs.specs.Tickets.{Ticket, decoded, inserts}

-- The same tickets, each as often.
abbrev pub SameTickets : List (List ℕ) → List (List ℕ) → Type 0
SameTickets l m = (ticket : List ℕ) → count (same_list ticket) l ≡ count (same_list ticket) m

-- A ticket uses a property if it is PSub with it as a or b, PI with it as c, or Excl with it as a; it makes
-- one if it is an insertion of kind 2 with it as a.
abbrev pub UsesProperty : Ticket → ℕ → Type 0
UsesProperty ticket p =
    ((ticket.kind ≡ 6) × ((p ≡ ticket.a) ⊎ (p ≡ ticket.b)))
    ⊎ (((ticket.kind ≡ 10) × (p ≡ ticket.c)) ⊎ ((ticket.kind ≡ 11) × (p ≡ ticket.a)))

abbrev pub MakesProperty : Ticket → ℕ → Type 0
MakesProperty ticket p = T (inserts ticket) × (ticket.kind ≡ 2) × (p ≡ ticket.a)

-- It uses a class if it is an insertion of CI with it as b; it makes one if it is an insertion of Cl with it
-- as a, of CSub with it as a or b, or of kind 2 with it as b, or as c and not 1.
abbrev pub UsesClass : Ticket → ℕ → Type 0
UsesClass ticket x = T (inserts ticket) × (ticket.kind ≡ 9) × (x ≡ ticket.b)

abbrev pub MakesClass : Ticket → ℕ → Type 0
MakesClass ticket x =
    T (inserts ticket) × (((ticket.kind ≡ 1) × (x ≡ ticket.a))
    ⊎ (((ticket.kind ≡ 5) × ((x ≡ ticket.a) ⊎ (x ≡ ticket.b)))
    ⊎ ((ticket.kind ≡ 2) × ((x ≡ ticket.b) ⊎ ((x ≡ ticket.c) × (x ≡ 1 → ⊥))))))

-- Before each ticket that uses something new there is one that makes it. What is used has this role, and is
-- new if the table at the start, of facts K, lacks it.
abbrev pub Waits : (role : ℕ → Fact) (Uses Makes : Ticket → ℕ → Type 0) → List Fact → List (List ℕ) → Type 0
Waits role Uses Makes K l =
    (before after : List (List ℕ)) (ticket : List ℕ) (x : ℕ) → l ≡ before ++ (ticket ∷ after)
    → Uses (decoded ticket) x → (role x ∈ K → ⊥)
    → (other : List ℕ) × (other ∈ before) × Makes (decoded other) x

-- In order: each new property and each new class is made before it is used.
pub record InOrder (K : List Fact) (l : List (List ℕ)) : Type 0 where
  pub properties : Waits pr UsesProperty MakesProperty K l
  pub classes : Waits cl UsesClass MakesClass K l

abbrev pub AllInsertions : List (List ℕ) → Type 0
AllInsertions l = (ticket : List ℕ) → ticket ∈ l → T (inserts (decoded ticket))

-- Every number of an answer is 0.
abbrev pub AllAccepted : List ℕ → Type 0
AllAccepted numbers = (n : ℕ) → n ∈ numbers → n ≡ 0
