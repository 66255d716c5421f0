-- Lists: members, tests over a list, ascending lists.
use Rattle.std.specs.Prelude.{ℕ, ◌+◌, ◌<◌, ◌≡◌, Bool, true, false, ◌&&◌, ◌||◌, cond, List, [], ◌∷◌, ◌++◌, eqb}

infix 40 ◌∈◌
infix 40 ◌⊆◌
-- x is a member of the list.
pub data ◌∈◌ {A : Type 0} (x : A) : List A → Type 0 where
  here : {y : A} {l : List A} → x ≡ y → x ∈ (y ∷ l)
  there : {y : A} {l : List A} → x ∈ l → x ∈ (y ∷ l)

-- Every member of l is one of m.
abbrev pub ◌⊆◌ : {A : Type 0} → List A → List A → Type 0
◌⊆◌ {A} l m = (x : A) → x ∈ l → x ∈ m

abbrev pub filter : {A : Type 0} → (A → Bool) → List A → List A
filter test [] = []
filter test (x ∷ l) = cond (test x) (x ∷ filter test l) (filter test l)

abbrev pub concat_map : {A B : Type 0} → (A → List B) → List A → List B
concat_map each [] = []
concat_map each (x ∷ l) = each x ++ concat_map each l

abbrev pub all : {A : Type 0} → (A → Bool) → List A → Bool
all test [] = true
all test (x ∷ l) = test x && all test l

abbrev pub any : {A : Type 0} → (A → Bool) → List A → Bool
any test [] = false
any test (x ∷ l) = test x || any test l

abbrev pub member : List ℕ → ℕ → Bool
member l n = any (eqb n) l

-- The same numbers in the same order.
abbrev pub same_list : List ℕ → List ℕ → Bool
same_list [] [] = true
same_list [] (m ∷ k) = false
same_list (n ∷ l) [] = false
same_list (n ∷ l) (m ∷ k) = eqb n m && same_list l k

-- How many members pass a test.
abbrev pub count : {A : Type 0} → (A → Bool) → List A → ℕ
count test [] = 0
count test (x ∷ l) = cond (test x) 1 0 + count test l

-- Ascending, none twice.
abbrev pub Ascending : List ℕ → Type 0
Ascending [] = Unit {0}
Ascending (n ∷ l) = ((m : ℕ) → m ∈ l → n < m) × Ascending l
