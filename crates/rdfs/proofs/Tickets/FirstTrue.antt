-- The first refusal of a list: the answer is a number exactly if its test holds and those before it do not, and 0 exactly if no
-- test holds. Assumes nothing.
use Prim.Native.Nat.{ℕ}
use mathlib.Core.Path.{◌≡◌, refl, sym, subst, ◌∙◌}
use mathlib.Core.Bool.{Bool, true, false, not, ◌&&◌, ◌||◌, cond}
use mathlib.Core.Logic.{⊎_elim}
use mathlib.Core.List.{List, [], ◌∷◌, map}
use lib.Dec.{T, eqb, T_not}
use borrow.Author.Tests.{eq-eqb, eqb-true, eqb-false}
use Rattle.rdfs.specs.Lists.{◌∈◌, here as first, there as further, member}
use Rattle.rdfs.specs.Refusals.{or_else, first_or, first_true, First, none, here, later}
use Rattle.rdfs.proofs.Lists.Tests.{and_both}
use Rattle.rdfs.proofs.Lists.ListLaws.{in_cons}
use Rattle.rdfs.proofs.Words.FactLaws.{in_member}

-- A refusal with another number than the answer's is passed.
pub passed_link : (t : Bool) (n rest m : ℕ) → (n ≡ m → ⊥) → or_else t n rest ≡ m → (T t → ⊥) × (rest ≡ m)
passed_link true n rest m d e = absurd (d e)
passed_link false n rest m d e = ((λ h. h), e)

pub pass_link : (t : Bool) (n rest : ℕ) → (T t → ⊥) → or_else t n rest ≡ rest
pass_link true n rest h = absurd (h tt)
pass_link false n rest h = refl

pub stop_link : (t : Bool) (n rest : ℕ) → T t → or_else t n rest ≡ n
stop_link true n rest h = refl
stop_link false n rest h = absurd h

-- The test of a number in a list; none if the list does not have it.
abbrev pub test_of : List (ℕ × Bool) → ℕ → Bool
test_of [] n = false
test_of (r ∷ l) n = cond (eqb r.0 n) r.1 (test_of l n)

-- m stands before n.
abbrev pub precedes : List (ℕ × Bool) → ℕ → ℕ → Bool
precedes [] m n = false
precedes (r ∷ l) m n = not (eqb r.0 n) && (eqb r.0 m || precedes l m n)

-- Neither of two tests holds, so the one that is picked does not.
by_cond : (b s t : Bool) → (T s → ⊥) → (T t → ⊥) → T (cond b s t) → ⊥
by_cond true s t p q = p
by_cond false s t p q = q

-- The numbers that an answer can be.
abbrev answers : List (ℕ × Bool) → List ℕ
answers l = 0 ∷ map (λ r. r.0) l

-- No number is 0, and none stands twice.
abbrev pub distinct : List (ℕ × Bool) → Bool
distinct [] = true
distinct (r ∷ l) = not (member (answers l) r.0) && distinct l

answer_in_lem : (l : List (ℕ × Bool)) → first_true l ∈ answers l
answer_in_lem [] = first refl
answer_in_lem (r ∷ l) = pick r.1 (answer_in_lem l)
  where
    pick : (t : Bool) → first_true l ∈ answers l → or_else t r.0 (first_true l) ∈ answers (r ∷ l)
    pick true h = further (first refl)
    pick false h = ⊎_elim (λ e. first e) (λ k. further (further k)) (in_cons h)

module _ (r : ℕ × Bool) (l : List (ℕ × Bool)) (d : T (distinct (r ∷ l))) where
  -- A refusal's number is no later answer.
  own_number : (n : ℕ) → n ∈ answers l → r.0 ≡ n → ⊥
  own_number n h e = T_not (member (answers l) r.0) (and_both (not (member (answers l) r.0)) (distinct l) d).0
      (in_member (answers l) r.0 (subst (λ m. m ∈ answers l) (sym e) h))

  others : T (distinct l)
  others = (and_both (not (member (answers l) r.0)) (distinct l) d).1

  -- A later answer: this one's test does not hold.
  later_answer : (n : ℕ) → n ∈ answers l → first_true (r ∷ l) ≡ n → (T r.1 → ⊥) × (first_true l ≡ n)
  later_answer n h = passed_link r.1 r.0 (first_true l) n (own_number n h)

-- The answer is 0: no test holds.
pub none_holds : (l : List (ℕ × Bool)) → T (distinct l) → first_true l ≡ 0 → (n : ℕ) → T (test_of l n) → ⊥
none_holds [] d e n h = h
none_holds (r ∷ l) d e n h =
    let p = later_answer r l d 0 (first refl) e in
    by_cond (eqb r.0 n) r.1 (test_of l n) p.0 (none_holds l (others r l d) p.1 n) h

-- It is another number: the test of that number holds, and those before it do not.
pub first_holds : (l : List (ℕ × Bool)) → T (distinct l) → (n : ℕ) → (n ≡ 0 → ⊥) → first_true l ≡ n → T (test_of l n)
first_holds [] d n z e = absurd (z (sym e))
first_holds (r ∷ l) d n z e = pick (eqb r.0 n) refl (first_holds l (others r l d) n z)
  where
    stopped : (t : Bool) → r.0 ≡ n → or_else t r.0 (first_true l) ≡ n → T t
    stopped true s q = tt
    stopped false s q = own_number r l d (first_true l) (answer_in_lem l) (s ∙ sym q)

    pick : (b : Bool) → eqb r.0 n ≡ b → (first_true l ≡ n → T (test_of l n)) → T (cond b r.1 (test_of l n))
    pick true s rest = stopped r.1 (eqb-true r.0 n s) e
    pick false s rest = rest (passed_link r.1 r.0 (first_true l) n (eqb-false r.0 n s) e).1

pub none_before : (l : List (ℕ × Bool)) (n : ℕ) → first_true l ≡ n → (m : ℕ) → T (precedes l m n) → T (test_of l m) → ⊥
none_before [] n e m k h = h
none_before (r ∷ l) n e m k h =
    let q = and_both (not (eqb r.0 n)) (eqb r.0 m || precedes l m n) k in
    let differs : r.0 ≡ n → ⊥ = λ s. T_not (eqb r.0 n) q.0 (subst T (sym (eq-eqb r.0 n s)) tt) in
    let p = passed_link r.1 r.0 (first_true l) n differs e in
    pick (eqb r.0 m) q.1 p.0 (none_before l n p.1 m) h
  where
    pick : (b : Bool) → T (b || precedes l m n) → (T r.1 → ⊥) → (T (precedes l m n) → T (test_of l m) → ⊥)
        → T (cond b r.1 (test_of l m)) → ⊥
    pick true k p rest h = p h
    pick false k p rest h = rest k h

-- The answer is the first refusal whose condition holds, and no other number is.
pub first_true_lem : (l : List (ℕ × Bool)) → First l (first_true l)
first_true_lem [] = none
first_true_lem (r ∷ l) = pick r.1 (first_true_lem l)
  where
    pick : (t : Bool) → First l (first_true l) → First ((r.0, t) ∷ l) (or_else t r.0 (first_true l))
    pick true h = here tt
    pick false h = later (λ k. k) h

pub first_is : (l : List (ℕ × Bool)) {n : ℕ} → First l n → first_true l ≡ n
first_is l none = refl
first_is l (here {n} {test} {l = m} h) = stop_link test n (first_true m) h
first_is l (later {n} {test} {l = m} h f) = pass_link test n (first_true m) h ∙ first_is m f

-- What comes after the list is the answer exactly if no test holds.
pub rest_answers : (l : List (ℕ × Bool)) → T (distinct l) → (rest : ℕ) → first_true l ≡ 0 → first_or l rest ≡ rest
rest_answers [] d rest e = refl
rest_answers (r ∷ l) d rest e =
    let p = later_answer r l d 0 (first refl) e in
    pass_link r.1 r.0 (first_or l rest) p.0 ∙ rest_answers l (others r l d) rest p.1

pub first_stops : (l : List (ℕ × Bool)) (rest : ℕ) → (first_true l ≡ 0 → ⊥) → first_or l rest ≡ first_true l
first_stops [] rest n = absurd (n refl)
first_stops (r ∷ l) rest n = pick r.1 (first_stops l rest) n
  where
    pick : (t : Bool) → ((first_true l ≡ 0 → ⊥) → first_or l rest ≡ first_true l) → (or_else t r.0 (first_true l) ≡ 0 → ⊥)
        → or_else t r.0 (first_or l rest) ≡ or_else t r.0 (first_true l)
    pick true h n = refl
    pick false h n = h n
