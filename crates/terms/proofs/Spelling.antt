-- The bytes of terms: none begins with those of another, and there is no blank and no newline among them. Assumes nothing.
use Prim.Native.Nat.{ℕ, zero, suc, ◌≤◌}
use mathlib.Core.Path.{◌≡◌, refl, sym, ap, ◌∙◌}
use mathlib.Core.Bool.{Bool, true, false, not, ◌&&◌}
use mathlib.Core.Logic.{⊎_elim}
use mathlib.Core.List.{List, [], ◌∷◌, ◌++◌, append_assoc, append_cancel_left}
use native.Mathlib.Omega.{arith}
use lib.Dec.{T, eqb}
use Rattle.std.proofs.Common.{Option, None, Some}
use Rattle.rdfs.specs.Numbers.{product}
use Rattle.rdfs.specs.Lists.{◌∈◌, here, there, all}
use Rattle.rdfs.proofs.Lists.ListLaws.{all_in, in_append, in_one}
use Rattle.rdfs.proofs.Lists.Tests.{and_both, both_and, differ, differs}
use Rattle.terms.specs.Terms.{bytes, decimal, spelt, spelling, Proper, ProperSome}
use Rattle.terms.specs.TermRead.{is_digit}
use Rattle.terms.specs.declared.term.Term.{Term}
use Rattle.terms.specs.declared.term.Term.TheVariants.{
  Id,
  Literal,
  RdfType,
  Class,
  Property,
  SubClassOf,
  SubPropertyOf,
  Domain,
  Range,
  Exclusive,
}
use Rattle.terms.proofs.IdSpelt.{id_number}
use Rattle.terms.proofs.Decimal.{decimal_digits, decimal_one_to_one, digit_range, span_unique}
use Rattle.terms.proofs.Fronts.{agree, apart}

-- The terms without a number in digits.
abbrev pub fixed_terms : List Term
fixed_terms = RdfType ∷ Property ∷ Class ∷ SubClassOf ∷ SubPropertyOf ∷ Domain ∷ Range ∷ Id 0 ∷ Id 1 ∷ Exclusive ∷ []

-- What stands in front of the digits.
abbrev pub id_front : List ℕ
id_front = bytes "<urn:id:"

abbrev pub literal_front : List ℕ
literal_front = bytes "\""

pub data Seen : Term → Type 0 where
  seen_fixed : {t : Term} → t ∈ fixed_terms → Seen t
  seen_id : {n : ℕ} → 2 ≤ n → n ≤ product.top → Seen (Id n)
  seen_literal : {n : ℕ} → 2 ≤ n → n ≤ product.top → Seen (Literal n)

pub seen : (t : Term) → Proper product.top t → Seen t
seen (Id zero) p = seen_fixed (there (there (there (there (there (there (there (here refl))))))))
seen (Id (suc zero)) p = seen_fixed (there (there (there (there (there (there (there (there (here refl)))))))))
seen (Id (suc (suc n))) p = seen_id {n = suc (suc n)} (omega arith) p
seen (Literal n) p = seen_literal p.0 p.1
seen RdfType p = seen_fixed (here refl)
seen Property p = seen_fixed (there (here refl))
seen Class p = seen_fixed (there (there (here refl)))
seen SubClassOf p = seen_fixed (there (there (there (here refl))))
seen SubPropertyOf p = seen_fixed (there (there (there (there (here refl)))))
seen Domain p = seen_fixed (there (there (there (there (there (here refl))))))
seen Range p = seen_fixed (there (there (there (there (there (there (here refl)))))))
seen Exclusive p = seen_fixed (there (there (there (there (there (there (there (there (there (here refl))))))))))

-- The IRI of an id from 2 on.
pub spelt_id : (n : ℕ) → 2 ≤ n → spelt (Id n) ≡ id_front ++ (decimal n ++ bytes ">")
spelt_id n h = id_number n (λ e. omega (arith, e, h)) (λ e. omega (arith, e, h))

-- The bytes of a number, and more behind its end.
pub number_then : (front : List ℕ) (n end : ℕ) (rest : List ℕ)
    → (front ++ (decimal n ++ (end ∷ []))) ++ rest ≡ front ++ (decimal n ++ (end ∷ rest))
number_then front n end rest = append_assoc front (decimal n ++ (end ∷ [])) rest
    ∙ ap (λ l. front ++ l) (append_assoc (decimal n) (end ∷ []) rest)

pub id_then : (n : ℕ) (rest : List ℕ) → 2 ≤ n → spelt (Id n) ++ rest ≡ id_front ++ (decimal n ++ (62 ∷ rest))
id_then n rest h = ap (λ l. l ++ rest) (spelt_id n h) ∙ number_then id_front n 62 rest

pub literal_then : (n : ℕ) (rest : List ℕ) → spelt (Literal n) ++ rest ≡ literal_front ++ (decimal n ++ (34 ∷ rest))
literal_then n rest = number_then literal_front n 34 rest

pub number_one : (m n end : ℕ) (r s : List ℕ) → is_digit end ≡ false → decimal m ++ (end ∷ r) ≡ decimal n ++ (end ∷ s)
    → (m ≡ n) × (r ≡ s)
number_one m n end r s d e =
    let both = span_unique (decimal m) (decimal n) (end ∷ r) (end ∷ s) (decimal_digits m) (decimal_digits n) d d e in
    (decimal_one_to_one m n both.0, append_cancel_left (end ∷ []) r s both.1)

-- None of some terms agrees with a front, and none with another of them: tests that compute.
abbrev unlike : List ℕ → List Term → Bool
unlike front ts = all (λ t. not (agree front (spelt t))) ts

abbrev free : List Term → Bool
free [] = true
free (t ∷ ts) = unlike (spelt t) ts && free ts

unlike_apart : {t : Term} (front : List ℕ) (ts : List Term) → T (unlike front ts) → t ∈ ts → (r s : List ℕ)
    → front ++ r ≡ spelt t ++ s → ⊥
unlike_apart {t} front ts f h r s e = apart front (spelt t) r s (all_in (λ u. not (agree front (spelt u))) f h) e

free_one : {t u : Term} (ts : List Term) → T (free ts) → t ∈ ts → u ∈ ts → (r s : List ℕ) → spelt t ++ r ≡ spelt u ++ s → t ≡ u
free_one {t = t} {u = u} [] f x4 _ r s e = elim x4 [ ]
free_one (y ∷ ts) f (here a) (here b) r s e = a ∙ sym b
free_one (y ∷ ts) f (here a) (there k) r s e = absurd (unlike_apart (spelt y) ts (and_both (unlike (spelt y) ts) (free ts) f).0 k
    r s (ap (λ v. spelt v ++ r) (sym a) ∙ e))
free_one (y ∷ ts) f (there h) (here b) r s e = absurd (unlike_apart (spelt y) ts (and_both (unlike (spelt y) ts) (free ts) f).0 h
    s r (ap (λ v. spelt v ++ s) (sym b) ∙ sym e))
free_one (y ∷ ts) f (there h) (there k) r s e = free_one ts (and_both (unlike (spelt y) ts) (free ts) f).1 h k r s e

seen_one : {t u : Term} → Seen t → Seen u → (r s : List ℕ) → spelt t ++ r ≡ spelt u ++ s → (t ≡ u) × (r ≡ s)
seen_one {t} {u} (seen_fixed h) (seen_fixed k) r s e =
    let same = free_one fixed_terms tt h k r s e in
    (same, append_cancel_left (spelt u) r s (ap (λ v. spelt v ++ r) (sym same) ∙ e))
seen_one (seen_fixed h) (seen_id {n} a b) r s e = absurd (unlike_apart id_front fixed_terms tt h (decimal n ++ (62 ∷ s)) r
    (sym (id_then n s a) ∙ sym e))
seen_one (seen_fixed h) (seen_literal {n} a b) r s e = absurd (unlike_apart literal_front fixed_terms tt h (decimal n ++ (34 ∷ s)) r
    (sym (literal_then n s) ∙ sym e))
seen_one (seen_id {n = m} a b) (seen_fixed k) r s e = absurd (unlike_apart id_front fixed_terms tt k (decimal m ++ (62 ∷ r)) s
    (sym (id_then m r a) ∙ e))
seen_one (seen_id {n = m} a b) (seen_id {n} c d) r s e =
    let both = number_one m n 62 r s refl (append_cancel_left id_front (decimal m ++ (62 ∷ r)) (decimal n ++ (62 ∷ s))
    (sym (id_then m r a) ∙ (e ∙ id_then n s c))) in
    (ap Id both.0, both.1)
seen_one (seen_id {n = m} a b) (seen_literal {n} c d) r s e = absurd (apart id_front literal_front (decimal m ++ (62 ∷ r))
    (decimal n ++ (34 ∷ s)) tt (sym (id_then m r a) ∙ (e ∙ literal_then n s)))
seen_one (seen_literal {n = m} a b) (seen_fixed k) r s e = absurd (unlike_apart literal_front fixed_terms tt k
    (decimal m ++ (34 ∷ r)) s (sym (literal_then m r) ∙ e))
seen_one (seen_literal {n = m} a b) (seen_id {n} c d) r s e = absurd (apart literal_front id_front (decimal m ++ (34 ∷ r))
    (decimal n ++ (62 ∷ s)) tt (sym (literal_then m r) ∙ (e ∙ id_then n s c)))
seen_one (seen_literal {n = m} a b) (seen_literal {n} c d) r s e =
    let both = number_one m n 34 r s refl (append_cancel_left literal_front (decimal m ++ (34 ∷ r)) (decimal n ++ (34 ∷ s))
    (sym (literal_then m r) ∙ (e ∙ literal_then n s))) in
    (ap Literal both.0, both.1)

-- Terms at the start of the same bytes are the same.
pub spelt_one : (t u : Term) (r s : List ℕ) → Proper product.top t → Proper product.top u → spelt t ++ r ≡ spelt u ++ s
    → (t ≡ u) × (r ≡ s)
spelt_one t u r s p q e = seen_one (seen t p) (seen u q) r s e

-- No blank and no newline: a test that computes.
abbrev plain : ℕ → Bool
plain x = not (eqb x 32) && not (eqb x 10)

plain_digit : (x : ℕ) → T (is_digit x) → T (plain x)
plain_digit x t =
    let range = digit_range x t in
    both_and (not (eqb x 32)) (not (eqb x 10)) (differs x 32 (λ e. omega (arith, range.0)))
    (differs x 10 (λ e. omega (arith, range.0)))

plain_number : (x : ℕ) (front : List ℕ) (n end : ℕ) → T (all plain front) → T (plain end)
    → x ∈ (front ++ (decimal n ++ (end ∷ []))) → T (plain x)
plain_number x front n end f g h = ⊎_elim (λ k. all_in plain f k) (λ k. ⊎_elim digit last (in_append (decimal n) k))
    (in_append front h)
  where
    digit : x ∈ decimal n → T (plain x)
    digit d = plain_digit x (all_in is_digit (decimal_digits n) d)

    last : x ∈ (end ∷ []) → T (plain x)
    last e = rw (in_one e) g

plain_seen : {t : Term} → Seen t → (x : ℕ) → x ∈ spelt t → T (plain x)
plain_seen (seen_fixed h) x m = all_in plain (all_in (λ v. all plain (spelt v)) {l = fixed_terms} tt h) m
plain_seen (seen_id {n} a b) x m = plain_number x id_front n 62 tt tt (rw (spelt_id n a) at m)
plain_seen (seen_literal {n} a b) x m = plain_number x literal_front n 34 tt tt m

pub spelt_free : (t : Term) → Proper product.top t → (x : ℕ) → x ∈ spelt t → (x ≡ 32 → ⊥) × (x ≡ 10 → ⊥)
spelt_free t p x m =
    let both = and_both (not (eqb x 32)) (not (eqb x 10)) (plain_seen (seen t p) x m) in
    (differ both.0, differ both.1)

-- The same where there may be no term.
pub spelling_one : (t u : Option Term) (r s : List ℕ) → ProperSome product.top t → ProperSome product.top u
    → spelling t ++ r ≡ spelling u ++ s → (t ≡ u) × (r ≡ s)
spelling_one None u r s p q e = absurd p
spelling_one (Some t) None r s p q e = absurd q
spelling_one (Some t) (Some u) r s p q e = let one = spelt_one t u r s p q e in (ap Some one.0, one.1)

pub spelling_free : (t : Option Term) → ProperSome product.top t → (x : ℕ) → x ∈ spelling t → (x ≡ 32 → ⊥) × (x ≡ 10 → ⊥)
spelling_free None p x m = absurd p
spelling_free (Some t) p x m = spelt_free t p x m
