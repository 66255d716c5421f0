-- The number that the bytes of an id or of a literal name. Assumes nothing.
use Prim.Native.Nat.{ℕ, zero, suc, ◌≤◌, ◌<◌}
use mathlib.Core.Path.{◌≡◌, refl, sym, ap, subst, ◌∙◌}
use mathlib.Core.Bool.{Bool, true, false, cond}
use mathlib.Core.Logic.{inl, inr, ⊎_elim}
use mathlib.Core.List.{List, [], ◌∷◌, ◌++◌}
use native.Mathlib.Omega.{arith}
use native.Mathlib.Decide.{ℕ_discrete}
use lib.Dec.{T, eqb}
use Rattle.std.proofs.Common.{Option, Some}
use lib.ListN.{get_or}
use Rattle.rdfs.specs.Numbers.{product}
use Rattle.rdfs.specs.Lists.{same_list}
use Rattle.rdfs.proofs.Lists.Tests.{either_or, or_either}
use Rattle.rdfs.proofs.Lists.Filters.{cond_yes, cond_no}
use Rattle.rdfs.proofs.Lists.SameList.{same_list_eq, same_list_refl}
use Rattle.terms.specs.Terms.{bytes, decimal, rdfs, spelt, spelling, Proper}
use Rattle.terms.specs.Terms.{ended}
use Rattle.terms.specs.declared.term.Term.{Term}
use Rattle.terms.specs.declared.term.Term.TheVariants.{Id, Literal}
use Rattle.terms.proofs.Spelling.{spelt_one}
use Rattle.triples.specs.TextRead.{names, id_of}

abbrev top : ℕ
top = product.top

-- The highest number that a part names.
id_of_is : (part : List ℕ) (n m : ℕ) → n ≤ m → (1 ≤ n → T (names part n))
    → ((k : ℕ) → n < k → k ≤ m → T (names part k) → ⊥) → id_of m part ≡ n
id_of_is part n zero h named none = omega (arith, h)
id_of_is part n (suc m) h named none = elim (ℕ_discrete n (suc m)) [
  | yes e ↦ cond_yes (names part (suc m)) (suc m) (id_of m part) (subst (λ k. T (names part k)) e (named (omega (arith, e))))
      ∙ sym e
  | no d ↦ cond_no (names part (suc m)) (suc m) (id_of m part) (none (suc m) (omega (arith, h, d)) (omega arith))
      ∙ id_of_is part n m (omega (arith, h, d)) named (λ k a b. none k a (omega (arith, b)))
]

-- An IRI begins with another byte than a literal.
iri_first : (n : ℕ) (rest : List ℕ) → get_or (spelt (Id n) ++ rest) 0 0 ≡ 60
iri_first n rest = by (eqb n 0) (eqb n 1)
  where
    by : (a b : Bool) → get_or (cond a (rdfs "Resource>") (cond b (rdfs "Literal>") (bytes "<urn:id:" ++ (decimal n ++ bytes ">")))
        ++ rest) 0 0 ≡ 60
    by true b = refl
    by false true = refl
    by false false = refl

iri_or_literal : (m n : ℕ) (r s : List ℕ) → spelt (Id m) ++ r ≡ spelt (Literal n) ++ s → ⊥
iri_or_literal m n r s e = let same : ◌≡◌ {A = ℕ} 60 34 = sym (iri_first m r) ∙ ap (λ l. get_or l 0 0) e in omega (arith, same)

-- The part of a term.
same_id : {m n : ℕ} → Id m ≡ Id n → m ≡ n
same_id e = cc

same_literal : {m n : ℕ} → Literal m ≡ Literal n → m ≡ n
same_literal e = cc

part_one : (t u : Term) → Proper top t → Proper top u → T (same_list (ended (spelt t)) (ended (spelt u))) → t ≡ u
part_one t u p q h = (spelt_one t u (32 ∷ []) (32 ∷ []) p q (same_list_eq (ended (spelt t)) (ended (spelt u)) h)).0

id_named : (n k : ℕ) → n ≤ top → k ≤ top → T (names (ended (spelt (Id n))) k) → n ≡ k
id_named n k p q h = ⊎_elim (λ a. same_id (part_one (Id n) (Id k) p q a)) (λ b. absurd (iri_or_literal n k (32 ∷ []) (32 ∷ [])
    (same_list_eq (ended (spelt (Id n))) (ended (spelt (Literal k))) b))) (or_either
    (same_list (ended (spelt (Id n))) (ended (spelt (Id k)))) (same_list (ended (spelt (Id n))) (ended (spelt (Literal k)))) h)

literal_named : (n k : ℕ) → 2 ≤ n → n ≤ top → 2 ≤ k → k ≤ top → T (names (ended (spelt (Literal n))) k) → n ≡ k
literal_named n k a p b q h = ⊎_elim (λ c. absurd (iri_or_literal k n (32 ∷ []) (32 ∷ []) (sym
    (same_list_eq (ended (spelt (Literal n))) (ended (spelt (Id k))) c)))) (λ d. same_literal (part_one (Literal n) (Literal k)
    (a, p) (b, q) d)) (or_either (same_list (ended (spelt (Literal n))) (ended (spelt (Id k))))
    (same_list (ended (spelt (Literal n))) (ended (spelt (Literal k)))) h)

pub id_of_id : (m n : ℕ) → n ≤ m → m ≤ top → id_of m (ended (spelt (Id n))) ≡ n
id_of_id m n h g = id_of_is (ended (spelt (Id n))) n m h
    (λ _. either_or (same_list (ended (spelt (Id n))) (ended (spelt (Id n)))) (same_list (ended (spelt (Id n)))
    (ended (spelt (Literal n)))) (inl (same_list_refl (ended (spelt (Id n))))))
    (λ k a b t. omega (arith, a, id_named n k (omega (arith, h, g)) (omega (arith, b, g)) t))

pub id_of_literal : (m n : ℕ) → 2 ≤ n → n ≤ m → m ≤ top → id_of m (ended (spelt (Literal n))) ≡ n
id_of_literal m n two h g = id_of_is (ended (spelt (Literal n))) n m h
    (λ _. either_or (same_list (ended (spelt (Literal n))) (ended (spelt (Id n)))) (same_list (ended (spelt (Literal n)))
    (ended (spelt (Literal n)))) (inr (same_list_refl (ended (spelt (Literal n))))))
    (λ k a b t. omega (arith, a, literal_named n k two (omega (arith, h, g)) (omega (arith, two, a)) (omega (arith, b, g)) t))

-- The number that a term tells as a part.
unfoldable pub told : Option Term → ℕ
told t = id_of top (ended (spelling t))

pub tells_id : (n : ℕ) → n ≤ top → told (Some (Id n)) ≡ n
unfolding told
tells_id n h = id_of_id top n h (omega arith)

pub tells_literal : (n : ℕ) → 2 ≤ n → n ≤ top → told (Some (Literal n)) ≡ n
unfolding told
tells_literal n two h = id_of_literal top n two h (omega arith)
