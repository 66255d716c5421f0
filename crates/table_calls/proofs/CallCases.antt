-- What the public calls promise, case by case. Assumes nothing.
use Prim.Native.Nat.{ℕ, ◌<◌}
use mathlib.Core.Path.{◌≡◌, refl, sym, ap, subst}
use mathlib.Core.Bool.{Bool, true, false, not, ◌&&◌, cond}
use mathlib.Core.Logic.{inl}
use mathlib.Core.List.{List, [], ◌∷◌}
use native.Mathlib.Omega.{arith}
use native.Mathlib.Decide.{dec_lt}
use lib.Dec.{T}
use lib.ListN.{length, set}
use Rattle.rdfs.specs.Numbers.{Numbers, product}
use Rattle.rdfs.specs.Lists.{member}
use Rattle.rdfs.specs.Words.{laid_out, filled, fresh}
use Rattle.rdfs.specs.Refusals.{or_else, bad_size}
use Rattle.table.specs.Parts.{word_of}
use Rattle.table.specs.Room.{cleared_from}
use Rattle.table.proofs.Sizes.{tests_size}
use Rattle.table.proofs.TableRefusals.{refusal}
use Rattle.table_calls.specs.Calls.{fresh_answer, fresh_words, lookup_answer, lookup_present}

-- Whether a lookup says yes, by the tests of a table's size and layout.
abbrev says : Bool → Bool → Bool → Bool
says bad laid there = not bad && (not (not laid) && there)

says_no : (bad laid there : Bool) → (refusal bad laid ≡ 0 → ⊥) → says bad laid there ≡ false
says_no true laid there n = refl
says_no false true there n = absurd (n refl)
says_no false false there n = refl

says_whether : (bad laid there : Bool) → refusal bad laid ≡ 0 → says bad laid there ≡ there
says_whether true laid there e = absurd (omega arith)
says_whether false true there e = refl
says_whether false false there e = absurd (omega arith)

module _ (t : List ℕ) where
  module _ (w : ℕ) where
    pub present_refused : (lookup_answer t ≡ 0 → ⊥) → lookup_present t w ≡ false
    present_refused n = says_no (bad_size product t) (laid_out product 1 t) (member (filled t) w) n

    pub present_taken : lookup_answer t ≡ 0 → lookup_present t w ≡ member (filled t) w
    present_taken e = says_whether (bad_size product t) (laid_out product 1 t) (member (filled t) w) e

  pub fresh_refused : bad_size product t ≡ true → (1 ≡ fresh_answer t) × (t ≡ fresh_words t)
  fresh_refused p = (sym (ap (λ b. or_else b 1 0) p), sym (ap (λ b. cond b t (fresh product (length t))) p))

  pub fresh_taken : bad_size product t ≡ false → (0 ≡ fresh_answer t) × (fresh product (length t) ≡ fresh_words t)
  fresh_taken p = (sym (ap (λ b. or_else b 1 0) p), sym (ap (λ b. cond b t (fresh product (length t))) p))

-- A table of a good size has a first word.
pub size_some : (N : Numbers) (t : List ℕ) → bad_size N t ≡ false → 0 < length t
size_some N t e =
    elim (dec_lt 0 (length t)) [ yes l ↦ l | no n ↦ absurd (subst T e ((tests_size N t).complete (inl (omega (arith, n))))) ]

-- The word of Cl(0), then zeros.
pub fresh_made : (t : List ℕ) → 0 < length t → cleared_from (set t 0 (word_of 1 0 0 0)) 1 ≡ fresh product (length t)
fresh_made [] h = absurd (omega arith)
fresh_made (x ∷ t) h = refl
