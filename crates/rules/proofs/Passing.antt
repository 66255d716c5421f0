-- A test that goes through the words of a kind. Assumes nothing.
use Prim.Native.Nat.{ℕ, ◌+◌, ◌≤◌, ◌<◌}
use mathlib.Core.Path.{◌≡◌, ◌∙◌, sym, ap, subst}
use mathlib.Core.Logic.{⊎_elim}
use mathlib.Core.Bool.{Bool, true, false}
use mathlib.Core.List.{List}
use native.Mathlib.Nat.{eq-or-lt_of_le}
use native.Mathlib.Omega.{arith}
use lib.ListN.{length}
use Rattle.table.specs.Parts.{kind_of, first_of, second_of, third_of}
use Rattle.spans.specs.Spans.{at}
use Rattle.spans.specs.Passes.{OfKind}
use Rattle.spans.proofs.KindWords.{each_of}
use Rattle.rules.specs.Tested.{Tested, all_true, one_false}

-- What a test gives for the ids of a word.
abbrev pub GivesAt : (ℕ → ℕ → ℕ → Bool → Type 0) → ℕ → Bool → Type 0
GivesAt Gives word b = Gives (first_of word) (second_of word) (third_of word) b

pub gives_at : (Gives : ℕ → ℕ → ℕ → Bool → Type 0) (word : ℕ) {a b c : ℕ} {r s : Bool} → a ≡ first_of word
    → b ≡ second_of word → c ≡ third_of word → r ≡ s → Gives a b c r → GivesAt Gives word s
gives_at Gives word p q s e g = rw (sym p, sym q, sym s, sym e) g

-- The test gave true for the first i words of the kind.
pub record Passing (t : List ℕ) (k : ℕ) (Gives : ℕ → ℕ → ℕ → Bool → Type 0) (words : List ℕ) (i : ℕ) : Type 0 where
  pub kind : OfKind t k words
  pub passed : (n : ℕ) → n < i → n < length words → GivesAt Gives (at words n) true

pub passing_none : {t words : List ℕ} {k : ℕ} (Gives : ℕ → ℕ → ℕ → Bool → Type 0) → OfKind t k words → Passing t k Gives words 0
passing_none Gives W = record { kind = W; passed = λ n a b. absurd (omega arith) }

module _ {t words : List ℕ} {k i : ℕ} {Gives : ℕ → ℕ → ℕ → Bool → Type 0} (P : Passing t k Gives words i) where
  pub passing_end : length words ≤ i → Tested t k Gives true
  passing_end h = all_true (each_of P.kind (λ a b c. Gives a b c true) (λ n b. P.passed n (omega arith) b))

  pub passing_more : GivesAt Gives (at words i) true → Passing t k Gives words (i + 1)
  passing_more g = record {
    kind = P.kind;
    passed = λ n a b. ⊎_elim (λ z. subst (λ (x : ℕ). GivesAt Gives (at words x) true) (sym z) g) (λ z. P.passed n z b)
        (eq-or-lt_of_le (omega arith));
  }

  pub passing_broken : i < length words → GivesAt Gives (at words i) false → Tested t k Gives false
  passing_broken h g =
      let (e, (m, l, s)) = P.kind.here i h in
      one_false m l (ap kind_of s ∙ e) (subst (λ w. GivesAt Gives w false) (sym s) g)
