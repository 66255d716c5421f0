-- The word of a fact by the numbers at its place; the places of facts, entries and bodies lie within the bytes. Assumes nothing.
use Prim.Native.Nat.{ℕ, ◌+◌, ◌*◌, ◌≤◌, ◌<◌}
use mathlib.Core.Path.{◌≡◌, refl, sym, ap, ◌∙◌}
use mathlib.Core.List.{List, [], ◌∷◌}
use native.Mathlib.Omega.{arith}
use native.Mathlib.Nat.{mul-le-mul_left, mul-le-mul_right}
use lib.ListN.{length, get_or, take}
use Rattle.rdfs.specs.Numbers.{product, arity}
use Rattle.table.specs.Parts.{word_of, Digits}
use Rattle.contents.specs.ImageForm.{Form, fact_size}
use Rattle.contents.specs.Reading.{number_at, start_at, count_at, id_at, word_at}
use Rattle.contents.specs.Legible.{Legible}
use Rattle.contents.specs.Contents.{Contents}
use Rattle.contents.specs.WithinBytes.{HasEntry, HasFacts}
use Rattle.contents.proofs.FactsRead.{IsKind, is_kind, word_made}
use Rattle.contents.proofs.ImageAgain.{contents_within, body_placed}

module _ {F : Form} {bytes : List ℕ} {k from count : ℕ} (h : HasFacts F bytes k from count) where
  pub facts_kind : Legible F → IsKind k
  facts_kind legible = is_kind k h.some (omega (arith, h.most, legible.few))

  -- The fact after the first i of a body.
  pub fact_within : (i p : ℕ) → p ≡ from + fact_size F k * i → i < count → HasFacts F bytes k p 1
  fact_within i p e l = record {
    some = h.some;
    most = h.most;
    within = omega (arith, e, h.within, mul-le-mul_left (fact_size F k) l);
  }

-- The fact of kind k whose ids stand from place p on; n is how many ids the kind has.
module _ {F : Form} (legible : Legible F) {bytes : List ℕ} {k p : ℕ} (h : HasFacts F bytes k p 1) (n : ℕ) (e : n ≡ arity k) where
  abbrev s : ℕ
  s = F.id_size

  -- Its ids lie within the bytes.
  some : 1 ≤ n
  some = omega (arith, e, (facts_kind h legible).some)

  ids_within : (m : ℕ) → m ≤ n → p + m * s ≤ length bytes
  ids_within m l = omega (arith, h.within, mul-le-mul_right s l, ap (λ x. x * s) e)

  pub one_within : p + s ≤ length bytes
  one_within = omega (arith, ids_within 1 some)

  pub two_within : (n ≡ 1 → ⊥) → p + s + s ≤ length bytes
  two_within a = omega (arith, ids_within 2 (omega (arith, some, a)))

  pub three_within : (n ≡ 1 → ⊥) → (n ≡ 2 → ⊥) → p + 2 * s + s ≤ length bytes
  three_within a b = omega (arith, ids_within 3 (omega (arith, some, a, b)))

  -- With ids that are digits its kind makes a word.
  pub kind_digits : (a b c : ℕ) → a < product.base → b < product.base → c < product.base → Digits k a b c
  kind_digits a b c x y z = record { kind = omega (arith, h.most, legible.few); first = x; second = y; third = z }

  -- It is the word of as many numbers as the kind has ids.
  abbrev of : ℕ → ℕ → ℕ → ℕ → ℕ
  of m x y z = let l : List ℕ = take m (x ∷ y ∷ z ∷ []) in word_of k (get_or l 0 0) (get_or l 1 0) (get_or l 2 0)

  word_ids : (m : ℕ) → n ≡ m → (a b c : ℕ) → a ≡ number_at s bytes p → b ≡ number_at s bytes (p + s)
      → c ≡ number_at s bytes (p + 2 * s) → of m a b c ≡ word_at product F bytes k p
  word_ids m is a b c x y z =
      let zeroth : p ≡ p + 0 * s = omega arith in
      let first : p + s ≡ p + 1 * s = omega arith in
      ap (λ i. of m i b c) (x ∙ ap (number_at s bytes) zeroth) ∙ (ap (λ i. of m (id_at F bytes p 0) i c) (y
      ∙ ap (number_at s bytes) first) ∙ (ap (of m (id_at F bytes p 0) (id_at F bytes p 1)) z
      ∙ (ap (λ i. of i (id_at F bytes p 0) (id_at F bytes p 1) (id_at F bytes p 2)) (sym is ∙ e)
      ∙ sym (word_made (facts_kind h legible) product.base (id_at F bytes p 0) (id_at F bytes p 1) (id_at F bytes p 2)))))

  pub word_one : (a : ℕ) → a ≡ number_at s bytes p → n ≡ 1 → word_of k a 0 0 ≡ word_at product F bytes k p
  word_one a x is = word_ids 1 is a _ _ x refl refl

  pub word_two : (a b : ℕ) → a ≡ number_at s bytes p → b ≡ number_at s bytes (p + s) → n ≡ 2
      → word_of k a b 0 ≡ word_at product F bytes k p
  word_two a b x y is = word_ids 2 is a b _ x y refl

  pub word_three : (a b c : ℕ) → a ≡ number_at s bytes p → b ≡ number_at s bytes (p + s) → c ≡ number_at s bytes (p + 2 * s)
      → (n ≡ 1 → ⊥) → (n ≡ 2 → ⊥) → word_of k a b c ≡ word_at product F bytes k p
  word_three a b c x y z f g = word_ids 3 (omega (arith, some, (facts_kind h legible).few, e, f, g)) a b c x y z

-- Bytes whose contents are right have each entry and each body.
module _ {F : Form} {bytes : List ℕ} (c : Contents F bytes) (k : ℕ) (h : 1 ≤ k) (l : k ≤ F.entries) where
  pub contents_entry : HasEntry F bytes k
  contents_entry = record { some = h; most = l; within = contents_within F bytes c }

  pub contents_facts : (from count : ℕ) → from ≡ start_at F bytes k → count ≡ count_at F bytes k → HasFacts F bytes k from count
  contents_facts from count e d =
      record { some = h; most = l; within = body_placed F bytes c k from count h l e d }
