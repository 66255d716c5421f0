-- A fact's ids in a body, both ways: the fact of a kind whose ids stand at a place. Assumes nothing.
use Prim.Native.Nat.{ℕ, zero, suc, ◌+◌, ◌*◌, ◌^◌, ◌≤◌, ◌<◌}
use mathlib.Core.Path.{◌≡◌, refl, sym, ap, subst, ◌∙◌}
use mathlib.Core.List.{List, [], ◌∷◌, ◌++◌}
use native.Mathlib.Omega.{arith}
use lib.Dec.{lit≤}
use lib.ListN.{length, get_or, take, drop}
use Rattle.rdfs.specs.Numbers.{kind_count, arity}
use Rattle.rdfs.specs.Lists.{concat_map}
use Rattle.rdfs.specs.Facts.{Fact, kind, ids, first, second, third, made}
use Rattle.rdfs.specs.Words.{word}
use Rattle.rdfs.proofs.Words.FactLaws.{made_of}
use Rattle.rdfs.proofs.Words.Digits.{Below}
use Rattle.rdfs.proofs.Theorems.{arity_is}
use Rattle.table.proofs.Arity.{shaped_some, shaped_within}
use Rattle.table.proofs.PartLaws.{parts_shaped}
use Rattle.contents.specs.ImageForm.{Form, Proper, fact_size, in_bytes}
use Rattle.contents.specs.Reading.{id_at}
use Rattle.contents.proofs.InBytes.{AllBytes, Under, under_take, numbers_from, numbers_read, numbers_written, number_bound}

-- A number is a kind: what is made of it is of that kind and has as many ids as it says.
pub record IsKind (k : ℕ) : Type 0 where
  pub of_kind_lem : (a b c : ℕ) → kind (made k a b c) ≡ k
  pub has_ids : (a b c : ℕ) → ids (made k a b c) ≡ take (arity k) (a ∷ b ∷ c ∷ [])
  pub some : 1 ≤ arity k
  pub few : arity k ≤ 3

pub is_kind : (k : ℕ) → 1 ≤ k → k ≤ kind_count → IsKind k
is_kind zero h l = absurd (omega arith)
is_kind (suc zero) h l = record { of_kind_lem = λ a b c. refl; has_ids = λ a b c. refl; some = lit≤ tt; few = lit≤ tt }
is_kind (suc (suc zero)) h l = record { of_kind_lem = λ a b c. refl; has_ids = λ a b c. refl; some = lit≤ tt; few = lit≤ tt }
is_kind (suc (suc (suc zero))) h l = record { of_kind_lem = λ a b c. refl; has_ids = λ a b c. refl; some = lit≤ tt; few = lit≤ tt }
is_kind (suc (suc (suc (suc zero)))) h l =
    record { of_kind_lem = λ a b c. refl; has_ids = λ a b c. refl; some = lit≤ tt; few = lit≤ tt }
is_kind (suc (suc (suc (suc (suc zero))))) h l =
    record { of_kind_lem = λ a b c. refl; has_ids = λ a b c. refl; some = lit≤ tt; few = lit≤ tt }
is_kind (suc (suc (suc (suc (suc (suc zero)))))) h l =
    record { of_kind_lem = λ a b c. refl; has_ids = λ a b c. refl; some = lit≤ tt; few = lit≤ tt }
is_kind (suc (suc (suc (suc (suc (suc (suc zero))))))) h l =
    record { of_kind_lem = λ a b c. refl; has_ids = λ a b c. refl; some = lit≤ tt; few = lit≤ tt }
is_kind (suc (suc (suc (suc (suc (suc (suc (suc zero)))))))) h l =
    record { of_kind_lem = λ a b c. refl; has_ids = λ a b c. refl; some = lit≤ tt; few = lit≤ tt }
is_kind (suc (suc (suc (suc (suc (suc (suc (suc (suc zero))))))))) h l =
    record { of_kind_lem = λ a b c. refl; has_ids = λ a b c. refl; some = lit≤ tt; few = lit≤ tt }
is_kind (suc (suc (suc (suc (suc (suc (suc (suc (suc (suc zero)))))))))) h l =
    record { of_kind_lem = λ a b c. refl; has_ids = λ a b c. refl; some = lit≤ tt; few = lit≤ tt }
is_kind (suc (suc (suc (suc (suc (suc (suc (suc (suc (suc (suc zero))))))))))) h l =
    record { of_kind_lem = λ a b c. refl; has_ids = λ a b c. refl; some = lit≤ tt; few = lit≤ tt }
is_kind (suc (suc (suc (suc (suc (suc (suc (suc (suc (suc (suc (suc k)))))))))))) h l = absurd (omega arith)

pub fact_kind_lem : (f : Fact) → (1 ≤ kind f) × (kind f ≤ kind_count)
fact_kind_lem f = let s = parts_shaped f in (shaped_some s, shaped_within s)

-- The ids that a kind has no use for do not matter.
pub made_again : {k : ℕ} → IsKind k → (a b c : ℕ) → let l : List ℕ = take (arity k) (a ∷ b ∷ c ∷ []) in
    made k a b c ≡ made k (get_or l 0 0) (get_or l 1 0) (get_or l 2 0)
made_again {k} i a b c =
    let f : Fact = made k a b c in
    sym (made_of f) ∙ (ap (λ n. made n (first f) (second f) (third f)) (i.of_kind_lem a b c)
    ∙ ap (λ l. made k (get_or l 0 0) (get_or l 1 0) (get_or l 2 0)) (i.has_ids a b c))

-- The word of what is made of a kind and ids, by the ids that it has.
pub word_made : {k : ℕ} → IsKind k → (B a b c : ℕ) → let l : List ℕ = take (arity k) (a ∷ b ∷ c ∷ []) in
    word B (made k a b c) ≡ ((k * B + get_or l 0 0) * B + get_or l 1 0) * B + get_or l 2 0
word_made {k} i B a b c =
    let f : Fact = made k a b c in
    ap (λ n. ((n * B + first f) * B + second f) * B + third f) (i.of_kind_lem a b c)
    ∙ ap (λ l. ((k * B + get_or l 0 0) * B + get_or l 1 0) * B + get_or l 2 0) (i.has_ids a b c)

pub ids_count : (f : Fact) → length (ids f) ≡ arity (kind f)
ids_count f = sym (arity_is f)

module _ (F : Form) (proper : Proper F) (bytes : List ℕ) where
  -- The ids at a place, as many as are wanted.
  ids_at : (p n : ℕ) → n ≤ 3 → take n (id_at F bytes p 0 ∷ id_at F bytes p 1 ∷ id_at F bytes p 2 ∷ []) ≡ numbers_from F.id_size
      bytes p n
  ids_at p n h =
      let s : ℕ = F.id_size in
      let a : p + 0 * s ≡ p = omega arith in
      let b : p + 1 * s ≡ p + s = omega arith in
      let c : p + 2 * s ≡ p + s + s = omega arith in
      rw (a, b, c) (firsts n h)
    where
      firsts : (n : ℕ) → n ≤ 3 → take n (numbers_from F.id_size bytes p 3) ≡ numbers_from F.id_size bytes p n
      firsts zero h = refl
      firsts (suc zero) h = refl
      firsts (suc (suc zero)) h = refl
      firsts (suc (suc (suc zero))) h = refl
      firsts (suc (suc (suc (suc n)))) h = absurd (omega arith)

  pub fact_read : (f : Fact) (rest : List ℕ) (p : ℕ) → drop p bytes ≡ concat_map (in_bytes F.id_size) (ids f) ++ rest
      → made (kind f) (id_at F bytes p 0) (id_at F bytes p 1) (id_at F bytes p 2) ≡ f
  fact_read f rest p e =
      let k : ℕ = kind f in
      let i : IsKind k = is_kind k (fact_kind_lem f).0 (fact_kind_lem f).1 in
      let same : take (arity k) (id_at F bytes p 0 ∷ id_at F bytes p 1 ∷ id_at F bytes p 2 ∷ []) ≡ ids f =
      ids_at p (arity k) i.few ∙ (ap (numbers_from F.id_size bytes p) (sym (ids_count f))
      ∙ numbers_read F.id_size proper.id bytes (ids f) rest p e) in
      made_again i (id_at F bytes p 0) (id_at F bytes p 1) (id_at F bytes p 2)
      ∙ (ap (λ l. made k (get_or l 0 0) (get_or l 1 0) (get_or l 2 0)) same ∙ made_of f)

  pub fact_written : AllBytes bytes → (k p : ℕ) → IsKind k → p + fact_size F k ≤ length bytes
      → concat_map (in_bytes F.id_size) (ids (made k (id_at F bytes p 0) (id_at F bytes p 1) (id_at F bytes p 2)))
      ≡ take (fact_size F k) (drop p bytes)
  fact_written b k p i h =
      ap (concat_map (in_bytes F.id_size)) (i.has_ids (id_at F bytes p 0) (id_at F bytes p 1) (id_at F bytes p 2)
      ∙ ids_at p (arity k) i.few)
      ∙ numbers_written F.id_size proper.id bytes b (arity k) p h

  -- What is made of ids of the form has ids below a base that the form's ids do not reach.
  pub fact_below : AllBytes bytes → (B k p : ℕ) → 256 ^ F.id_size ≤ B → IsKind k
      → Below B (made k (id_at F bytes p 0) (id_at F bytes p 1) (id_at F bytes p 2))
  fact_below b B k p h i =
      let id : ℕ → ℕ = id_at F bytes p in
      let bound : (n : ℕ) → id n < B = λ n. omega (arith, h, number_bound F.id_size bytes b (p + n * F.id_size)) in
      let l : List ℕ = id 0 ∷ id 1 ∷ id 2 ∷ [] in
      let part : Under B (take (arity k) l) = under_take (arity k) l (three (id 0) (id 1) (id 2) (bound 0) (bound 1) (bound 2)) in
      let same : Under B (ids (made k (id 0) (id 1) (id 2))) = subst (Under B) (sym (i.has_ids (id 0) (id 1) (id 2))) part in
      record { one = same 0; two = same 1; three = same 2 }
    where
      three : (a b c : ℕ) → a < B → b < B → c < B → Under B (a ∷ b ∷ c ∷ [])
      three a b c p q r zero = p
      three a b c p q r (suc zero) = q
      three a b c p q r (suc (suc zero)) = r
      three a b c p q r (suc (suc (suc n))) = omega arith
