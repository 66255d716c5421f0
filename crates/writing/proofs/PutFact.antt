-- The bytes of a fact by the parts of its word, and what is stored id by id. Assumes nothing.
use Prim.Native.Nat.{ℕ, ◌+◌, ◌*◌, ◌^◌, ◌≤◌, ◌<◌}
use mathlib.Core.Path.{◌≡◌, sym, ap, ◌∙◌}
use mathlib.Core.List.{List, [], ◌∷◌, ◌++◌, append-nil, append_assoc}
use native.Mathlib.Omega.{arith}
use native.Mathlib.Nat.{mul-le-mul_right}
use lib.Dec.{T}
use lib.ListN.{length, take, length-append}
use Rattle.rdfs.specs.Numbers.{product, kind_count}
use Rattle.rdfs.specs.Lists.{concat_map}
use Rattle.rdfs.specs.Words.{is_fact}
use Rattle.table.specs.Parts.{kind_of, first_of, second_of, third_of}
use Rattle.table.proofs.Arity.{shaped_some, shaped_within}
use Rattle.table.proofs.FactParts.{word_shaped, word_allowed, fact_kind_lem}
use Rattle.contents.specs.ImageForm.{Form, byte_values, fact_size, in_bytes}
use Rattle.contents.specs.Image.{id_bytes}
use Rattle.contents.proofs.InBytes.{in_bytes_length}
use Rattle.contents.proofs.FactsRead.{IsKind, is_kind}
use Rattle.contents.proofs.WordsRead.{id_bytes_length}
use Rattle.table.specs.Overlay.{over}
use Rattle.writing.specs.Writing.{NewFact}
use Rattle.table.proofs.Overlaid.{over_more}

module _ (w : ℕ) (f : T (is_fact product w)) where
  kind_bounds : (1 ≤ kind_of w) × (kind_of w ≤ kind_count)
  kind_bounds = let s = word_shaped w f in (shaped_some s, shaped_within s)

  pub word_kind : IsKind (kind_of w)
  word_kind = is_kind (kind_of w) kind_bounds.0 kind_bounds.1

-- One id more behind those that are stored.
one_more : (s : ℕ) (out : List ℕ) (at n : ℕ) (new : List ℕ) (x : ℕ) → length new ≡ n → at + n ≤ length out → (out₁ out₂ : List ℕ)
    → out₁ ≡ over out at new → out₂ ≡ over out₁ (at + n) (in_bytes s x) → out₂ ≡ over out at (new ++ in_bytes s x)
one_more s out at n new x e room out₁ out₂ p q =
    q ∙ (ap (λ l. over l (at + n) (in_bytes s x)) p ∙ (ap (λ m. over (over out at new) (at + m) (in_bytes s x)) (sym e)
    ∙ over_more out at new (omega (arith, e, room)) (in_bytes s x)))

module _ {F : Form} {out : List ℕ} {at w ids : ℕ} (new : NewFact F out at w ids) where
  abbrev s : ℕ
  s = F.id_size

  fact_size_is : length (id_bytes product F w) ≡ ids * s
  fact_size_is = id_bytes_length product F w ∙ (ap (fact_size F) (fact_kind_lem w new.fact) ∙ ap (λ n. n * s) (sym new.arity_is))

  -- Its ids have room in their bytes,
  pub first_small : first_of w < byte_values ^ s
  first_small = omega (arith, (word_allowed w new.fact).first, new.form.held)

  pub second_small : second_of w < byte_values ^ s
  second_small = omega (arith, (word_allowed w new.fact).second, new.form.held)

  pub third_small : third_of w < byte_values ^ s
  third_small = omega (arith, (word_allowed w new.fact).third, new.form.held)

  -- and their bytes in the output.
  some : 1 ≤ ids
  some = omega (arith, new.arity_is, (word_kind w new.fact).some)

  ids_room : (n : ℕ) → n ≤ ids → at + n * s ≤ length out
  ids_room n h = omega (arith, new.room, fact_size_is, mul-le-mul_right s h)

  pub one_room : at + s ≤ length out
  one_room = omega (arith, ids_room 1 some)

  pub two_room : (ids ≡ 1 → ⊥) → at + s + s ≤ length out
  two_room a = omega (arith, ids_room 2 (omega (arith, some, a)))

  pub three_room : (ids ≡ 1 → ⊥) → (ids ≡ 2 → ⊥) → at + s + s + s ≤ length out
  three_room a b = omega (arith, ids_room 3 (omega (arith, some, a, b)))

  -- Its bytes are those of as many ids as the kind has.
  fact_bytes_lem : (n : ℕ) → ids ≡ n → id_bytes product F w ≡ concat_map (in_bytes s) (take n (first_of w ∷ second_of w ∷ third_of w ∷ []))
  fact_bytes_lem n e = ap (concat_map (in_bytes s)) ((word_kind w new.fact).has_ids (first_of w) (second_of w) (third_of w)
      ∙ ap (λ m. take m (first_of w ∷ second_of w ∷ third_of w ∷ [])) (sym new.arity_is ∙ e))

  -- One, two and three ids stored.
  abbrev Put : ℕ → List ℕ → Type 0
  Put next out' = (next ≡ at + length (id_bytes product F w)) × (out' ≡ over out at (id_bytes product F w))

  module _ (a : ℕ) (p : a ≡ first_of w) (out₁ : List ℕ) (e₁ : out₁ ≡ over out at (in_bytes s a)) where
    first : out₁ ≡ over out at (in_bytes s (first_of w))
    first = e₁ ∙ ap (λ x. over out at (in_bytes s x)) p

    pub put_one : ids ≡ 1 → Put (at + s) out₁
    put_one e =
        let b : id_bytes product F w ≡ in_bytes s (first_of w) = fact_bytes_lem 1 e ∙ append-nil (in_bytes s (first_of w)) in
        (omega (arith, ap length b, in_bytes_length s (first_of w)), first ∙ ap (over out at) (sym b))

    module _ (b : ℕ) (q : b ≡ second_of w) (out₂ : List ℕ) (e₂ : out₂ ≡ over out₁ (at + s) (in_bytes s b)) where
      second : out₂ ≡ over out at (in_bytes s (first_of w) ++ in_bytes s (second_of w))
      second = one_more s out at s (in_bytes s (first_of w)) (second_of w) (in_bytes_length s (first_of w)) one_room out₁ out₂ first
          (e₂ ∙ ap (λ x. over out₁ (at + s) (in_bytes s x)) q)

      pub put_two : ids ≡ 2 → Put (at + s + s) out₂
      put_two e =
          let is : id_bytes product F w ≡ in_bytes s (first_of w) ++ in_bytes s (second_of w) =
          fact_bytes_lem 2 e ∙ ap (λ l. in_bytes s (first_of w) ++ l) (append-nil (in_bytes s (second_of w))) in
          (omega (arith, fact_size_is, ap (λ n. n * s) e), second ∙ ap (over out at) (sym is))

      pub put_three : (ids ≡ 1 → ⊥) → (ids ≡ 2 → ⊥) → (c : ℕ) → c ≡ third_of w → (out₃ : List ℕ)
          → out₃ ≡ over out₂ (at + s + s) (in_bytes s c) → Put (at + s + s + s) out₃
      put_three f g c r out₃ e₃ =
          let e : ids ≡ 3 = omega (arith, some, (word_kind w new.fact).few, new.arity_is, f, g) in
          let before : List ℕ = in_bytes s (first_of w) ++ in_bytes s (second_of w) in
          let long : length before ≡ s + s = length-append (in_bytes s (first_of w)) (in_bytes s (second_of w))
          ∙ omega (arith, in_bytes_length s (first_of w), in_bytes_length s (second_of w)) in
          let place : at + s + s ≡ at + (s + s) = omega arith in
          let third : out₃ ≡ over out at (before ++ in_bytes s (third_of w)) =
          one_more s out at (s + s) before (third_of w) long (omega (arith, two_room f)) out₂ out₃ second
          (e₃ ∙ (ap (λ x. over out₂ (at + s + s) (in_bytes s x)) r ∙ ap (λ n. over out₂ n (in_bytes s (third_of w))) place)) in
          let is : id_bytes product F w ≡ before ++ in_bytes s (third_of w) =
          fact_bytes_lem 3 e ∙ (ap (λ l. in_bytes s (first_of w) ++ (in_bytes s (second_of w) ++ l)) (append-nil (in_bytes s (third_of w)))
          ∙ sym (append_assoc (in_bytes s (first_of w)) (in_bytes s (second_of w)) (in_bytes s (third_of w)))) in
          (omega (arith, fact_size_is, ap (λ n. n * s) e), third ∙ ap (over out at) (sym is))
