-- A word is a fact's exactly if its kind and ids are shaped and allowed. Assumes nothing.
use Prim.Native.Nat.{ℕ, ◌+◌, ◌*◌, ◌/◌, ◌%◌, ◌≤◌, ◌<◌}
use mathlib.Core.Path.{◌≡◌, refl, sym, ap, subst, ◌∙◌}
use mathlib.Core.Bool.{Bool, true, false, ◌&&◌, cond}
use native.Mathlib.Omega.{arith}
use native.Mathlib.Nat.{div-add-mod', mod-lt}
use lib.Dec.{eqb, lit≤, lit<}
use Rattle.rdfs.specs.Numbers.{Numbers, product, arity}
use Rattle.rdfs.specs.Facts.{Fact, cl, pr, ind, lit, csub, psub, dom, rng, ci, pi, excl, kind, first, second, third, made}
use Rattle.rdfs.specs.Words.{word, allowed, is_fact}
use Rattle.rdfs.proofs.Lists.Tests.{Tests, tests_and, tests_eq, tests_as}
use Rattle.rdfs.proofs.Words.Digits.{digits, Below}
use Rattle.rdfs.proofs.Words.Allowed.{tests_allowed}
use Rattle.table.specs.Parts.{kind_of, first_of, second_of, third_of, word_of, Shaped, Allowed}
use Rattle.table.proofs.Arity.{each_kind, one_id, two_ids, three_ids}

-- A fact's own parts are shaped.
pub parts_shaped : (f : Fact) → Shaped (kind f) (second f) (third f)
parts_shaped (cl a) = one_id 1 refl
parts_shaped (pr a) = one_id 2 refl
parts_shaped (ind a) = one_id 3 refl
parts_shaped (lit a) = one_id 4 refl
parts_shaped (csub a b) = two_ids 5 b refl
parts_shaped (psub a b) = two_ids 6 b refl
parts_shaped (dom a b) = two_ids 7 b refl
parts_shaped (rng a b) = two_ids 8 b refl
parts_shaped (ci a b) = two_ids 9 b refl
parts_shaped (pi a b c) = three_ids 10 b c refl
parts_shaped (excl a) = one_id 11 refl

-- Shaped parts are those of the fact made of them.
record Parts (k a b c : ℕ) (f : Fact) : Type 0 where
  kind_is : kind f ≡ k
  first_is : first f ≡ a
  second_is : second f ≡ b
  third_is : third f ≡ c

own_parts : (f : Fact) → Parts (kind f) (first f) (second f) (third f) f
own_parts f = record { kind_is = refl; first_is = refl; second_is = refl; third_is = refl }

module _ (a b c : ℕ) where
  of_one : {k : ℕ} {f : Fact} → arity k ≤ 1 → Parts k a 0 0 f → Shaped k b c → Parts k a b c f
  of_one h p s = record {
    kind_is = p.kind_is;
    first_is = p.first_is;
    second_is = p.second_is ∙ sym (s.second h);
    third_is = p.third_is ∙ sym (s.third (omega (arith, h)));
  }

  of_two : {k : ℕ} {f : Fact} → arity k ≤ 2 → Parts k a b 0 f → Shaped k b c → Parts k a b c f
  of_two h p s = record {
    kind_is = p.kind_is;
    first_is = p.first_is;
    second_is = p.second_is;
    third_is = p.third_is ∙ sym (s.third h);
  }

  made_parts : (k : ℕ) → Shaped k b c → Parts k a b c (made k a b c)
  made_parts k s =
      each_kind (λ k. Shaped k b c → Parts k a b c (made k a b c))
      (of_one (lit≤ tt) (own_parts (cl a)))
      (of_one (lit≤ tt) (own_parts (pr a)))
      (of_one (lit≤ tt) (own_parts (ind a)))
      (of_one (lit≤ tt) (own_parts (lit a)))
      (of_two (lit≤ tt) (own_parts (csub a b)))
      (of_two (lit≤ tt) (own_parts (psub a b)))
      (of_two (lit≤ tt) (own_parts (dom a b)))
      (of_two (lit≤ tt) (own_parts (rng a b)))
      (of_two (lit≤ tt) (own_parts (ci a b)))
      (λ _. own_parts (pi a b c))
      (of_one (lit≤ tt) (own_parts (excl a)))
      k s.some s

-- `allowed` by a fact's parts.
tests_ids : (top : ℕ) (f : Fact) → Tests (allowed top f) (Allowed top (kind f) (first f) (second f) (third f))
tests_ids top f =
    tests_as (tests_allowed top f)
    (λ h. record {
      first = h.one;
      second = h.two;
      third = h.three;
      not_first = h.one_mark;
      not_third = h.three_mark;
      not_second = h.two_mark;
    })
    (λ h. record {
      one = h.first;
      two = h.second;
      three = h.third;
      one_mark = h.not_first;
      two_mark = h.not_second;
      three_mark = h.not_third;
    })

-- The ids of what is made of digits are digits.
pick : (P : Fact → Type 0) (t : Bool) {f g : Fact} → P f → P g → P (cond t f g)
pick P true p q = p
pick P false p q = q

made_below : (B k a b c : ℕ) → a < B → b < B → c < B → Below B (made k a b c)
made_below B k a b c p q r =
    choose 1 (of p z z) (choose 2 (of p z z)
    (choose 3 (of p z z) (choose 4 (of p z z) (choose 5 (of p q z) (choose 6 (of p q z) (choose 7 (of p q z)
    (choose 8 (of p q z) (choose 9 (of p q z) (choose 11 (of p z z) (of p q r))))))))))
  where
    z : 0 < B
    z = omega arith

    choose : (n : ℕ) {f g : Fact} → Below B f → Below B g → Below B (cond (eqb k n) f g)
    choose n u v = pick (Below B) (eqb k n) u v

    of : {f : Fact} → first f < B → second f < B → third f < B → Below B f
    of u v x = record { one = u; two = v; three = x }

-- A statement carried from a fact's parts to equal ones, and back.
module _ (Q : ℕ → ℕ → ℕ → ℕ → Type 0) {k a b c : ℕ} {f : Fact} (p : Parts k a b c f) where
  parts_to : Q (kind f) (first f) (second f) (third f) → Q k a b c
  parts_to h = subst (λ n. Q n a b c) p.kind_is (subst (λ n. Q (kind f) n b c) p.first_is
      (subst (λ n. Q (kind f) (first f) n c) p.second_is (subst (Q (kind f) (first f) (second f)) p.third_is h)))

  parts_from : Q k a b c → Q (kind f) (first f) (second f) (third f)
  parts_from h = subst (λ n. Q n (first f) (second f) (third f)) (sym p.kind_is) (subst (λ n. Q k n (second f) (third f))
      (sym p.first_is) (subst (λ n. Q k a n (third f)) (sym p.second_is) (subst (Q k a b) (sym p.third_is) h)))

-- A number is made of its digits at a base.
digits_whole : (B w : ℕ) → ((w / B / B / B * B + w / B / B % B) * B + w / B % B) * B + w % B ≡ w
digits_whole B w =
    ap (λ n. (n * B + w / B % B) * B + w % B) (div-add-mod' (w / B / B) B) ∙ (ap (λ n. n * B + w % B) (div-add-mod' (w / B) B)
    ∙ div-add-mod' w B)

-- Digits are the parts of the fact made of them exactly if its word is theirs.
module _ (B k a b c : ℕ) (p : a < B) (q : b < B) (r : c < B) where
  word_parts : word B (made k a b c) ≡ ((k * B + a) * B + b) * B + c → Parts k a b c (made k a b c)
  word_parts e =
      let f : Fact = made k a b c in
      let l = made_below B k a b c p q r in
      let x = digits B _ (third f) _ c l.three r e in
      let y = digits B _ (second f) _ b l.two q x.0 in
      let z = digits B (kind f) (first f) k a l.one p y.0 in
      record { kind_is = z.0; first_is = z.1; second_is = y.1; third_is = x.1 }

parts_word : (B k a b c : ℕ) → Parts k a b c (made k a b c) → word B (made k a b c) ≡ ((k * B + a) * B + b) * B + c
parts_word B k a b c s = parts_from (λ k' a' b' c'. ((k' * B + a') * B + b') * B + c' ≡ ((k * B + a) * B + b) * B + c) s refl

-- The word of the fact made of shaped parts.
pub word_made : (k a b c : ℕ) → Shaped k b c → word product.base (made k a b c) ≡ word_of k a b c
word_made k a b c s = parts_word product.base k a b c (made_parts a b c k s)

module _ (N : Numbers) (w k a b c : ℕ) (p : a < N.base) (q : b < N.base) (r : c < N.base)
    (whole : ((k * N.base + a) * N.base + b) * N.base + c ≡ w) where
  tests_made : Tests (eqb (word N.base (made k a b c)) w && allowed N.top (made k a b c)) (Shaped k b c
      × Allowed N.top k a b c)
  tests_made = tests_as (tests_and (tests_eq (word N.base (made k a b c)) w) (tests_ids N.top (made k a b c)))
      (λ h. let s = word_parts N.base k a b c p q r (h.0 ∙ sym whole) in
      (parts_to (λ x y z u. Shaped x z u) s (parts_shaped (made k a b c)), parts_to (Allowed N.top) s h.1))
      (λ h. let s = made_parts a b c k h.0 in
      (parts_word N.base k a b c s ∙ whole, parts_from (Allowed N.top) s h.1))

-- The same for the product, by numbers that are a word's parts.
pub tests_fact : (w k a b c : ℕ) → k ≡ kind_of w → a ≡ first_of w → b ≡ second_of w → c ≡ third_of w
    → Tests (is_fact product w) (Shaped k b c × Allowed product.top k a b c)
tests_fact w k a b c p q r s =
    let Q : ℕ → ℕ → ℕ → ℕ → Type 0 = λ x y z u. Tests (is_fact product w) (Shaped x z u × Allowed product.top x y z u) in
    let h : Q (kind_of w) (first_of w) (second_of w) (third_of w) =
    tests_made product w _ _ _ _ (mod-lt (w / product.base / product.base) (lit< tt)) (mod-lt (w / product.base) (lit< tt))
    (mod-lt w (lit< tt)) (digits_whole product.base w) in
    subst (λ n. Q n a b c) (sym p) (subst (λ n. Q (kind_of w) n b c) (sym q) (subst (λ n. Q (kind_of w) (first_of w) n c) (sym r)
    (subst (Q (kind_of w) (first_of w) (second_of w)) (sym s) h)))
