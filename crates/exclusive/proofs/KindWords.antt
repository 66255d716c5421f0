-- The words of one kind, and the facts that they stand for. Assumes nothing.
use Prim.Native.Nat.{ℕ, suc, ◌+◌, ◌≤◌, ◌<◌}
use mathlib.Core.Path.{◌≡◌, refl, sym, subst}
use mathlib.Core.Logic.{◌⊎◌, inl, inr, ⊎_elim}
use mathlib.Core.List.{List, [], ◌∷◌}
use native.Mathlib.Omega.{arith}
use native.Mathlib.Decide.{dec_lt}
use lib.Dec.{T, leb, ltb, leb→le, le→leb, ltb→lt, lt→ltb, eqb→eq}
use lib.ListN.{length, get_or}
use Rattle.rdfs.specs.Numbers.{product}
use Rattle.rdfs.specs.Lists.{◌∈◌, filter}
use Rattle.rdfs.specs.Facts.{pi, excl, made}
use Rattle.rdfs.specs.Words.{fact, is_fact, filled}
use Rattle.rdfs.proofs.Lists.Tests.{tests_and, tests_eq, tests_as, tests_agree}
use Rattle.rdfs.proofs.Lists.ListLaws.{in_cons, none_in, in_filter, filter_in, map_in}
use Rattle.rdfs.proofs.Words.Allowed.{fields}
use Rattle.rdfs.proofs.Words.LaidOut.{laid_word_in, laid_allowed, laid_is_fact}
use Rattle.table.specs.Parts.{kind_of, first_of, second_of, third_of, word_of, Shaped, Allowed}
use Rattle.table.specs.Counted.{Full, Id, facts_of}
use Rattle.table.proofs.Arity.{one_id, three_ids}
use Rattle.table.proofs.PartLaws.{word_made}
use Rattle.table.proofs.FactParts.{word_allowed}
use Rattle.table.proofs.CountedLaws.{full_filled}
use Rattle.table.proofs.Filled.{at_in}
use Rattle.flags.specs.Flagging.{within}
use Rattle.exclusive.specs.Above.{of_kind}

-- They are those from the least word of the kind up to the least of the next.
pub kind_words : (k : ℕ) {low high : ℕ} → low ≡ word_of k 0 0 0 → high ≡ word_of (k + 1) 0 0 0 → (l : List ℕ)
    → filter (within low high) l ≡ filter (of_kind k) l
kind_words k p q [] = refl
kind_words k {low} {high} p q (x ∷ l) = simp (test, kind_words k p q l)
  where
    test : within low high x ≡ of_kind k x
    test = tests_agree (tests_and {s = leb low x} {t = ltb x high}
        (record { sound = leb→le low x; complete = le→leb low x })
        (record { sound = ltb→lt x high; complete = lt→ltb x high }))
        (tests_as (tests_eq (kind_of x) k) (λ e. (omega arith, omega arith)) (λ r. omega arith))

-- One of the words before a place has these ids.
pub record Placed (words : List ℕ) (to a b c : ℕ) : Type 0 where
  pub at : ℕ
  pub before : at < to
  pub first_is : first_of (get_or words at 0) ≡ a
  pub second_is : second_of (get_or words at 0) ≡ b
  pub third_is : third_of (get_or words at 0) ≡ c

pub placed_none : {words : List ℕ} {a b c : ℕ} → Placed words 0 a b c → ⊥
placed_none p = omega (arith, p.before)

pub placed_up : {words : List ℕ} {i j a b c : ℕ} → i ≤ j → Placed words i a b c → Placed words j a b c
placed_up h p = record {
  at = p.at;
  before = omega (arith, p.before, h);
  first_is = p.first_is;
  second_is = p.second_is;
  third_is = p.third_is;
}

pub placed_last : {words : List ℕ} (i : ℕ) {a b c : ℕ} → first_of (get_or words i 0) ≡ a → second_of (get_or words i 0) ≡ b
    → third_of (get_or words i 0) ≡ c → Placed words (i + 1) a b c
placed_last i p q r = record { at = i; before = omega arith; first_is = p; second_is = q; third_is = r }

-- It is the last, or stands before.
module _ {words : List ℕ} {i : ℕ} where
  pub placed_split : {a b c : ℕ} → Placed words (i + 1) a b c → Placed words i a b c
      ⊎ ((first_of (get_or words i 0) ≡ a) × (second_of (get_or words i 0) ≡ b) × (third_of (get_or words i 0) ≡ c))
  placed_split {a} {b} {c} p = elim (dec_lt p.at i) [
    | yes h ↦
        inl record { at = p.at; before = h; first_is = p.first_is; second_is = p.second_is; third_is = p.third_is }
    | no h ↦
        let same : p.at ≡ i = omega (arith, h, p.before) in
        inr (subst (λ j. (first_of (get_or words j 0) ≡ a) × (second_of (get_or words j 0) ≡ b)
        × (third_of (get_or words j 0) ≡ c)) same (p.first_is, p.second_is, p.third_is))
  ]

-- A member of a list has a place.
in_at : (l : List ℕ) (v : ℕ) → v ∈ l → (i : ℕ) × (i < length l) × (get_or l i 0 ≡ v)
in_at [] v h = absurd (none_in h)
in_at (x ∷ l) v h = ⊎_elim (λ e. (0, omega arith, sym e)) (λ m. let r = in_at l v m in
    (suc r.0, omega (arith, r.1), r.2)) (in_cons h)

-- The words of kind k among facts.
pub record KindWords (t : List ℕ) (k : ℕ) (words : List ℕ) : Type 0 where
  pub full : Full t
  pub all : words ≡ filter (of_kind k) t

module _ {t words : List ℕ} {k : ℕ} (w : KindWords t k words) where
  module _ {i : ℕ} (h : i < length words) where
    stands : (get_or words i 0 ∈ filled t) × T (of_kind k (get_or words i 0))
    stands =
        let m = in_filter (of_kind k) t (subst (λ l. get_or words i 0 ∈ l) w.all (at_in words i h)) in
        (subst (λ l. get_or words i 0 ∈ l) (full_filled w.full) m.0, m.1)

    pub place_fact : T (is_fact product (get_or words i 0))
    place_fact = laid_is_fact product t w.full.laid (get_or words i 0) stands.0

    pub place_allowed : Allowed product.top (kind_of (get_or words i 0)) (first_of (get_or words i 0))
        (second_of (get_or words i 0)) (third_of (get_or words i 0))
    place_allowed = word_allowed (get_or words i 0) place_fact

    pub place_kind : kind_of (get_or words i 0) ≡ k
    place_kind = eqb→eq (kind_of (get_or words i 0)) k stands.1

  -- They stand for the facts of the kind.
  pub placed_fact : {i a b d : ℕ} → i ≤ length words → Placed words i a b d → made k a b d ∈ facts_of t
  placed_fact {i} {a} {b} {d} h p =
      let word : ℕ = get_or words p.at 0 in
      let l : p.at < length words = omega (arith, h, p.before) in
      let there : made (kind_of word) (first_of word) (second_of word) (third_of word) ∈ facts_of t =
      map_in (fact product.base) (stands l).0 in
      subst (λ x. made k a b x ∈ facts_of t) p.third_is (subst (λ x. made k a x (third_of word) ∈ facts_of t) p.second_is
      (subst (λ x. made k x (second_of word) (third_of word) ∈ facts_of t) p.first_is
      (subst (λ x. made x (first_of word) (second_of word) (third_of word) ∈ facts_of t) (place_kind l) there)))

  fact_placed : {a b d : ℕ} → Shaped k b d → Id a → Id b → Id d → made k a b d ∈ facts_of t
      → Placed words (length words) a b d
  fact_placed {a} {b} {d} s x y z h =
      let word : ℕ = word_of k a b d in
      let there : word ∈ filled t =
      subst (λ v. v ∈ filled t) (word_made k a b d s) (laid_word_in product t w.full.laid (made k a b d) h) in
      let here_too : word ∈ t = subst (λ l. word ∈ l) (sym (full_filled w.full)) there in
      let of : T (of_kind k word) = (tests_eq (kind_of word) k).complete (omega (arith, x, y, z)) in
      let p = in_at words word (subst (λ l. word ∈ l) (sym w.all) (filter_in (of_kind k) t here_too of)) in
      record {
        at = p.0;
        before = p.1;
        first_is = omega (arith, p.2, x, y, z);
        second_is = omega (arith, p.2, x, y, z);
        third_is = omega (arith, p.2, x, y, z);
      }

module _ {t words : List ℕ} where
  pub value_placed : {a b d : ℕ} → KindWords t 10 words → pi a b d ∈ facts_of t → Placed words (length words) a b d
  value_placed {a} {b} {d} w h =
      let ids = fields product.top (pi a b d) (laid_allowed product t w.full.laid (pi a b d) h) in
      fact_placed w (three_ids 10 b d refl) ids.one ids.two ids.three h

  pub exclusive_placed : {a : ℕ} → KindWords t 11 words → excl a ∈ facts_of t → Placed words (length words) a 0 0
  exclusive_placed {a} w h =
      let ids = fields product.top (excl a) (laid_allowed product t w.full.laid (excl a) h) in
      fact_placed w (one_id 11 refl) ids.one ids.two ids.three h
