-- Flags of the exclusive properties at one and over it, set one by one. Assumes nothing.
use Prim.Native.Nat.{ℕ, ◌+◌, ◌-◌, ◌≤◌, ◌<◌}
use mathlib.Core.Path.{◌≡◌, refl, sym, ap, subst, ◌∙◌}
use mathlib.Core.Bool.{Bool, true, false, ◌||◌}
use mathlib.Core.Logic.{◌⊎◌, inl, inr, ⊎_elim}
use mathlib.Core.List.{List}
use native.Mathlib.Omega.{arith}
use native.Mathlib.Decide.{dec_lt}
use lib.Dec.{T, eqb}
use lib.ListN.{length, get_or, set, length-set}
use Rattle.rdfs.specs.Numbers.{product}
use Rattle.rdfs.specs.Lists.{◌∈◌, Ascending}
use Rattle.rdfs.specs.Words.{filled}
use Rattle.rdfs.specs.Facts.{Fact, excl, psub, graph}
use Rattle.rdfs.specs.Deletion.{under}
use Rattle.rdfs.proofs.Lists.Tests.{Tests, tests_and, tests_or, tests_eq, tests_as, tests_agree}
use Rattle.rdfs.proofs.Words.Allowed.{fields}
use Rattle.rdfs.proofs.Words.FactLaws.{tests_has}
use Rattle.rdfs.proofs.Words.LaidOut.{laid_word_in, laid_allowed, laid_is_fact}
use Rattle.rdfs.proofs.Deletion.Between.{tests_under}
use Rattle.rdfs.proofs.Clash.Hierarchy.{Le}
use Rattle.rdfs.proofs.Clash.SharedValues.{ExclusiveOver}
use Rattle.table.specs.Answers.{Decides}
use Rattle.table.specs.Parts.{kind_of, first_of, word_of}
use Rattle.table.specs.Found.{below}
use Rattle.table.specs.Counted.{Full, facts_of}
use Rattle.table.proofs.FactParts.{word_shaped}
use Rattle.table.proofs.Arity.{one_id, kind_within, shaped_second, shaped_third}
use Rattle.table.proofs.PartLaws.{word_made}
use Rattle.table.proofs.CountedLaws.{full_filled, full_ascending}
use Rattle.table.proofs.Filled.{at_in}
use Rattle.table.proofs.Below.{Stands, below_place, below_up}
use Rattle.flags.specs.Flags.{flagged, none, Says}
use Rattle.flags.proofs.Added.{adds_set}
use Rattle.exclusive.specs.Above.{exclusive_above}
use Rattle.exclusive.proofs.KindWords.{
  KindWords,
  Placed,
  placed_none,
  placed_up,
  placed_last,
  placed_split,
  place_fact,
  place_kind,
  placed_fact,
  exclusive_placed,
}

-- x is exclusive by one of the words before a place, and is p or over p.
abbrev Seen : List ℕ → List ℕ → ℕ → ℕ → ℕ → Type 0
Seen t words to p x = Placed words to x 0 0 × Le (λ y z. psub y z ∈ facts_of t) p x

-- The flags are those of the words before `to`, of which there are some or none.
pub record Flagging (t words : List ℕ) (to p : ℕ) (old flags : List Bool) (some : Bool) : Type 0 where
  pub same : length flags ≡ length old
  pub tests : (x : ℕ) → Tests (flagged flags x) (Seen t words to p x)
  pub any : Tests some ((x : ℕ) × Seen t words to p x)

pub flagging_start : {t words : List ℕ} {p : ℕ} {old : List Bool} → Says old none → Flagging t words 0 p old old false
flagging_start n = record {
  same = refl;
  tests = λ x. record { sound = λ h. absurd (subst T (n.at x) h); complete = λ s. absurd (placed_none s.0) };
  any = record { sound = λ h. absurd h; complete = λ s. absurd (placed_none s.1.0) };
}

-- The word at place i is that of Excl(x).
module _ {t words : List ℕ} {i x : ℕ} (w : KindWords t 11 words) (h : i < length words) (d : x ≡ first_of (get_or words i 0))
  where
    last_placed : Placed words (i + 1) x 0 0
    last_placed =
        let s = word_shaped (get_or words i 0) (place_fact w h) in
        let k = place_kind w h in
        placed_last i (sym d) (shaped_second s 11 k (omega arith)) (shaped_third s 11 k (omega arith))

    module _ {p : ℕ} {old flags : List Bool} {some : Bool} (g : Flagging t words i p old flags some) where
      -- x is p or over p: its flag is set.
      pub flagging_hit : {y : ℕ} {u : List Bool} {b : Bool} → x < length flags → under (facts_of t) 6 x p ≡ true → y ≡ x
          → u ≡ set flags y true → b ≡ true → Flagging t words (i + 1) p old u b
      flagging_hit {y} {u} {b} within e q r v =
          let over : Le (λ y z. psub y z ∈ facts_of t) p x = (tests_under (facts_of t) 6 x p).sound (subst T (sym e) tt) in
          let added : u ≡ set flags x true = r ∙ ap (λ z. set flags z true) q in
          subst (λ m. Flagging t words (i + 1) p old m b) (sym added) (subst (Flagging t words (i + 1) p old (set flags x true))
          (sym v)
          record {
            same = length-set flags x true ∙ g.same;
            tests = λ z.
                let both : Tests (flagged flags z || eqb z x) (Seen t words i p z ⊎ (z ≡ x)) =
                tests_or (g.tests z) (tests_eq z x) in
                subst (λ r. Tests r (Seen t words (i + 1) p z)) (sym ((adds_set flags refl within).at z)) (tests_as both
                (⊎_elim (λ s. (placed_up (omega arith) s.0, s.1)) (λ q. subst (Seen t words (i + 1) p) (sym q)
                (last_placed, over)))
                (λ s. ⊎_elim (λ r. inl (r, s.1)) (λ r. inr (sym (d ∙ r.0))) (placed_split s.0)));
            any = record { sound = λ _. (x, (last_placed, over)); complete = λ _. tt };
          })

      -- It is not.
      pub flagging_miss : {u : List Bool} {b : Bool} → under (facts_of t) 6 x p ≡ false → u ≡ flags → b ≡ some
          → Flagging t words (i + 1) p old u b
      flagging_miss {u} {b} e r v =
          subst (λ m. Flagging t words (i + 1) p old m b) (sym r) (subst (Flagging t words (i + 1) p old flags) (sym v) record {
            same = g.same;
            tests = λ z. tests_as (g.tests z) (up z) (down z);
            any = tests_as g.any (λ s. (s.0, up s.0 s.1)) (λ s. (s.0, down s.0 s.1));
          })
        where
          up : (z : ℕ) → Seen t words i p z → Seen t words (i + 1) p z
          up z s = (placed_up (omega arith) s.0, s.1)

          down : (z : ℕ) → Seen t words (i + 1) p z → Seen t words i p z
          down z s = ⊎_elim (λ r. (r, s.1))
              (λ r. absurd (subst T e ((tests_under (facts_of t) 6 x p).complete (subst (Le (λ y z. psub y z ∈ facts_of t) p)
              (sym (d ∙ r.0)) s.1)))) (placed_split s.0)

-- Excl(x) stands, and x is p or over it: the test, and flags that say so.
module _ (K : List Fact) (p : ℕ) where
  pub tests_above : (x : ℕ) → Tests (exclusive_above K p x) (ExclusiveOver (graph K) p x)
  tests_above x = tests_and (tests_has K (excl x)) (tests_under K 6 x p)

  pub says_above : {flags : List Bool} → Says flags (exclusive_above K p) → (x : ℕ) → Tests (flagged flags x) (ExclusiveOver
      (graph K) p x)
  says_above s x = subst (λ b. Tests b (ExclusiveOver (graph K) p x)) (sym (s.at x)) (tests_above x)

-- All the words are seen.
module _ {t words : List ℕ} {i p : ℕ} {old flags : List Bool} {some : Bool} (w : KindWords t 11 words)
    (g : Flagging t words i p old flags some) (l : i ≤ length words) (m : length words ≤ i) where
  above : (x : ℕ) → Seen t words i p x → ExclusiveOver (graph (facts_of t)) p x
  above x s = (placed_fact w l s.0, s.1)

  seen : (x : ℕ) → ExclusiveOver (graph (facts_of t)) p x → Seen t words i p x
  seen x s = (placed_up m (exclusive_placed w s.0), s.1)

  pub flagging_says : Says flags (exclusive_above (facts_of t) p)
  flagging_says = record { at = λ x. tests_agree (tests_as (g.tests x) (above x) (seen x)) (tests_above (facts_of t) p x) }

  pub flagging_any : Decides some ((x : ℕ) × T (exclusive_above (facts_of t) p x))
  flagging_any = decided some (tests_as g.any (λ s. (s.0, (tests_above (facts_of t) p s.0).complete (above s.0 s.1)))
      (λ s. (s.0, seen s.0 ((tests_above (facts_of t) p s.0).sound s.1))))
    where
      decided : {P : Type 0} (b : Bool) → Tests b P → Decides b P
      decided true e = e.sound tt
      decided false e = e.complete

-- The words of exclusive facts are the last of a table.
pub last_exclusive : (t : List ℕ) {x : ℕ} → Full t → excl x ∈ facts_of t
    → (0 < length t) × (kind_of (get_or t (length t - 1) 0) ≡ 11)
last_exclusive t {x} q h =
    let ids = fields product.top (excl x) (laid_allowed product t q.laid (excl x) h) in
    let word : ℕ = word_of 11 x 0 0 in
    let rises : Ascending t = full_ascending q in
    let there : word ∈ t = subst (λ l. word ∈ l) (sym (full_filled q)) (subst (λ v. v ∈ filled t)
    (word_made 11 x 0 0 (one_id 11 refl)) (laid_word_in product t q.laid (excl x) h)) in
    let stands : Stands t word (below t word) = below_place word t rises there in
    let some : 0 < length t = omega (arith, stands.0) in
    let last : ℕ = get_or t (length t - 1) 0 in
    let above : word ≤ last = elim (dec_lt last word) [
      | yes l ↦ absurd (omega (arith, stands.0, below_up word t (length t - 1) rises (omega arith) l))
      | no l ↦ omega (arith, l)
    ] in
    let last_in : last ∈ filled t =
    subst (λ l. last ∈ l) (full_filled q) (at_in t (length t - 1) (omega arith)) in
    let within = kind_within (kind_of last) (word_shaped last (laid_is_fact product t q.laid last last_in)).some in
    (some, omega (arith, above, within))
