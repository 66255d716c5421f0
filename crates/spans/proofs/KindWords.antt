-- The words of one kind, which stand in one stretch of a table. Assumes nothing.
use Prim.Native.Nat.{ℕ, ◌+◌, ◌-◌, ◌≤◌, ◌<◌}
use mathlib.Core.Path.{◌≡◌, sym, ap, subst, ◌∙◌}
use mathlib.Core.Logic.{⊎_elim}
use mathlib.Core.List.{List}
use native.Mathlib.Omega.{arith}
use lib.ListN.{length, take, drop, length-drop}
use lib.Seq.{get_or-take, get_or-drop, length-take-le}
use Rattle.table.specs.Parts.{kind_of, first_of, second_of, third_of, word_of}
use Rattle.spans.specs.Spans.{at, FactWord, FactWords, Below}
use Rattle.spans.specs.Passes.{OfKind}
use Rattle.spans.specs.Graphs.{Each}
use Rattle.spans.proofs.SpanPlaces.{split}

-- From the first word that is not below the kind's least to the first that is not below the next kind's.
module _ {t : List ℕ} (F : FactWords t) (k : ℕ) {v w from to : ℕ} (p : v ≡ word_of k 0 0 0) (q : w ≡ word_of (k + 1) 0 0 0)
    (L : Below t v from) (M : Below t w to) where
  pub stretch_ascends : from ≤ to
  stretch_ascends = ⊎_elim (λ h. absurd (omega (
    arith,
    p,
    q,
    L.before to h,
    M.after to (omega arith) (omega (arith, h, L.within)),
  ))) (λ h. h) (split to from)

  abbrev Stretch : List ℕ
  Stretch = take (to - from) (drop from t)

  long : length Stretch ≡ to - from
  long = length-take-le (to - from) (drop from t) (omega (arith, length-drop from t, M.within))

  same : (i : ℕ) → i < length Stretch → at Stretch i ≡ at t (from + i)
  same i h = get_or-take (to - from) (drop from t) i 0 (omega (arith, h, long)) ∙ get_or-drop from t i 0

  inside : (i : ℕ) → i < length Stretch → from + i < to
  inside i h = omega (arith, h, long, stretch_ascends)

  within : (i : ℕ) → i < length Stretch → from + i < length t
  within i h = omega (arith, inside i h, M.within)

  kind_at : (x : ℕ) → word_of k 0 0 0 ≤ x → x < word_of (k + 1) 0 0 0 → kind_of x ≡ k
  kind_at x a b = omega arith

  starts : (m : ℕ) → kind_of (at t m) ≡ k → from ≤ m
  starts m e = ⊎_elim (λ h. absurd (omega (arith, p, L.before m h))) (λ h. h) (split m from)

  ends : (m : ℕ) → m < length t → kind_of (at t m) ≡ k → m < to
  ends m l e = ⊎_elim (λ h. h) (λ h. absurd (omega (arith, q, M.after m h l))) (split m to)

  pub stretch_of_kind : OfKind t k Stretch
  stretch_of_kind = record {
    facts = record {
      ascending = λ i j h l. omega (arith, same i (omega arith), same j l, F.ascending (from + i) (from + j) (omega arith) (within j l));
      facts = λ i l. subst FactWord (sym (same i l)) (F.facts (from + i) (within i l));
    };
    here = λ i l. (
      ap kind_of (same i l) ∙ kind_at (at t (from + i)) (rw p at (L.after (from + i) (omega arith) (within i l)))
          (rw q at (M.before (from + i) (inside i l))),
      (from + i, within i l, sym (same i l)),
    );
    all = λ m l e. let h : m - from < length Stretch = omega (arith, long, starts m e, ends m l e) in (
      m - from,
      h,
      same (m - from) h ∙ ap (at t) (omega (arith, starts m e)),
    );
  }

-- What holds of each word of a kind holds of each of these.
module _ {t words : List ℕ} {k : ℕ} (W : OfKind t k words) (Q : ℕ → ℕ → ℕ → Type 0) where
  pub each_of : ((i : ℕ) → i < length words → Q (first_of (at words i)) (second_of (at words i)) (third_of (at words i)))
      → Each t k Q
  each_of H i l e = let (j, m, s) = W.all i l e in subst (λ x. Q (first_of x) (second_of x) (third_of x)) s (H j m)

  pub of_each : Each t k Q → (i : ℕ) → i < length words
      → Q (first_of (at words i)) (second_of (at words i)) (third_of (at words i))
  of_each E i l =
      let (e, (j, m, s)) = W.here i l in
      subst (λ x. Q (first_of x) (second_of x) (third_of x)) s (E j m (ap kind_of s ∙ e))
