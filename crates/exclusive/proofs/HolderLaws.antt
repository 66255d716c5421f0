-- Holders that are noted, one by one, and what a pass over the words of the values finds. Assumes nothing.
use Prim.Native.Nat.{ℕ, zero, suc, ◌+◌, ◌≤◌, ◌<◌}
use mathlib.Core.Path.{◌≡◌, refl, sym, ap, subst, ◌∙◌}
use mathlib.Core.Bool.{Bool}
use mathlib.Core.Logic.{◌⊎◌, inl, inr, ⊎_elim}
use mathlib.Core.List.{List}
use native.Mathlib.Omega.{arith}
use native.Mathlib.Decide.{ℕ_discrete}
use lib.Dec.{T}
use lib.ListN.{length, get_or, set, replicate, length-replicate}
use lib.Seq.{get_or-set_same, get_or-set_other}
use Rattle.std.specs.Prelude.{Option, Some, None}
use Rattle.std.proofs.lemmas.Option.{none-some, same_Some}
use Rattle.rdfs.specs.Lists.{◌∈◌}
use Rattle.rdfs.specs.Facts.{pi}
use Rattle.rdfs.specs.Clashes.{two_holders}
use Rattle.rdfs.proofs.Consistency.Holders.{tests_two_holders}
use Rattle.table.specs.Parts.{first_of, second_of, third_of}
use Rattle.table.specs.Counted.{facts_of}
use Rattle.flags.specs.Flags.{flagged}
use Rattle.exclusive.specs.Holders.{holder, Other, Holders, HeldOtherwise}
use Rattle.exclusive.proofs.KindWords.{
  KindWords,
  Placed,
  placed_none,
  placed_up,
  placed_last,
  placed_split,
  placed_fact,
  value_placed,
}

-- Another holder is somebody.
pub other_held : (o : Option ℕ) (x : ℕ) → Other o x → (held : ℕ) × (o ≡ Some held) × (held ≡ x → ⊥)
other_held None x h = absurd h
other_held (Some held) x h = (held, refl, h)

-- Nobody holds anything.
pub holders_none : (n : ℕ) → Holders (replicate n None) (λ x y. ⊥)
holders_none n = record { sound = λ x y h. none-some x (sym (go n y) ∙ h); complete = λ x y h. absurd h }
  where
    go : (n y : ℕ) → holder (replicate n None) y ≡ None
    go zero y = refl
    go (suc n) zero = refl
    go (suc n) (suc y) = go n y

pub holders_as : {H : List (Option ℕ)} {P Q : ℕ → ℕ → Type 0} → Holders H P → ((x y : ℕ) → P x y → Q x y)
    → ((x y : ℕ) → Q x y → P x y) → Holders H Q
holders_as h f g =
    record { sound = λ x y e. f x y (h.sound x y e); complete = λ x y q. h.complete x y (g x y q) }

-- One more is noted, where no other is.
pub holders_set : {H : List (Option ℕ)} {P : ℕ → ℕ → Type 0} (x y : ℕ) → Holders H P → y < length H
    → (Other (holder H y) x → ⊥) → Holders (set H y (Some x)) (λ u v. P u v ⊎ ((x ≡ u) × (y ≡ v)))
holders_set {H} {P} x y h l free = record {
  sound = λ u v n. elim (ℕ_discrete v y) [
    | yes e ↦ inr (same_Some x u (sym now_x ∙ subst (λ j. holder (set H y (Some x)) j ≡ Some u) e n), sym e)
    | no e ↦ inl (h.sound u v (sym (kept v e) ∙ n))
  ];
  complete = λ u v. ⊎_elim (λ p. elim (ℕ_discrete v y) [
    | yes e ↦ subst (λ j. holder (set H y (Some x)) j ≡ Some u) (sym e) (now_x ∙ ap Some (old u v p e))
    | no e ↦ kept v e ∙ h.complete u v p
  ])
      (λ q. subst (λ j. holder (set H y (Some x)) j ≡ Some u) q.1 (now_x ∙ ap Some q.0));
}
  where
    now_x : holder (set H y (Some x)) y ≡ Some x
    now_x = get_or-set_same H y (Some x) None l

    kept : (v : ℕ) → (v ≡ y → ⊥) → holder (set H y (Some x)) v ≡ holder H v
    kept v e = get_or-set_other H y v (Some x) None e

    old : (u v : ℕ) → P u v → v ≡ y → x ≡ u
    old u v p e =
        let is_u : holder H y ≡ Some u = subst (λ j. holder H j ≡ Some u) e (h.complete u v p) in
        elim (ℕ_discrete x u) [
          | yes q ↦ q
          | no q ↦ absurd (free (subst (λ o. Other o x) (sym is_u) (λ z. q (sym z))))
        ]

-- Of nobody's values one is given to x.
pub holders_one : {i : ℕ} {o : Option ℕ} (n x y : ℕ) → i ≡ y → o ≡ Some x → y < n
    → Holders (set (replicate n None) i o) (λ u v. (x ≡ u) × (y ≡ v))
holders_one n x y e d l =
    rw (e, d) (holders_as (holders_set x y (holders_none n) (omega (arith, length-replicate {A = Option ℕ} n None)) nobody)
    (λ u v. ⊎_elim (λ p. absurd p) (λ q. q)) (λ u v q. inr q))
  where
    nobody : Other (holder (replicate n None) y) x → ⊥
    nobody o = let r = other_held (holder (replicate n None) y) x o in (holders_none n).sound r.0 y r.1

-- The holders of the values of p among the words before a place.
abbrev pub Noted : List ℕ → ℕ → ℕ → List (Option ℕ) → Type 0
Noted words to p H = Holders H (λ x y. Placed words to x y p)

pub noted_start : {words : List ℕ} {H : List (Option ℕ)} {p : ℕ} → Holders H (λ x y. ⊥) → Noted words 0 p H
noted_start h = holders_as h (λ x y e. absurd e) (λ x y e. placed_none e)

module _ {words : List ℕ} {i p : ℕ} {H : List (Option ℕ)} (h : Noted words i p H) where
  -- The word is of another property.
  pub noted_miss : {u : List (Option ℕ)} → (third_of (get_or words i 0) ≡ p → ⊥) → u ≡ H → Noted words (i + 1) p u
  noted_miss n r = subst (Noted words (i + 1) p) (sym r) (holders_as h (λ x y. placed_up (omega arith))
      (λ x y q. ⊎_elim (λ r. r) (λ r. absurd (n r.2)) (placed_split q)))

  module _ {x y : ℕ} (e : third_of (get_or words i 0) ≡ p) (d : x ≡ first_of (get_or words i 0))
      (f : y ≡ second_of (get_or words i 0)) where
    -- Its value has no other holder.
    pub noted_hit : {u : List (Option ℕ)} → y < length H → (Other (holder H y) x → ⊥) → u ≡ set H y (Some x)
        → Noted words (i + 1) p u
    noted_hit b free r = subst (Noted words (i + 1) p) (sym r)
        (holders_as (holders_set x y h b free)
        (λ u v. ⊎_elim (placed_up (omega arith)) (λ q. placed_last i (sym d ∙ q.0) (sym f ∙ q.1) e))
        (λ u v q. ⊎_elim (λ r. inl r) (λ r. inr (d ∙ r.0, f ∙ r.1)) (placed_split q)))

    -- Its value has another: two hold it.
    pub noted_clash : {t : List ℕ} → KindWords t 10 words → i < length words → Other (holder H y) x
        → T (two_holders (facts_of t) p)
    noted_clash {t} w s o =
        let held = other_held (holder H y) x o in
        (tests_two_holders (facts_of t) p).complete record {
          one = held.0;
          another = x;
          value = y;
          first = placed_fact w (omega (arith, s)) (h.sound held.0 y held.1);
          second = placed_fact w (omega (arith, s)) (placed_last {words = words} i (sym d) (sym f) e);
          other = held.2;
        }

  -- All the words are seen.
  pub noted_done : {t : List ℕ} → KindWords t 10 words → i ≤ length words → length words ≤ i
      → Holders H (λ x y. pi x y p ∈ facts_of t)
  noted_done w l m = holders_as h (λ x y. placed_fact w l) (λ x y q. placed_up m (value_placed w q))

-- None of the words before a place has a flagged property and a value that another holds.
pub record Unshared (words : List ℕ) (to : ℕ) (flags : List Bool) (H : List (Option ℕ)) : Type 0 where
  pub none : (x y z : ℕ) → Placed words to x y z → T (flagged flags z) → Other (holder H y) x → ⊥

pub unshared_start : {words : List ℕ} {flags : List Bool} {H : List (Option ℕ)} → Unshared words 0 flags H
unshared_start = record { none = λ x y z q f o. placed_none q }

module _ {words : List ℕ} {i : ℕ} {flags : List Bool} {H : List (Option ℕ)} where
  -- The word has another property, or a value that no other holds.
  pub unshared_other : Unshared words i flags H → (T (flagged flags (third_of (get_or words i 0))) → ⊥)
      → Unshared words (i + 1) flags H
  unshared_other h n = record {
    none = λ u v z q. ⊎_elim (h.none u v z) (λ r f. absurd (n (subst (λ v. T (flagged flags v)) (sym r.2) f)))
        (placed_split q);
  }

  module _ {x y : ℕ} (d : x ≡ first_of (get_or words i 0)) (f : y ≡ second_of (get_or words i 0)) where
    pub unshared_more : Unshared words i flags H → (Other (holder H y) x → ⊥) → Unshared words (i + 1) flags H
    unshared_more h n = record {
      none = λ u v z q. ⊎_elim (h.none u v z) (λ r _ o. n (subst (λ w. Other (holder H w) x) (sym (f ∙ r.1))
          (subst (Other (holder H v)) (sym (d ∙ r.0)) o))) (placed_split q);
    }

    -- It has a flagged property, and a value that another holds.
    pub held_at : {t : List ℕ} → KindWords t 10 words → i < length words
        → T (flagged flags (third_of (get_or words i 0))) → Other (holder H y) x → HeldOtherwise (facts_of t) flags H
    held_at w s g o = record {
      who = x;
      value = y;
      through = third_of (get_or words i 0);
      stands = placed_fact w (omega (arith, s)) (placed_last {words = words} i (sym d) (sym f) refl);
      watched = g;
      other = o;
    }

  -- None has.
  pub unshared_done : {t : List ℕ} → Unshared words i flags H → KindWords t 10 words → length words ≤ i
      → HeldOtherwise (facts_of t) flags H → ⊥
  unshared_done h w l q =
      h.none q.who q.value q.through (placed_up l (value_placed w q.stands)) q.watched q.other
