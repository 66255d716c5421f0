-- The roles that a ticket wants for its ids, one after another. Assumes nothing.
use Prim.Native.Nat.{ℕ}
use mathlib.Core.Path.{◌≡◌, refl, sym, subst, ◌∙◌}
use mathlib.Core.Logic.{◌⊎◌, inl, inr, ⊎_elim}
use Rattle.rdfs.specs.Facts.{Graph}
use Rattle.rdfs.proofs.Clash.OneRole.{is, OtherRole, role_of}
use Rattle.rdfs.proofs.Clash.MoreRoles.{Apart, Fits}

abbrev pub NoRole : ℕ → ℕ → Type 0
NoRole j x = ⊥

-- Where Q holds, a with the role of kind k, beside others.
abbrev pub Want : Type 0 → ℕ → ℕ → (ℕ → ℕ → Type 0) → ℕ → ℕ → Type 0
Want Q k a New j x = (Q × (j ≡ k) × (x ≡ a)) ⊎ New j x

-- a with the role of kind k, b with that of kind l.
abbrev pub WantTwo : ℕ → ℕ → ℕ → ℕ → ℕ → ℕ → Type 0
WantTwo k a l b = Want (Unit {0}) k a (Want (Unit {0}) l b NoRole)

pub wants_first : (k a l b : ℕ) → WantTwo k a l b k a
wants_first k a l b = inl (tt, refl, refl)

pub wants_second : (k a l b : ℕ) → WantTwo k a l b l b
wants_second k a l b = inr (inl (tt, refl, refl))

module _ (G : Graph) where
  pub none_apart : Apart G NoRole
  none_apart = record { old = λ k x n. absurd n; new = λ k j x n. absurd n }

  pub want_apart : (Q : Type 0) (k a : ℕ) (New : ℕ → ℕ → Type 0) → Apart G New → (Q → OtherRole G k a → ⊥)
      → (Q → (j : ℕ) → New j a → k ≡ j) → Apart G (Want Q k a New)
  want_apart Q k a New s free agree = record {
    old = λ j x n r h. ⊎_elim (λ p. role_of G k a (free p.0) r (subst (λ v. G (is r v)) p.2 h) ∙ sym p.1)
        (λ p. s.old j x p r h) n;
    new = λ i j x n m. ⊎_elim
        (λ p. ⊎_elim (λ q. p.1 ∙ sym q.1) (λ q. p.1 ∙ agree p.0 j (subst (New j) p.2 q)) m)
        (λ p. ⊎_elim (λ q. sym (q.1 ∙ agree q.0 i (subst (New i) q.2 p))) (λ q. s.new i j x p q) m) n;
  }

  -- Two ids, none wanted as a property.
  pub two_fit : (k a l b : ℕ) → (OtherRole G k a → ⊥) → (OtherRole G l b → ⊥) → (a ≡ b → k ≡ l) → (2 ≡ k → ⊥) → (2 ≡ l → ⊥)
      → Fits G (WantTwo k a l b) 0 0
  two_fit k a l b free-a free-b agree not-k not-l = record {
    apart = want_apart (Unit {0}) k a (Want (Unit {0}) l b NoRole) (want_apart (Unit {0}) l b NoRole none_apart (λ q. free-b)
        (λ q j n. absurd n))
        (λ q. free-a) (λ q j. ⊎_elim (λ p. agree p.2 ∙ sym p.1) (λ n. absurd n));
    fresh = λ x n. absurd (no_property x n);
    domain = λ x n. absurd (no_property x n);
    range = λ x n. absurd (no_property x n);
  }
    where
      no_property : (x : ℕ) → WantTwo k a l b 2 x → ⊥
      no_property x = ⊎_elim (λ p. not-k p.1) (⊎_elim (λ p. not-l p.1) (λ n. n))
