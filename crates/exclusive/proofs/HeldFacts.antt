-- What the passes find, as the definitions have it: a value taken, values shared. Assumes nothing.
use Prim.Native.Nat.{ℕ}
use mathlib.Core.Path.{◌≡◌, refl, sym, subst}
use mathlib.Core.Bool.{Bool}
use mathlib.Core.Logic.{◌⊎◌, inl, inr, ⊎_elim}
use mathlib.Core.List.{List}
use Rattle.std.specs.Prelude.{Option}
use Rattle.rdfs.specs.Lists.{◌∈◌}
use Rattle.rdfs.specs.Facts.{Fact, Graph, graph, pi}
use Rattle.rdfs.specs.Lookups.{values_shared, value_taken}
use Rattle.rdfs.proofs.Lists.Tests.{Tests, tests_as}
use Rattle.rdfs.proofs.Consistency.Holders.{HeldByOther, TwoHolders}
use Rattle.rdfs.proofs.Clash.SharedValues.{ExclusiveOver, tests_taken, tests_shared}
use Rattle.flags.specs.Flags.{Says}
use Rattle.exclusive.specs.Above.{exclusive_above}
use Rattle.exclusive.specs.Holders.{holder, Other, Holders, HeldOtherwise}
use Rattle.exclusive.proofs.AboveFlags.{says_above}
use Rattle.exclusive.proofs.HolderLaws.{other_held}

-- A value that one holds another has through an exclusive property at p or over it.
abbrev pub Met : Graph → ℕ → (ℕ → ℕ → Type 0) → Type 0
Met G p Holds = (g : ℕ) × ExclusiveOver G p g × ((x : ℕ) × (y : ℕ) × Holds x y × HeldByOther G x y g)

-- It is what the pass over the values finds.
module _ {K : List Fact} {p : ℕ} {Holds : ℕ → ℕ → Type 0} {flags : List Bool} {H : List (Option ℕ)}
    (s : Says flags (exclusive_above K p)) (h : Holders H Holds) where
  pub otherwise_met : HeldOtherwise K flags H → Met (graph K) p Holds
  otherwise_met q = let held = other_held (holder H q.value) q.who q.other in (
    q.through,
    (says_above K p s q.through).sound q.watched,
    (held.0, q.value, h.sound held.0 q.value held.1, (q.who, q.stands, λ e. held.2 (sym e))),
  )

  pub met_otherwise : Met (graph K) p Holds → HeldOtherwise K flags H
  met_otherwise (g, over, (x, y, held, (w, stands, other))) =
      record {
        who = w;
        value = y;
        through = g;
        stands = stands;
        watched = (says_above K p s g).complete over;
        other = subst (λ o. Other o w) (sym (h.complete x y held)) (λ e. other (sym e));
      }

module _ (K : List Fact) where
  pub taken_met : (a b c : ℕ) → Tests (value_taken K a b c) (Met (graph K) c (λ x y. (a ≡ x) × (b ≡ y)))
  taken_met a b c = tests_as (tests_taken K a b c) (λ (g, over, held). (g, over, (a, b, (refl, refl), held)))
      (λ (g, over, (x, y, same, held)). (
        g,
        over,
        subst (λ u. HeldByOther (graph K) u b g) (sym same.0) (subst (λ v. HeldByOther (graph K) x v g) (sym same.1) held),
      ))

  -- Two hold a value of a, or one of its values is met.
  pub shared_met : (a b : ℕ) → Tests (values_shared K a b) (((g : ℕ) × ExclusiveOver (graph K) b g)
      × (TwoHolders (graph K) a ⊎ Met (graph K) b (λ x y. pi x y a ∈ K)))
  shared_met a b = tests_as (tests_shared K a b)
      (λ (g, over, (x, y, held, met)). (
        (g, over),
        ⊎_elim (λ o. inl record {
          one = x;
          another = o.0;
          value = y;
          first = held;
          second = o.1;
          other = λ e. o.2 (sym e);
        })
            (λ o. inr (g, over, (x, y, held, o))) met,
      ))
      (λ ((g, over), met). ⊎_elim (λ t. (
        g,
        over,
        (
          t.one,
          t.value,
          t.first,
          inl (
            t.another,
            t.second,
            λ e. t.other
                (sym e),
          ),
        ),
      ))
      (λ (g, over, (x, y, held, o)). (g, over, (x, y, held, inr o))) met)
