-- The refusals of a ticket, in their order: what is known past each, and when a ticket is accepted. Assumes nothing.
use Prim.Native.Nat.{ℕ}
use mathlib.Core.Path.{◌≡◌}
use mathlib.Core.Bool.{Bool}
use mathlib.Core.List.{List, [], ◌∷◌, ◌++◌}
use lib.Dec.{T}
use Rattle.rdfs.specs.Numbers.{Numbers}
use Rattle.rdfs.specs.Facts.{Fact}
use Rattle.rdfs.specs.Words.{facts}
use Rattle.rdfs.specs.Tickets.{Ticket, decoded, unknown_property, unknown_class, clashing}
use Rattle.rdfs.specs.Refusals.{
  first_true,
  First,
  none,
  later,
  bad_size,
  bad_layout,
  inconsistent,
  too_many,
  outcome,
  table_tests,
  ticket_tests,
}
use Rattle.rdfs.specs.Promises.{Formed, Known}
use Rattle.rdfs.proofs.Tickets.FirstTrue.{test_of, none_holds, first_is}

-- What is known past the first three.
pub record Sane (N : Numbers) (w : List ℕ) : Type 0 where
  pub size : T (bad_size N w) → ⊥
  pub layout : T (bad_layout N w) → ⊥
  pub rules : T (inconsistent N w) → ⊥

module _ (N : Numbers) (w bytes : List ℕ) where
  abbrev pub given : Ticket
  given = decoded bytes

  abbrev pub old : List Fact
  old = facts N w

  abbrev pub new : List Fact
  new = outcome N.top old given

  -- A ticket's refusals in their order.
  abbrev pub tests : List (ℕ × Bool)
  tests = table_tests N w ++ ticket_tests N w old new bytes

  abbrev pub refusal : ℕ
  refusal = first_true tests

  -- Past refusals 1 to 8.
  pub past_form : {n : ℕ} → Sane N w → Formed N bytes
      → First ((9, unknown_property old given) ∷ (16, unknown_class old given) ∷ (10, clashing new given) ∷ (11, too_many N w new)
      ∷ []) n → refusal ≡ n
  past_form s f h = first_is tests (later s.size (later s.layout (later s.rules (later f.long (later f.operation
      (later f.kind (later f.ids (later f.free h))))))))

  -- Past 9 and 16 too.
  pub past_known : {n : ℕ} → Sane N w → Formed N bytes → Known old given
      → First ((10, clashing new given) ∷ (11, too_many N w new) ∷ []) n → refusal ≡ n
  past_known s f k h = past_form s f (later k.property (later k.class h))

  -- What holds where none of the early tests does.
  module _ (Early : ℕ → Type 0) (past : (n : ℕ) → Early n → T (test_of tests n) → ⊥) where
    pub sane : Early 1 → Early 2 → Early 3 → Sane N w
    sane a b c = record { size = past 1 a; layout = past 2 b; rules = past 3 c }

    pub formed : Early 4 → Early 5 → Early 6 → Early 7 → Early 8 → Formed N bytes
    formed a b c d e =
        record { long = past 4 a; operation = past 5 b; kind = past 6 c; ids = past 7 d; free = past 8 e }

    pub known : Early 9 → Early 16 → Known old given
    known a b = record { property = past 9 a; class = past 16 b }

  -- Accepted: no test holds.
  pub record Passed : Type 0 where
    pub sane : Sane N w
    pub formed : Formed N bytes
    pub known : Known old given
    pub possible : T (clashing new given) → ⊥
    pub room : T (too_many N w new) → ⊥

  pub passed : refusal ≡ 0 → Passed
  passed e =
      let Any : ℕ → Type 0 = λ _. Unit {0} in
      let past : (n : ℕ) → Any n → T (test_of tests n) → ⊥ = λ n _. none_holds tests tt e n in
      record {
        sane = sane Any past tt tt tt;
        formed = formed Any past tt tt tt tt tt;
        known = known Any past tt tt;
        possible = past 10 tt;
        room = past 11 tt;
      }

  pub pass : Passed → refusal ≡ 0
  pass p = past_known p.sane p.formed p.known (later p.possible (later p.room none))
