-- One ticket on a consistent table: what it leaves, refused or accepted. Assumes nothing.
use Prim.Native.Nat.{ℕ, zero, suc, ◌≤◌, ◌<◌}
use mathlib.Core.Path.{◌≡◌, refl, sym, ap, subst, ◌∙◌}
use mathlib.Core.Logic.{inl, inr, ⊎_elim}
use mathlib.Core.List.{List}
use native.Mathlib.Omega.{arith}
use native.Mathlib.Decide.{ℕ_discrete}
use lib.Dec.{T, eqb, ltb, leb, eqb→eq, T_not, not_T, leb→le, ltb→lt, nltb→le, nleb→lt}
use lib.ListN.{length}
use Rattle.rdfs.specs.Numbers.{Numbers, Sound, record_length}
use Rattle.rdfs.specs.Facts.{Fact, graph}
use Rattle.rdfs.specs.Consistency.{Consistent}
use Rattle.rdfs.specs.Words.{laid_out, filled, facts, words, padded}
use Rattle.rdfs.specs.Clashes.{is_consistent}
use Rattle.rdfs.specs.Refusals.{none, here, later, too_many, table_tests, table_refusal}
use Rattle.rdfs.specs.Register.{Answer, answer, besides, step, Table}
use Rattle.rdfs.proofs.Lists.Tests.{or_either, either_or}
use Rattle.rdfs.proofs.Consistency.LawfulParts.{All, lawful_same}
use Rattle.rdfs.proofs.Words.Allowed.{Allowed}
use Rattle.rdfs.proofs.Words.Tables.{padded_length, facts_padded, laid_padded}
use Rattle.rdfs.proofs.Words.LaidOut.{laid_allowed}
use Rattle.rdfs.proofs.Consistency.Decision.{check_sound, check_complete}
use Rattle.rdfs.proofs.Tickets.TicketTests.{stands}
use Rattle.rdfs.proofs.Tickets.FirstTrue.{none_holds, first_is, rest_answers, first_stops}
use Rattle.rdfs.proofs.Tickets.TicketRefusals.{Sane, new, tests, refusal, passed}

-- A consistent table passes the first three refusals.
pub table_sane : (N : Numbers) (w : List ℕ) → Table N w → Sane N w
table_sane N w t = record {
  size = λ h. ⊎_elim (λ q. omega (arith, leb→le (length w) 0 q, t.some)) (λ q. omega (
    arith,
    ltb→lt N.most (length w) q,
    t.fits,
  )) (or_either (leb (length w) 0) (ltb N.most (length w)) h);
  layout = λ h. T_not (laid_out N 1 w) h t.laid;
  rules = λ h. T_not (is_consistent (facts N w)) h (check_complete (facts N w) t.consistent);
}

pub table_passes : (N : Numbers) (w : List ℕ) → Table N w → (rest : ℕ) → table_refusal N w rest ≡ rest
table_passes N w t rest =
    let s = table_sane N w t in
    rest_answers (table_tests N w) tt rest
    (first_is (table_tests N w) (later s.size (later s.layout (later s.rules none))))

-- Words that pass them are one.
pub checked_table : (N : Numbers) (w : List ℕ) → table_refusal N w 0 ≡ 0 → Table N w
checked_table N w e =
    let past = none_holds (table_tests N w) tt e in
    record {
      some = nleb→lt (length w) 0 (not_T (leb (length w) 0) (λ h. past 1 (either_or (leb (length w) 0) (ltb N.most (length w))
          (inl h))));
      fits = nltb→le N.most (length w) (not_T (ltb N.most (length w))
          (λ h. past 1 (either_or (leb (length w) 0) (ltb N.most (length w)) (inr h))));
      laid = stands (laid_out N 1 w) (past 2);
      consistent = check_sound (facts N w) (stands (is_consistent (facts N w)) (past 3));
    }

-- One of them that holds is the answer, whatever comes after.
pub table_stops : (N : Numbers) (w : List ℕ) (rest : ℕ) → (table_refusal N w 0 ≡ 0 → ⊥) → table_refusal N w 0 ≡ table_refusal N w
    rest
table_stops N w rest n = sym (first_stops (table_tests N w) rest n)

pub table_allowed : (N : Numbers) → Sound N → (w : List ℕ) → Table N w → All (Allowed N.top) (facts N w)
table_allowed N s w t = laid_allowed N w t.laid

-- The answer by its number.
module _ (w ws : List ℕ) where
  number_of : (n : ℕ) → (answer n w ws).number ≡ n
  number_of zero = refl
  number_of (suc n) = refl

  pub record Kept (a : Answer) : Type 0 where
    pub added : a.added ≡ 0
    pub removed : a.removed ≡ 0
    pub table : a.table ≡ w

  kept_of : (n : ℕ) → (n ≡ 0 → ⊥) → Kept (answer n w ws)
  kept_of zero h = absurd (h refl)
  kept_of (suc n) h = record { added = refl; removed = refl; table = refl }

  pub record Left (a : Answer) : Type 0 where
    pub added : a.added ≡ besides (filled w) ws
    pub removed : a.removed ≡ besides ws (filled w)
    pub table : a.table ≡ padded (length w) ws

  left_of : (n : ℕ) → n ≡ 0 → Left (answer n w ws)
  left_of zero h = record { added = refl; removed = refl; table = refl }
  left_of (suc n) h = absurd (omega (arith, h))

module _ (N : Numbers) (w bytes : List ℕ) where
  pub step_number : (step N w bytes).number ≡ refusal N w bytes
  unfolding step
  step_number = number_of w (words N (new N w bytes)) (refusal N w bytes)

  -- A refusal changes no word, and both counts are 0.
  pub refused_keeps : ((step N w bytes).number ≡ 0 → ⊥) → Kept w (words N (new N w bytes)) (step N w bytes)
  unfolding step
  refused_keeps h = kept_of w (words N (new N w bytes)) (refusal N w bytes)
      (λ e. h (number_of w (words N (new N w bytes)) (refusal N w bytes) ∙ e))

  pub accepted_leaves : (step N w bytes).number ≡ 0 → Left w (words N (new N w bytes)) (step N w bytes)
  unfolding step
  accepted_leaves h = left_of w (words N (new N w bytes)) (refusal N w bytes)
      (sym (number_of w (words N (new N w bytes)) (refusal N w bytes)) ∙ h)

-- The words of consistent facts that fit are a consistent table.
module _ (N : Numbers) (s : Sound N) (w : List ℕ) (t : Table N w) (K : List Fact) (a : All (Allowed N.top) K) where
  abbrev left : List ℕ
  left = padded (length w) (words N K)

  pub left_table : Consistent (graph K) → length (words N K) ≤ length w → Table N left
  left_table c h =
      let e : length left ≡ length w = padded_length (length w) (words N K) h in
      let f = facts_padded N s (length w) K a in
      record {
        some = subst (λ n. 0 < n) (sym e) t.some;
        fits = subst (λ n. n ≤ N.most) (sym e) t.fits;
        laid = laid_padded N s (length w) K a;
        consistent = lawful_same (graph K) (graph (facts N left)) f.1 f.0 c;
      }

pub room_fits : (N : Numbers) (w : List ℕ) (K : List Fact) → (T (too_many N w K) → ⊥) → length (words N K) ≤ length w
room_fits N w K h = nltb→le (length w) (length (words N K)) (not_T (ltb (length w) (length (words N K))) h)

-- A ticket, whatever it is, leaves as many words as it found.
pub step_length : (N : Numbers) (w bytes : List ℕ) → length (step N w bytes).table ≡ length w
step_length N w bytes = elim (ℕ_discrete (step N w bytes).number 0) [
  | no n ↦ ap length (refused_keeps N w bytes n).table
  | yes e ↦ ap length (accepted_leaves N w bytes e).table
      ∙ padded_length (length w) (words N (new N w bytes)) (room_fits N w (new N w bytes)
      (passed N w bytes (sym (step_number N w bytes) ∙ e)).room)
]

-- A ticket of another length than a record is refused with 4.
pub wrong_length : (N : Numbers) (w bytes : List ℕ) → Table N w → (length bytes ≡ record_length → ⊥) → (step N w bytes).number ≡ 4
wrong_length N w bytes t h =
    let s : Sane N w = table_sane N w t in
    step_number N w bytes ∙ first_is (tests N w bytes) (later s.size (later s.layout (later s.rules
    (here (not_T (eqb (length bytes) record_length) (λ e. h (eqb→eq (length bytes) record_length e)))))))
