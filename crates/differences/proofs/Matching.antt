-- A run filled with, or compared with, the words that the others lack: the invariant of both loops, with a law for each step.
-- Assumes nothing.
use Prim.Native.Nat.{ℕ, suc, ◌+◌, ◌-◌, ◌≤◌, ◌<◌}
use mathlib.Core.Path.{◌≡◌, refl, sym, ap, subst, ◌∙◌}
use mathlib.Core.Bool.{true, false}
use mathlib.Core.List.{List, [], ◌∷◌, ◌++◌, append_assoc, append-nil}
use native.Mathlib.Omega.{arith}
use native.Mathlib.Numerals.{add-one}
use lib.Dec.{T}
use lib.ListN.{length, get_or, set, take, drop, length-append, length-set}
use lib.Seq.{length-take-le, take_all, take-suc, take-suc-set, get_or_at}
use Rattle.rdfs.specs.Lists.{same_list}
use Rattle.rdfs.specs.Register.{newcomers}
use Rattle.rdfs.proofs.Lists.SameList.{same_list_eq, same_list_refl}
use Rattle.table.proofs.TestAnswers.{is_true, is_false}
use Rattle.differences.specs.Besides.{Apart, NextBeside, Measured}
use Rattle.differences.specs.declared.besides.Next.{Next}

-- The first `at` words of the run are the first that the others lack; the others of them are found from the places on.
pub record Matching (words others run : List ℕ) (at place past : ℕ) : Type 0 where
  pub measured : Measured words others run
  pub within : at ≤ length run
  pub so_far : newcomers others words ≡ take at run ++ newcomers (drop past others) (drop place words)

pub match_start : {words others run : List ℕ} → Measured words others run → Matching words others run 0 0 0
match_start m = record { measured = m; within = omega arith; so_far = refl }

none_left : (l : List ℕ) → length l ≡ 0 → l ≡ []
none_left [] e = refl
none_left (x ∷ l) e = absurd (omega (arith, e))

module _ {words others run : List ℕ} {at place past : ℕ} (m : Matching words others run at place past) where
  abbrev left : List ℕ
  left = newcomers (drop past others) (drop place words)

  left_length : length left ≡ length run - at
  left_length = omega (
    arith,
    ap length m.so_far,
    length-append (take at run) left,
    length-take-le at run m.within,
    m.measured.size,
    m.within,
  )

  -- There is one more to be found, as long as the run has room.
  pub match_apart : at < length run → Apart words others place past
  match_apart h = record {
    ascending = m.measured.ascending;
    others_ascending = m.measured.others_ascending;
    some = omega (arith, left_length, h);
  }

  pub match_done : length run ≤ at → run ≡ newcomers others words
  match_done h =
      let none : left ≡ [] = none_left left (omega (arith, left_length, h)) in
      sym (m.so_far ∙ (ap (λ l. take at run ++ l) none ∙ (append-nil (take at run) ∙ take_all at run h)))

  module _ (h : at < length run) (next : Next) (n : NextBeside words others place past next) where
    abbrev word : ℕ
    word = get_or words next.place 0

    -- A run that has the word found behind the first ones.
    more : (run' : List ℕ) → length run' ≡ length run → take (suc at) run' ≡ take at run ++ (word ∷ [])
        → Matching words others run' (at + 1) (next.place + 1) next.past
    more run' long front =
        let rest : List ℕ = newcomers (drop next.past others) (drop (suc next.place) words) in
        record {
          measured = record {
            ascending = m.measured.ascending;
            others_ascending = m.measured.others_ascending;
            size = long ∙ m.measured.size;
          };
          within = omega (arith, long, h);
          so_far = m.so_far ∙ (ap (λ l. take at run ++ l) n.first ∙ (sym (append_assoc (take at run) (word ∷ []) rest)
              ∙ (ap (λ l. l ++ rest) (sym front)
              ∙ (λ i. take (sym (add-one at) i) run' ++ newcomers (drop next.past others)
              (drop (sym (add-one next.place) i) words)))));
        }

    -- It is stored there, or it stands there.
    pub match_put : Matching words others (set run at word) (at + 1) (next.place + 1) next.past
    match_put = more (set run at word) (length-set run at word) (take-suc-set run at word h)

    pub match_met : get_or run at 0 ≡ word → Matching words others run (at + 1) (next.place + 1) next.past
    match_met e = more run refl (take-suc run at 0 h ∙ ap (λ x. take at run ++ (x ∷ [])) e)

    -- Another stands there: the run is not these words.
    pub match_missed : (get_or run at 0 ≡ word → ⊥) → run ≡ newcomers others words → ⊥
    match_missed d e =
        let rest : List ℕ = newcomers (drop next.past others) (drop (suc next.place) words) in
        d (ap (λ l. get_or l at 0) (e ∙ (m.so_far ∙ ap (λ l. take at run ++ l) n.first))
        ∙ get_or_at (take at run) word rest 0 at (length-take-le at run m.within))

-- The two answers of the comparison.
pub same_true : (run l : List ℕ) → run ≡ l → true ≡ same_list run l
same_true run l e = sym (is_true (subst (λ m. T (same_list run m)) e (same_list_refl run)))

pub same_false : (run l : List ℕ) → (run ≡ l → ⊥) → false ≡ same_list run l
same_false run l n = sym (is_false (λ t. n (same_list_eq run l t)))
