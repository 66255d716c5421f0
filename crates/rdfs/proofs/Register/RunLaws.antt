-- Tickets run in turn by any step: an answer for each, a list cut in two, one ticket more, the ticket at a place; and what a step
-- is to keep so that every run keeps it. Assumes nothing.
use Prim.Native.Nat.{ℕ, suc, ◌<◌}
use mathlib.Core.Path.{◌≡◌, refl, ap, ◌∙◌}
use mathlib.Core.List.{List, [], ◌∷◌, ◌++◌}
use native.Mathlib.Omega.{arith}
use lib.ListN.{length, take, drop, get_or}
use lib.Seq.{take-suc, split_at, get_or_at, length-take-le}
use Rattle.rdfs.specs.Numbers.{Numbers}
use Rattle.rdfs.specs.Register.{Answer, step, run_with, run, Done, Table}

module _ (one : List ℕ → List ℕ → Answer) where
  -- A number for each ticket.
  pub runs_numbers : (l : List (List ℕ)) (table : List ℕ) → length (run_with one table l).numbers ≡ length l
  unfolding run_with
  runs_numbers [] table = refl
  runs_numbers (t ∷ l) table = ap suc (runs_numbers l (one table t).table)

  -- The tickets of a second list are run on the words that those of the first left.
  pub runs_append : (l m : List (List ℕ)) (table : List ℕ)
      → ((run_with one table (l ++ m)).table ≡ (run_with one (run_with one table l).table m).table)
      × ((run_with one table (l ++ m)).numbers ≡ (run_with one table l).numbers ++ (run_with one (run_with one table l).table
      m).numbers)
      × ((run_with one table (l ++ m)).counts ≡ (run_with one table l).counts ++ (run_with one (run_with one table l).table m).counts)
  unfolding run_with
  runs_append [] m table = (refl, refl, refl)
  runs_append (t ∷ l) m table =
      let a : Answer = one table t in
      let r = runs_append l m a.table in
      (r.0, ap {B = List ℕ} (λ v. a.number ∷ v) r.1, ap {B = List ℕ} (λ v. a.added ∷ a.removed ∷ v) r.2)

  -- One ticket more.
  module _ (l : List (List ℕ)) (t table : List ℕ) where
    pub runs_more_words : (run_with one table (l ++ (t ∷ []))).table ≡ (one (run_with one table l).table t).table
    unfolding run_with
    runs_more_words = (runs_append l (t ∷ []) table).0

    pub runs_more_numbers : (run_with one table (l ++ (t ∷ []))).numbers
        ≡ (run_with one table l).numbers ++ ((one (run_with one table l).table t).number ∷ [])
    unfolding run_with
    runs_more_numbers = (runs_append l (t ∷ []) table).1

  -- The ticket at a place.
  module _ (l : List (List ℕ)) (table : List ℕ) (i : ℕ) (h : i < length l) where
    pub runs_words_at : (run_with one table (take (suc i) l)).table ≡ (one (run_with one table (take i l)).table (get_or l i [])).table
    runs_words_at = ap (λ m. (run_with one table m).table) (take-suc l i [] h) ∙ runs_more_words (take i l) (get_or l i []) table

    pub runs_number_at : get_or (run_with one table l).numbers i 0 ≡ (one (run_with one table (take i l)).table (get_or l i [])).number
    unfolding run_with
    runs_number_at =
        let t : List ℕ = get_or l i [] in
        let before : Done = run_with one table (take i l) in
        let places : length before.numbers ≡ i = runs_numbers (take i l) table ∙ length-take-le i l (omega arith) in
        ap (λ m. get_or (run_with one table m).numbers i 0) (split_at l i [] h)
        ∙ (ap (λ m. get_or m i 0) (runs_append (take i l) (t ∷ drop (suc i) l) table).1
        ∙ get_or_at before.numbers (one before.table t).number _ 0 i places)

-- A step leaves as many words as it found, and a consistent table of one.
pub record Keeps (N : Numbers) (one : List ℕ → List ℕ → Answer) : Type 0 where
  pub long : (table ticket : List ℕ) → length (one table ticket).table ≡ length table
  pub rules : (table ticket : List ℕ) → Table N table → Table N (one table ticket).table

module _ {N : Numbers} (one : List ℕ → List ℕ → Answer) (k : Keeps N one) where
  pub runs_words : (l : List (List ℕ)) (table : List ℕ) → length (run_with one table l).table ≡ length table
  unfolding run_with
  runs_words [] table = refl
  runs_words (t ∷ l) table = runs_words l (one table t).table ∙ k.long table t

  pub runs_table : (l : List (List ℕ)) (table : List ℕ) → Table N table → Table N (run_with one table l).table
  unfolding run_with
  runs_table [] table h = h
  runs_table (t ∷ l) table h = runs_table l (one table t).table (k.rules table t h)

-- The register runs its own step.
pub run_is : (N : Numbers) (table : List ℕ) (l : List (List ℕ)) → run N table l ≡ run_with (step N) table l
unfolding run
run_is N table l = refl
