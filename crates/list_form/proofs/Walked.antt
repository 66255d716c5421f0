-- A loop over the tickets of a list, after some of them: what is left is run from the words that those before left. Assumes
-- nothing.
use Prim.Native.Nat.{ℕ, suc, ◌+◌, ◌≤◌, ◌<◌}
use mathlib.Core.Path.{◌≡◌, refl, sym, ap, ◌∙◌}
use mathlib.Core.List.{List, [], ◌∷◌, ◌++◌, append-nil, append_assoc}
use native.Mathlib.Omega.{arith}
use lib.Dec.{eqb}
use lib.ListN.{length, drop, set, length-append, length-drop}
use lib.Seq.{drop-cons, set_at}
use Rattle.rdfs.specs.Numbers.{product}
use Rattle.rdfs.specs.Register.{Answer, run_with, Done, Table}
use Rattle.rdfs.proofs.Register.Perms.{count_append}
use Rattle.rdfs.proofs.Register.RunLaws.{Keeps, runs_numbers, runs_more_numbers}
use Rattle.list_form.specs.Listing.{accepted_of, written}
use Rattle.list_form.specs.Loops.{accepted_after, OneRun, AllRun}
use Rattle.list_form.proofs.Runs.{all_counted, left_length, left_table, left_more}

-- As many bytes as there were.
written_length : (numbers room : List ℕ) → length numbers ≤ length room → length (written numbers room) ≡ length room
written_length numbers room h =
    omega (arith, h, length-append numbers (drop (length numbers) room), length-drop (length numbers) room)

-- One number more goes to the next byte.
written_more : (numbers room : List ℕ) (n : ℕ) → length numbers < length room → set (written numbers room) (length numbers) n
    ≡ written (numbers ++ (n ∷ [])) room
written_more numbers room n h =
    let rest = drop (suc (length numbers)) room in
    let size : length (numbers ++ (n ∷ [])) ≡ suc (length numbers) = omega (arith, length-append numbers (n ∷ [])) in
    ap (λ l. set (numbers ++ l) (length numbers) n) (drop-cons room (length numbers) 0 h)
    ∙ (set_at numbers _ rest n (length numbers) refl
    ∙ (sym (append_assoc numbers (n ∷ []) rest) ∙ ap (λ k. (numbers ++ (n ∷ [])) ++ drop k room) (sym size)))

-- Of the tickets `all`, for which there is room, i are run from the words `start` and `left` are not; ok are accepted, and the
-- words and answer bytes are these.
pub record Walked (one : List ℕ → List ℕ → Answer) (start room : List ℕ) (all left : List (List ℕ)) (i ok : ℕ) (w out : List ℕ)
    : Type 0 where
  pub fits : length all ≤ length room
  pub before : List (List ℕ)
  pub tickets : all ≡ before ++ left
  pub places : length before ≡ i
  pub accepted : ok ≡ accepted_of (run_with one start before).numbers
  pub words : w ≡ (run_with one start before).table
  pub numbers : out ≡ written (run_with one start before).numbers room

pub walked_start : (one : List ℕ → List ℕ → Answer) (start room : List ℕ) (all : List (List ℕ)) → length all ≤ length room
    → Walked one start room all all 0 0 start room
unfolding run_with
walked_start one start room all h =
    record { fits = h; before = []; tickets = refl; places = refl; accepted = refl; words = refl; numbers = refl }

module _ {one : List ℕ → List ℕ → Answer} {start room : List ℕ} {all : List (List ℕ)} {i ok : ℕ} {w out : List ℕ} where
  pub walked_done : Walked one start room all [] i ok w out → AllRun ok w room out (run_with one start all)
  walked_done q =
      let e : all ≡ q.before = q.tickets ∙ append-nil q.before in
      rw e record { accepted = q.accepted; words = q.words; numbers = q.numbers }

  module _ {left : List (List ℕ)} (q : Walked one start room all left i ok w out) where
    given : length (run_with one start q.before).numbers ≡ i
    given = runs_numbers one q.before start ∙ q.places

    size : i + length left ≤ length room
    size = omega (arith, q.fits, ap length q.tickets, length-append q.before left, q.places)

    pub walked_out : length out ≡ length room
    walked_out =
        ap length q.numbers ∙ written_length (run_with one start q.before).numbers room (omega (arith, given, size))

    pub walked_accepted : ok ≤ i
    walked_accepted = omega (arith, q.accepted, all_counted (run_with one start q.before).numbers, given)

    pub walked_place : 0 < length left → i < length out
    walked_place h = omega (arith, size, walked_out)

    pub walked_words : Keeps product one → length w ≡ length start
    walked_words = left_length one start q.before q.words

    pub walked_table : Keeps product one → Table product start → Table product w
    walked_table = left_table one start q.before q.words

  -- One ticket more.
  pub walked_more : {t : List ℕ} {left : List (List ℕ)} (q : Walked one start room all (t ∷ left) i ok w out) {r : ℕ}
      {v new : List ℕ} → OneRun i ok r v out new (one w t) → Walked one start room all left (i + 1) r v new
  walked_more {t} {left} q {r} {v} {new} o =
      let d : Done = run_with one start q.before in
      let s : Answer = one d.table t in
      let same : one w t ≡ s = ap (λ u. one u t) q.words in
      let places : length d.numbers ≡ i = given q in
      let after : (run_with one start (q.before ++ (t ∷ []))).numbers ≡ d.numbers ++ (s.number ∷ []) =
      runs_more_numbers one q.before t start in
      let room-left : length d.numbers < length room = omega (arith, size q, places) in
      record {
        fits = q.fits;
        before = q.before ++ (t ∷ []);
        tickets = q.tickets ∙ sym (append_assoc q.before (t ∷ []) left);
        places = omega (arith, length-append q.before (t ∷ []), q.places);
        accepted = o.accepted ∙ (ap (λ a. accepted_after ok a.number) same
            ∙ (omega (arith, q.accepted, count_append (λ n. eqb n 0) d.numbers (s.number ∷ []))
            ∙ sym (ap accepted_of after)));
        words = left_more one start q.before q.words t o.words;
        numbers = o.numbers ∙ (ap (λ a. set out i a.number) same ∙ (ap (λ l. set l i s.number) q.numbers
            ∙ (ap (λ k. set (written d.numbers room) k s.number) (sym places)
            ∙ (written_more d.numbers room s.number room-left ∙ ap (λ l. written l room) (sym after)))));
      }
