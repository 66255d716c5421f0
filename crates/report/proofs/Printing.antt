-- A loop that runs tickets and gathers their lines, after some of them. Assumes nothing.
use Prim.Native.Nat.{ℕ, ◌+◌, ◌*◌, ◌≤◌, ◌<◌, min}
use mathlib.Core.Path.{◌≡◌, refl, sym, ap, subst, ◌∙◌}
use mathlib.Core.List.{List, [], ◌∷◌, ◌++◌, append-nil, append_assoc}
use native.Mathlib.Omega.{arith}
use lib.ListN.{length, take, length-append}
use Rattle.rdfs.specs.Numbers.{product, record_length}
use Rattle.rdfs.specs.Register.{Answer, step, run, cut, Table}
use Rattle.table.specs.Refused.{answer_of}
use Rattle.ticket.specs.Answered.{Outcome, added_by, removed_by, Answered}
use Rattle.list_form.proofs.Runs.{register_keeps, left_length, left_table, left_more}
use Rattle.list_form.proofs.CutOff.{cut_chunk, cut_end}
use Rattle.text.specs.Text.{Puts}
use Rattle.report.specs.Lines.{Line, Lines, Printed}

pub line_same : {x y z u v w : ℕ} (text : List ℕ) → x ≡ u → y ≡ v → z ≡ w → Line x y z text → Line u v w text
line_same {x} {y} {z} {u} {v} {w} text a b c l =
    subst (λ n. Line n v w text) a (subst (λ n. Line x n w text) b (subst (λ n. Line x y n text) c l))

-- The lines of tickets and then of others.
pub lines_append : (l m : List (List ℕ)) (w text rest : List ℕ) → Lines w l text → Lines (run product w l).table m rest
    → Lines w (l ++ m) (text ++ rest)
unfolding run
lines_append [] m w text rest q h = subst (Lines w m) (sym (ap (λ s. s ++ rest) q)) h
lines_append (t ∷ l) m w text rest q h = (
  q.0,
  q.1 ++ rest,
  q.2,
  lines_append l m (step product w t).table q.1 rest q.3 h,
  ap (λ s. s ++ rest) q.4 ∙ append_assoc q.0 q.1 rest,
)

-- The line of a ticket that is run after others.
lines_more : (l : List (List ℕ)) (w t text line : List ℕ) → Lines w l text
    → Line (step product (run product w l).table t).number (step product (run product w l).table t).added
    (step product (run product w l).table t).removed line
    → Lines w (l ++ (t ∷ [])) (text ++ line)
lines_more l w t text line q h = lines_append l (t ∷ []) w text line q (line, [], h, refl, sym (append-nil line))

-- Of the tickets `all` from the words `start`, some are run and `left` are not; their lines stand before place `at`, and the
-- words are w.
pub record Printing (start : List ℕ) (all left : List (List ℕ)) (at : ℕ) (w out : List ℕ) : Type 0 where
  pub before : List (List ℕ)
  pub tickets : all ≡ before ++ left
  pub words : w ≡ (run product start before).table
  pub lines : Lines start before (take at out)
  pub short : at ≤ 18 * length before

module _ (start : List ℕ) (all : List (List ℕ)) where
  pub printing_start : (out : List ℕ) → Printing start all all 0 start out
  unfolding run
  printing_start out = record { before = []; tickets = refl; words = refl; lines = refl; short = omega arith }

  module _ {left : List (List ℕ)} {at : ℕ} {w out : List ℕ} (q : Printing start all left at w out) where
    pub printing_room : 18 * length all ≤ length out → at + 18 * length left ≤ length out
    printing_room h = omega (arith, h, q.short, ap length q.tickets, length-append q.before left)

    pub printing_words : length w ≡ length start
    unfolding run
    printing_words = left_length (step product) start q.before q.words register_keeps

    pub printing_table : Table product start → Table product w
    unfolding run
    printing_table = left_table (step product) start q.before q.words register_keeps

  pub printing_more : {t : List ℕ} {left : List (List ℕ)} {at r : ℕ} {w v out new : List ℕ} {a : Outcome}
      → Printing start all (t ∷ left) at w out → Answered a v (step product w t)
      → (r ≤ at + 18) × Puts (Line (answer_of a) (added_by a) (removed_by a)) at r out new → Printing start all left r v new
  unfolding run
  printing_more {t} {left} {at} {r} {w} {v} {out} {new} {a} q h (short, p) =
      let s : Answer = step product (run product start q.before).table t in
      let same : step product w t ≡ s = ap (λ u. step product u t) q.words in
      let line : Line s.number s.added s.removed p.text =
      line_same p.text (h.number ∙ ap (λ e. e.number) same) (h.added ∙ ap (λ e. e.added) same) (h.removed
      ∙ ap (λ e. e.removed) same) p.is in
      record {
        before = q.before ++ (t ∷ []);
        tickets = q.tickets ∙ sym (append_assoc q.before (t ∷ []) left);
        words = left_more (step product) start q.before q.words t h.words;
        lines = subst (Lines start (q.before ++ (t ∷ []))) (sym p.there) (lines_more q.before start t (take at out)
            p.text q.lines line);
        short = omega (arith, short, q.short, length-append q.before (t ∷ []));
      }

  pub printing_done : {at : ℕ} {w out : List ℕ} → Printing start all [] at w out → at ≤ length out → Printed start all at w out
  printing_done q h =
      let e : all ≡ q.before = q.tickets ∙ append-nil q.before in
      rw e record { words = q.words; lines = q.lines; within = h }

-- Of the bytes of a list some are run, and these are left.
pub record PrintingBytes (start bytes left : List ℕ) (at : ℕ) (w out : List ℕ) : Type 0 where
  pub printing : Printing start (cut record_length bytes) (cut record_length left) at w out

pub bytes_start : (start bytes left out : List ℕ) → left ≡ bytes → PrintingBytes start bytes left 0 start out
bytes_start start bytes left out whole = rw whole record { printing = printing_start start (cut record_length bytes) out }

abbrev one : List ℕ → List ℕ → Answer
one = step product

module _ {start bytes left : List ℕ} {at : ℕ} {w out : List ℕ} (q : PrintingBytes start bytes left at w out) where
  pub bytes_table : Table product start → Table product w
  bytes_table = printing_table start (cut record_length bytes) q.printing

  pub bytes_end : length left ≡ 0 → 18 * length (cut record_length bytes) ≤ length out
      → Printed start (cut record_length bytes) at w out
  bytes_end h room =
      let last : Printing start (cut record_length bytes) [] at w out =
      subst (λ l. Printing start (cut record_length bytes) l at w out) (cut_end record_length left h) q.printing in
      printing_done start (cut record_length bytes) last (omega (arith, printing_room start (cut record_length bytes) last room))

  -- The next ticket, and what is left after it, as the iterator over the tickets gives them.
  module _ {size : ℕ} (ticket rest : List ℕ) (five : size ≡ record_length) (step : (left ≡ ticket ++ rest)
      × (length ticket ≡ min size (length left)) × (0 < length left)) where
    next : Printing start (cut record_length bytes) (ticket ∷ cut record_length rest) at w out
    next = subst (λ l. Printing start (cut record_length bytes) l at w out)
        (cut_chunk record_length (omega arith) left ticket rest step.0 (omega (arith, five, step.1)) step.2) q.printing

    pub bytes_line : 18 * length (cut record_length bytes) ≤ length out → at + 18 ≤ length out
    bytes_line room = omega (arith, printing_room start (cut record_length bytes) next room)

    pub bytes_more : {r : ℕ} {v new : List ℕ} {a : Outcome} → Answered a v (one w ticket)
        → (r ≤ at + 18) × Puts (Line (answer_of a) (added_by a) (removed_by a)) at r out new → PrintingBytes start bytes rest r v new
    bytes_more ran put = record { printing = printing_more start (cut record_length bytes) next ran put }
