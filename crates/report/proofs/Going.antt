-- The loop of program one after some turns. Assumes nothing.
use Prim.Native.Nat.{ℕ, ◌<◌}
use mathlib.Core.Path.{◌≡◌, refl, sym, subst, ◌∙◌}
use mathlib.Core.Bool.{true}
use mathlib.Core.List.{List, [], ◌∷◌, ◌++◌}
use native.Mathlib.Omega.{arith}
use lib.ListN.{length, take}
use lib.Seq.{length-take-le}
use Rattle.std.specs.Prelude.{Option, Some}
use Rattle.rdfs.specs.Numbers.{product, record_length}
use Rattle.rdfs.specs.Register.{cut, Table}
use Rattle.rdfs.proofs.Register.AfterEach.{run_table}
use Rattle.rdfs.proofs.Theorems.{product_sound}
use Rattle.report.specs.Turns.{Turn, Runs, FullTurns, Sized, Lent, Shows, Ran}
use Rattle.report.specs.declared.turns.Turned.{Turned}
use Rattle.report.specs.declared.turns.Turned.TheVariants.{More, Last}
use Rattle.report.proofs.WholeInput.{fulls_more}

-- What is lent stays so while the table is consistent and the lengths stay.
pub lent_kept : {w bytes out v chunk text : List ℕ} → Lent w bytes out → Table product v → length chunk ≡ length bytes
    → length text ≡ length out → Lent v chunk text
lent_kept {bytes = bytes} {text = text} l t b o = record {
  table = t;
  sized = subst (λ n. Sized n (length text)) (sym b) (subst (Sized (length bytes)) (sym o) l.sized);
}

-- Full turns have led from the words `start` to w; what is lent is as at the start but for its contents.
pub record Going (start bytes₀ out₀ w bytes out : List ℕ) : Type 0 where
  pub turns : List Turn
  pub full : FullTurns (length bytes₀) start turns w
  pub lent : Lent w bytes out
  pub words : length w ≡ length start
  pub chunk : length bytes ≡ length bytes₀
  pub room : length out ≡ length out₀

pub going_start : (w bytes out : List ℕ) → Lent w bytes out → Going w bytes out w bytes out
going_start w bytes out l =
    record { turns = []; full = refl; lent = l; words = refl; chunk = refl; room = refl }

module _ {start bytes₀ out₀ w bytes out : List ℕ} (q : Going start bytes₀ out₀ w bytes out) where
  left_table : {v : List ℕ} (t : Turn) → Runs w v t → Table product v
  left_table t p =
      subst (Table product) (sym p.words) (run_table product product_sound (cut record_length t.read) w q.lent.table)

  -- A full turn more; r is what it answers, v, chunk and text what it leaves.
  pub going_more : (r : Option Turned) (v chunk text : List ℕ) → r ≡ Some More → Shows r w chunk v text → length v ≡ length w
      → length chunk ≡ length bytes → length text ≡ length out → Going start bytes₀ out₀ v chunk text
  going_more r v chunk text e shows a b o =
      let s : Shows (Some More) w chunk v text = subst (λ x. Shows x w chunk v text) e shows in
      let t : Turn = record { read = chunk; text = take s.0 text } in
      record {
        turns = q.turns ++ (t ∷ []);
        full = fulls_more (length bytes₀) q.turns t start w v q.full (b ∙ q.chunk) s.1;
        lent = lent_kept q.lent (left_table t s.1) b o;
        words = a ∙ q.words;
        chunk = b ∙ q.chunk;
        room = o ∙ q.room;
      }

  -- The last turn.
  pub going_last : (r : Option Turned) (n : ℕ) (v chunk text : List ℕ) → r ≡ Some (Last n) → Shows r w chunk v text
      → length chunk ≡ length bytes → Ran true (length bytes₀) start v
  going_last r n v chunk text e shows b =
      let s : Shows (Some (Last n)) w chunk v text = subst (λ x. Shows x w chunk v text) e shows in
      let t : Turn = record { read = take n chunk; text = take s.0 text } in
      let short : length t.read < length bytes₀ =
      omega (arith, s.1, b, q.chunk, length-take-le n chunk (omega (arith, s.1))) in
      (q.turns, t, record { reached = w; before = q.full; ended = short; runs = s.2 })
