-- A chunk of bytes: its lines fit the room lent with it; what a turn shows. A fresh table is consistent. Assumes nothing.
use Prim.Native.Nat.{ℕ, ◌+◌, ◌*◌, ◌/◌, ◌%◌, ◌≤◌, ◌<◌}
use mathlib.Core.Path.{◌≡◌, sym, ap, subst, ◌∙◌}
use mathlib.Core.Bool.{Bool, true, false, ◌||◌, cond}
use mathlib.Core.List.{List}
use native.Mathlib.Omega.{arith}
use lib.Dec.{eqb, leb, ltb}
use lib.ListN.{length, take}
use lib.Seq.{length-take-le, take_all}
use Rattle.std.specs.Prelude.{Some}
use Rattle.rdfs.specs.Numbers.{product, record_length}
use Rattle.rdfs.specs.Words.{facts, fresh}
use Rattle.rdfs.specs.Demands.{needs}
use Rattle.rdfs.specs.Clashes.{bars, unequal, exists_for, is_consistent}
use Rattle.rdfs.specs.Register.{cut, Table}
use Rattle.rdfs.proofs.Register.Cut.{cut_length}
use Rattle.rdfs.proofs.Consistency.Decision.{check_sound}
use Rattle.table_calls.specs.Calls.{fresh_words}
use Rattle.report.specs.Lines.{Printed}
use Rattle.report.specs.Turns.{start, Runs, Lent, Shows, Sized}
use Rattle.report.specs.declared.turns.Turned.TheVariants.{More, Last}

-- The lines of the first n bytes of a chunk fit the room that is lent with it.
pub lines_fit : (bytes out : List ℕ) (n : ℕ) → n ≤ length bytes → 18 * (length bytes / record_length + 1) ≤ length out
    → 18 * length (cut record_length (take n bytes)) ≤ length out
lines_fit bytes out n h room =
    let long : length (take n bytes) ≡ n = length-take-le n bytes h in
    omega (
      arith,
      room,
      h,
      long,
      cut_length record_length (omega arith) (take n bytes),
      one (eqb (length (take n bytes) % record_length) 0),
    )
  where
    one : (b : Bool) → cond b 0 1 ≤ 1
    one true = omega arith
    one false = omega arith

-- A turn with the first n bytes of a chunk, by what stands in the two buffers; with all of them, if n is their number.
module _ {w : List ℕ} (bytes : List ℕ) {v out : List ℕ} (n : ℕ) {k : ℕ} (p : Printed w (cut record_length (take n bytes)) k v out)
  where
    pub shows_last : n < length bytes → Shows (Some (Last n)) w bytes v out
    shows_last h = (k, h, record { lines = p.lines; words = p.words })

    pub shows_more : n ≡ length bytes → Shows (Some More) w bytes v out
    shows_more e =
        let all : take n bytes ≡ bytes = take_all n bytes (omega (arith, e)) in
        subst (λ l. (j : ℕ) × Runs w v (record { read = l; text = take j out })) all
        (k, record { lines = p.lines; words = p.words })

pub fresh_table : Table product start
unfolding is_consistent bars unequal exists_for needs
fresh_table =
    record { some = omega arith; fits = omega arith; laid = tt; consistent = check_sound (facts product start) tt }

-- A table of the most words, made fresh.
pub made_fresh : (t : List ℕ) {v : List ℕ} → length t ≡ product.most → v ≡ fresh_words t → v ≡ start
made_fresh t e h = h ∙ ap (λ n. cond (leb n 0 || ltb product.most n) t (fresh product n)) e

-- What is lent to the whole program, once the table is fresh.
pub lent_fresh : {w bytes out : List ℕ} → w ≡ start → Sized (length bytes) (length out) → Lent w bytes out
lent_fresh e s = record { table = subst (Table product) (sym e) fresh_table; sized = s }
