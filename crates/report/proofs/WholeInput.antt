-- Turns one after another: the tickets of whole chunks are those of all their bytes, so the turns write the lines of
-- the whole input. Assumes nothing.
use Prim.Native.Nat.{ℕ, zero, suc, ◌*◌, ◌/◌, ◌%◌}
use mathlib.Core.Path.{◌≡◌, refl, sym, ap, subst, ◌∙◌}
use mathlib.Core.Bool.{Bool, true}
use mathlib.Core.List.{List, [], ◌∷◌, ◌++◌, append_assoc}
use native.Mathlib.Omega.{arith}
use lib.ListN.{length, take, drop, length-drop, take-append-drop}
use lib.Seq.{length-take-le}
use Rattle.std.specs.Prelude.{Some}
use Rattle.rdfs.specs.Numbers.{product, record_length}
use Rattle.rdfs.specs.Lists.{concat_map}
use Rattle.rdfs.specs.Words.{filled}
use Rattle.rdfs.specs.Register.{run, cut, Table}
use Rattle.rdfs.proofs.Register.Cut.{cut_record}
use Rattle.rdfs.proofs.Register.AfterEach.{run_append, run_table}
use Rattle.rdfs.proofs.Theorems.{product_sound}
use Rattle.text.specs.Text.{Number}
use Rattle.report.specs.Lines.{Lines}
use Rattle.report.specs.Turns.{start, Turn, Runs, FullTurns, read_by, written_by, Ran, Finishes}
use Rattle.report.proofs.Printing.{lines_append}
use Rattle.report.proofs.Chunk.{fresh_table}

abbrev tickets : List ℕ → List (List ℕ)
tickets bytes = cut record_length bytes

-- Whole records and then other bytes: the tickets of both, one after another.
cut_append : (k : ℕ) (a b : List ℕ) → length a ≡ k * record_length → tickets (a ++ b) ≡ tickets a ++ tickets b
cut_append zero [] b e = refl
cut_append zero (x ∷ a) b e = absurd (omega (arith, e))
cut_append (suc k) a b e =
    let first : List ℕ = take record_length a in
    let rest : List ℕ = drop record_length a in
    let long : length first ≡ record_length = length-take-le record_length a (omega (arith, e)) in
    let split : a ≡ first ++ rest = sym (take-append-drop record_length a) in
    let more : tickets (rest ++ b) ≡ tickets rest ++ tickets b =
    cut_append k rest b (omega (arith, e, length-drop record_length a)) in
    let left : tickets (a ++ b) ≡ first ∷ tickets (rest ++ b) =
    ap (λ l. tickets (l ++ b)) split
    ∙ (ap tickets (append_assoc first rest b) ∙ cut_record record_length (omega arith) first (rest ++ b) long) in
    let right : tickets a ≡ first ∷ tickets rest =
    ap tickets split ∙ cut_record record_length (omega arith) first rest long in
    left ∙ (ap (λ l. first ∷ l) more ∙ sym (ap (λ l. l ++ tickets b) right))

-- A turn with whole tickets, and one after it, are one turn with the bytes and the texts of both.
runs_append : (k : ℕ) (first second : Turn) {w u v : List ℕ} → length first.read ≡ k * record_length → Runs w u first
    → Runs u v second → Runs w v (record { read = first.read ++ second.read; text = first.text ++ second.text })
runs_append k first second {w} {u} {v} e p q =
    let all : tickets (first.read ++ second.read) ≡ tickets first.read ++ tickets second.read =
    cut_append k first.read second.read e in
    record {
      lines = subst (λ l. Lines w l (first.text ++ second.text)) (sym all)
          (lines_append (tickets first.read) (tickets second.read) w first.text second.text p.lines
          (subst (λ x. Lines x (tickets second.read) second.text) p.words q.lines));
      words = q.words ∙ (ap (λ x. (run product x (tickets second.read)).table) p.words
          ∙ (sym (run_append product (tickets first.read) (tickets second.read) w).0
          ∙ ap (λ l. (run product w l).table) (sym all)));
    }

-- Full turns and a last one are one turn with what all of them read and write.
runs_all : (k size : ℕ) → size ≡ k * record_length → (full : List Turn) (last : Turn) (w u v : List ℕ)
    → FullTurns size w full u → Runs u v last → Runs w v (record { read = read_by full last; text = written_by full last })
runs_all k size e [] last w u v q p = subst (λ x. Runs x v last) q p
runs_all k size e (t ∷ full) last w u v q p =
    let rest : Turn = record { read = read_by full last; text = written_by full last } in
    let both = runs_append k t rest (q.1 ∙ e) q.2 (runs_all k size e full last q.0 u v q.3 p) in
    let reads : t.read ++ read_by full last ≡ read_by (t ∷ full) last =
    sym (append_assoc t.read (concat_map (λ s. s.read) full) last.read) in
    let texts : t.text ++ written_by full last ≡ written_by (t ∷ full) last =
    sym (append_assoc t.text (concat_map (λ s. s.text) full) last.text) in
    subst (λ x. Runs w v (record { read = read_by (t ∷ full) last; text = x })) texts
    (subst (λ x. Runs w v (record { read = x; text = t.text ++ written_by full last })) reads both)

-- One full turn more.
pub fulls_more : (size : ℕ) (full : List Turn) (t : Turn) (w u v : List ℕ) → FullTurns size w full u
    → length t.read ≡ size → Runs u v t → FullTurns size w (full ++ (t ∷ [])) v
fulls_more size [] t w u v q e p = (v, e, subst (λ x. Runs x v t) q p, refl)
fulls_more size (s ∷ full) t w u v q e p = (q.0, q.1, q.2, fulls_more size full t q.0 u v q.3 e p)

-- All turns on a fresh table, with chunks of whole tickets, if the program's loop came to the end of the input.
module _ (size : ℕ) (whole : size % record_length ≡ 0) {w v : List ℕ} (from : w ≡ start) (r : Bool) (e : r ≡ true)
    (ran : Ran r size w v) where
  turns : Ran true size start v
  turns = subst (λ x. Ran true size x v) from (subst (λ b. Ran b size w v) e ran)

  all : Runs start v (record { read = read_by turns.0 turns.1; text = written_by turns.0 turns.1 })
  all =
      let a = turns.2 in
      runs_all (size / record_length) size (omega (arith, whole)) turns.0 turns.1 start a.reached v a.before a.runs

  pub ran_table : Table product v
  ran_table = subst (Table product) (sym all.words)
      (run_table product product_sound (tickets (read_by turns.0 turns.1)) start fresh_table)

  -- They and the count's line write what program one prints.
  pub ran_prints : (k : ℕ) (out : List ℕ) → Number (length (filled v)) 10 (take k out) → Finishes (Some k) size v out
  ran_prints k out n = record {
    full = turns.0;
    last = turns.1;
    turns = turns.2;
    output = (
      written_by turns.0 turns.1,
      take k out,
      all.lines,
      subst (λ x. Number (length (filled x)) 10 (take k out)) all.words n,
      refl,
    );
  }
