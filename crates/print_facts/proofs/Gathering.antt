-- A loop that gathers the lines of a table's facts, after some of its words. Assumes nothing.
use Prim.Native.Nat.{ℕ, ◌+◌, ◌*◌, ◌≤◌, ◌<◌}
use mathlib.Core.Path.{◌≡◌, refl, sym, ap, subst, ◌∙◌}
use mathlib.Core.Bool.{not, cond}
use mathlib.Core.List.{List, [], ◌∷◌, ◌++◌, append-nil, append_assoc}
use native.Mathlib.Omega.{arith}
use native.Mathlib.Numerals.{add-one}
use lib.Dec.{eqb}
use lib.ListN.{length, take, get_or}
use lib.Seq.{take-suc, take_all}
use borrow.Author.Tests.{eq-eqb, ne_eqb}
use Rattle.rdfs.specs.Words.{filled}
use Rattle.rdfs.proofs.Lists.Filters.{filter_append}
use Rattle.text.specs.Text.{Number, Puts}
use Rattle.print_facts.specs.FactLines.{WordLines, WordsPrinted}

-- The line of one word more.
lines_more : (l : List ℕ) (w : ℕ) (text line : List ℕ) → WordLines l text → Number w 10 line
    → WordLines (l ++ (w ∷ [])) (text ++ line)
lines_more [] w text line q h = (line, [], h, refl, ap (λ s. s ++ line) q ∙ sym (append-nil line))
lines_more (v ∷ l) w text line q h =
    (q.0, q.1 ++ line, q.2, lines_more l w q.1 line q.3 h, ap (λ s. s ++ line) q.4 ∙ append_assoc q.0 q.1 line)

-- The lines of the facts before place i of the table t stand before place `at`.
pub record Gathered (t : List ℕ) (i at : ℕ) (out : List ℕ) : Type 0 where
  pub lines : WordLines (filled (take i t)) (take at out)
  pub short : at ≤ 11 * i

module _ (t : List ℕ) where
  pub gathered_start : (out : List ℕ) → Gathered t 0 0 out
  gathered_start out = record { lines = refl; short = omega arith }

  pub gathered_same : {i at r : ℕ} {out new : List ℕ} → new ≡ out → r ≡ at → Gathered t i at out → Gathered t i r new
  gathered_same {i} {at} {r} {out} {new} e f q = subst (λ l. Gathered t i r l) (sym e) (subst (λ k. Gathered t i k out) (sym f) q)

  module _ {i at : ℕ} {out : List ℕ} (q : Gathered t i at out) where
    module _ (h : i < length t) where
      one_more : filled (take (i + 1) t) ≡ filled (take i t) ++ filled (get_or t i 0 ∷ [])
      one_more = ap (λ k. filled (take k t)) (add-one i) ∙ (ap filled (take-suc t i 0 h) ∙ filter_append (λ x. not (eqb x 0))
          (take i t) (get_or t i 0 ∷ []))

      pub gathered_zero : get_or t i 0 ≡ 0 → Gathered t (i + 1) at out
      gathered_zero e =
          let none : filled (get_or t i 0 ∷ []) ≡ [] = ap (λ b. cond (not b) (get_or t i 0 ∷ []) []) (eq-eqb _ _ e) in
          let same : filled (take (i + 1) t) ≡ filled (take i t) =
          one_more ∙ (ap (λ l. filled (take i t) ++ l) none ∙ append-nil (filled (take i t))) in
          record { lines = subst (λ l. WordLines l (take at out)) (sym same) q.lines; short = omega (arith, q.short) }

      pub gathered_more : {r : ℕ} {new : List ℕ} → (get_or t i 0 ≡ 0 → ⊥)
          → (r ≤ at + 11) × Puts (Number (get_or t i 0) 10) at r out new → Gathered t (i + 1) r new
      gathered_more {r} {new} n (short, p) =
          let some : filled (get_or t i 0 ∷ []) ≡ get_or t i 0 ∷ [] =
          ap (λ b. cond (not b) (get_or t i 0 ∷ []) []) (ne_eqb _ _ n) in
          let longer : filled (take (i + 1) t) ≡ filled (take i t) ++ (get_or t i 0 ∷ []) =
          one_more ∙ ap (λ l. filled (take i t) ++ l) some in
          let text : WordLines (filled (take i t) ++ (get_or t i 0 ∷ [])) (take r new) =
          subst (WordLines (filled (take i t) ++ (get_or t i 0 ∷ []))) (sym p.there)
          (lines_more (filled (take i t)) (get_or t i 0) (take at out) p.text q.lines p.is) in
          record { lines = subst (λ l. WordLines l (take r new)) (sym longer) text; short = omega (arith, short, q.short) }

    pub gathered_done : i ≤ length t → length t ≤ i → 11 * length t ≤ length out → WordsPrinted (filled t) at out
    gathered_done h end room = record {
      lines = subst (λ l. WordLines (filled l) (take at out)) (take_all i t end) q.lines;
      within = omega (arith, q.short, h, room);
    }
