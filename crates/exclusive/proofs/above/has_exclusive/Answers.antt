-- `above::has_exclusive`: the last word decides. Assumes nothing.
use Prim.Native.Nat.{ℕ, ◌-◌}
use mathlib.Core.Path.{◌≡◌, sym, ap, subst, ◌∙◌}
use mathlib.Core.Bool.{false}
use mathlib.Core.List.{List}
use lib.Dec.{T, eqb}
use lib.ListN.{length, get_or}
use borrow.Author.Tests.{eq-eqb}
use Rattle.std.specs.Prelude.{Some, slice_get}
use Rattle.std.proofs.lemmas.Option.{get_or_from_slice_get}
use Rattle.table.specs.Parts.{kind_of}
use Rattle.exclusive.proofs.AboveFlags.{last_exclusive}
use Rattle.exclusive.proofs.above.has_exclusive.Goals as goal

-- The word that is read last.
is_last : (t : List ℕ) {word k : ℕ} → Some word ≡ slice_get t (length t - 1) → k ≡ kind_of word → eqb k 11 ≡ false
    → kind_of (get_or t (length t - 1) 0) ≡ 11 → ⊥
is_last t {word} e p other h =
    let read : kind_of word ≡ 11 = ap kind_of (sym (get_or_from_slice_get t _ word 0 (sym e))) ∙ h in
    subst T (sym (eq-eqb _ 11 (p ∙ read)) ∙ other) tt

pub returns-in-Some : goal.returns-in-Some
returns-in-Some c = record {
  none = λ e x h. is_last c.args.facts.now c.in-Some.ensures.value c.kind_of.ensures.answer e
      (last_exclusive c.args.facts.now c.requires.facts h).1;
}
