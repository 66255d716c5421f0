-- The answers of storing the words of a text, and the words that it leaves. Assumes nothing.
use Prim.Native.Nat.{ℕ}
use mathlib.Core.Path.{◌≡◌, sym, ap, ◌∙◌}
use mathlib.Core.Bool.{Bool, true, false, not, ◌||◌, cond, or-true}
use mathlib.Core.List.{List, []}
use native.Mathlib.Omega.{arith}
use lib.Dec.{ltb}
use lib.ListN.{length}
use Rattle.rdfs.specs.Numbers.{product}
use Rattle.rdfs.specs.Lists.{any}
use Rattle.rdfs.specs.Words.{padded}
use Rattle.rdfs.specs.Refusals.{or_else}
use Rattle.flags.specs.Flags.{none, Says}
use Rattle.flags.proofs.Added.{adds_none}
use Rattle.triple_form.specs.Lines.{Line}
use Rattle.triples.specs.TextRead.{lines_read, all_inside, as_literal, as_iri, is_member, told_twice, text_words}
use Rattle.triples.specs.ReadTriples.{text_refusal}
use Rattle.triples.specs.Storing.{ids, common, FlagsLines, Stores, put_all, text_puts}
use Rattle.triples.proofs.LinesRead.{top}
use Rattle.triples.proofs.ToldTwice.{told_twice_common}
use Rattle.triples.proofs.TextPuts.{puts_words}
use Rattle.triples.proofs.TextStored.{no_room, had_room, stored_words}
use Rattle.table.specs.Counted.{Counted}
use Rattle.std.proofs.Common.{None, Some}

-- The flags of a text whose lines are inside the profile say which ids its lines have.
pub flags_say : {test : ℕ → Line → Bool} {text : List ℕ} {r : Bool} {old new : List Bool} → r ≡ true → Says old none
    → FlagsLines test text r old new → Says new (λ n. any (test n) (lines_read top text))
flags_say {r = true} e s f = adds_none s (f.adds tt)
flags_say {r = false} e s f = absurd (omega (arith, ap (λ b. cond {A = ℕ} b 1 0) e))

-- Refusals 15 and 11.
module _ (text : List ℕ) (room : ℕ) where
  abbrev many : Bool
  many = ltb room (length (text_words product text))

  pub fill_outside : all_inside top text ≡ false → 15 ≡ text_refusal text room
  fill_outside e = sym (ap (λ b. or_else (not b || told_twice (lines_read top text)) 15 (or_else many 11 0)) e)

  module _ {literals values : List Bool} (a : Says literals (λ n. any (as_literal n) (lines_read top text)))
      (b : Says values (λ n. any (as_iri n) (lines_read top text))) where
    told_twice_is : {r t : Bool} → r ≡ any (common literals values) ids → r ≡ t → told_twice (lines_read top text) ≡ t
    told_twice_is e q = sym (told_twice_common text a b) ∙ (sym e ∙ q)

    pub fill_told_twice : {r : Bool} → r ≡ any (common literals values) ids → r ≡ true → 15 ≡ text_refusal text room
    fill_told_twice e q = sym (ap (λ t. or_else t 15 (or_else many 11 0))
        (ap (λ t. not (all_inside top text) || t) (told_twice_is e q) ∙ or-true (not (all_inside top text))))

    fill_inside : all_inside top text ≡ true → {r : Bool} → r ≡ any (common literals values) ids → r ≡ false
        → text_refusal text room ≡ or_else many 11 0
    fill_inside i e q = ap (λ t. or_else (not t || told_twice (lines_read top text)) 15 (or_else many 11 0)) i
        ∙ ap (λ t. or_else t 15 (or_else many 11 0)) (told_twice_is e q)

-- What storing the words of a text leaves.
module _ {t : List ℕ} (text : List ℕ) (empty : Counted t 0) {members literals values : List Bool}
    (m : Says members (λ n. any (is_member n) (lines_read top text)))
    (a : Says literals (λ n. any (as_literal n) (lines_read top text)))
    (b : Says values (λ n. any (as_iri n) (lines_read top text))) (i : all_inside top text ≡ true) {r : Bool}
    (e : r ≡ any (common literals values) ids) (q : r ≡ false) where
  answers : {full : Bool} → ltb (length t) (length (put_all (text_puts members literals text) [])) ≡ full → or_else full 11 0 ≡ text_refusal text (length t)
  answers h = ap (λ f. or_else f 11 0) (sym h) ∙ (ap (λ l. or_else (ltb (length t) (length l)) 11 0) (puts_words text m a)
      ∙ sym (fill_inside text (length t) a b i e q))

  pub filled_none : (after : List ℕ) → Stores t (text_puts members literals text) after None → 11 ≡ text_refusal text (length t)
  filled_none after s = answers (no_room empty (text_puts members literals text) s.0)

  module _ {after : List ℕ} {n : ℕ} (s : Stores t (text_puts members literals text) after (Some n)) where
    pub filled_answer : 0 ≡ text_refusal text (length t)
    filled_answer = answers (had_room empty (text_puts members literals text) s)

    pub filled_words : after ≡ padded (length t) (text_words product text)
    filled_words = stored_words empty (text_puts members literals text) s ∙ ap (padded (length t)) (puts_words text m a)
