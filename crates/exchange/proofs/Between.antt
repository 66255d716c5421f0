-- A refusal keeps what was there; words that were read are a consistent table. Assumes nothing.
use Prim.Native.Nat.{ℕ}
use mathlib.Core.Path.{◌≡◌, sym, ap, subst, ◌∙◌}
use mathlib.Core.Bool.{cond}
use mathlib.Core.List.{List}
use lib.Dec.{eqb}
use borrow.Author.Tests.{eq-eqb, ne_eqb}
use Rattle.rdfs.specs.Numbers.{product}
use Rattle.rdfs.specs.Register.{Table}
use Rattle.rdfs.proofs.Tickets.Steps.{checked_table}
use Rattle.reading.specs.ReadPromise.{read_answer, read_words}
use Rattle.triples.specs.ReadTriples.{read_triples_answer, read_triples_words}
use Rattle.triples.proofs.TriplesTheorems.{reads_as_sound}
use Rattle.image.proofs.ImageTheorems.{read_as}
use Rattle.exchange.specs.ToText.{room}

-- By a refusal, what was there is kept; for 0 the new is left.
pub refused_keeps : {A : Type 0} (n : ℕ) (new old : A) → (n ≡ 0 → ⊥) → cond (eqb n 0) new old ≡ old
refused_keeps n new old h = ap (λ b. cond b new old) (ne_eqb n 0 h)

pub passed_leaves : {A : Type 0} (n : ℕ) (new old : A) → n ≡ 0 → cond (eqb n 0) new old ≡ new
passed_leaves n new old e = ap (λ b. cond b new old) (eq-eqb n 0 e)

-- Words that were read, of an image or of a text, are a consistent table.
pub read_table : (image : List ℕ) (n : ℕ) {w : List ℕ} → n ≡ read_answer room image → n ≡ 0 → w ≡ read_words room image
    → Table product w
read_table image n e z h =
    subst (Table product) (sym h) (checked_table product (read_words room image) (sym (read_as room image (sym z ∙ e)).passes))

pub read_text_table : (text : List ℕ) (n : ℕ) {w : List ℕ} → n ≡ read_triples_answer room text → n ≡ 0
    → w ≡ read_triples_words room text → Table product w
read_text_table text n e z h = subst (Table product) (sym h) (reads_as_sound room text (sym e ∙ z)).table
