-- The ways through turning an image into a text and a text into an image: refused by reading, then as writing does. Assumes
-- nothing.
use Prim.Native.Nat.{ℕ}
use mathlib.Core.Path.{◌≡◌, refl, sym, ap, subst, ◌∙◌}
use Rattle.std.proofs.Common.{Result, Err}
use Rattle.triples.proofs.Numbered.{number_some}
use mathlib.Core.List.{List}
use native.Mathlib.Omega.{arith}
use Rattle.writing.specs.WritePromise.{write_answer, write_length, write_bytes, length_of, WritePromise}
use Rattle.reading.specs.ReadPromise.{read_answer, read_words}
use Rattle.triples.specs.WriteTriples.{write_triples_answer, write_triples_length, write_triples_bytes, WriteTriplesPromise}
use Rattle.triples.specs.ReadTriples.{read_triples_answer, read_triples_words}
use Rattle.table.specs.Refused.{number, answer_of}
use Rattle.table.specs.declared.refusals.Refusal.{Refusal}
use Rattle.table.specs.declared.refusals.Refusal.TheVariants.{
  BadSize,
  BadLayout,
  Inconsistent,
  BadLength,
  BadOperation,
  BadKind,
  BadIds,
  Guarded,
  UnknownProperty,
  Clashing,
  TooMany,
  Malformed,
  ShortOutput,
  FewAnswers,
  OutsideProfile,
  UnknownClass,
  NotForOperators,
  OutOfDate,
}
use Rattle.exchange.specs.ToText.{room, ToTextPromise}
use Rattle.exchange.specs.PlaceTold.{PlaceTold, none}
use Rattle.exchange.specs.ToImage.{text_graph, imaged_answer, imaged_place, imaged_length, ToImagePromise}
use Rattle.exchange.specs.declared.Rejected.{Rejected}
use Rattle.exchange.specs.declared.Rejected.TheVariants.{Broken, Refused}
use Rattle.exchange.proofs.Between.{refused_keeps, passed_leaves}

module _ (image output : List ℕ) (n : ℕ) (e : n ≡ read_answer room image) where
  pub text_unread : (r : Refusal) → number r ≡ n → ToTextPromise image output (Err r) output
  text_unread r d =
      let no : read_answer room image ≡ 0 → ⊥ = λ z. number_some r (d ∙ (e ∙ z)) in
      record {
        answer_is = d ∙ e ∙ sym (refused_keeps (read_answer room image) _ (read_answer room image) no);
        length_is = sym (refused_keeps (read_answer room image) _ 0 no);
        bytes_are = sym (refused_keeps (read_answer room image) _ output no);
      }

  pub text_read : n ≡ 0 → {w : List ℕ} → w ≡ read_words room image → (text : Result ℕ Refusal) (left : List ℕ)
      → WriteTriplesPromise w output text left → ToTextPromise image output text left
  text_read z {w} from text left p =
      let yes : read_answer room image ≡ 0 = sym e ∙ z in
      record {
        answer_is = p.answer_is ∙ (ap (λ t. write_triples_answer t output) from
            ∙ sym (passed_leaves (read_answer room image) (write_triples_answer (read_words room image) output)
            (read_answer room image) yes));
        length_is = p.length_is ∙ (ap (λ t. write_triples_length t output) from
            ∙ sym (passed_leaves (read_answer room image) (write_triples_length (read_words room image) output) 0 yes));
        bytes_are = p.bytes_are ∙ (ap (λ t. write_triples_bytes t output) from
            ∙ sym (passed_leaves (read_answer room image) (write_triples_bytes (read_words room image) output) output yes));
      }

module _ (text output : List ℕ) where
  -- Refused by reading: with 3, and the place of the broken rule, or otherwise.
  module _ (rejected : Rejected) (e : imaged_answer (Err rejected) ≡ read_triples_answer room text)
      (some : imaged_answer (Err rejected) ≡ 0 → ⊥)
      (told : PlaceTold (read_triples_answer room text) (text_graph text) (imaged_place (Err rejected))) where
    refused : ToImagePromise text output (Err rejected) output
    refused =
        let no : read_triples_answer room text ≡ 0 → ⊥ = λ z. some (e ∙ z) in
        record {
          answer_is = e ∙ sym (refused_keeps (read_triples_answer room text) _ (read_triples_answer room text) no);
          place_is = told;
          length_is = sym (refused_keeps (read_triples_answer room text) _ 0 no);
          bytes_are = sym (refused_keeps (read_triples_answer room text) _ output no);
        }

  pub image_broken : {place : ℕ} → 3 ≡ read_triples_answer room text
      → PlaceTold (read_triples_answer room text) (text_graph text) place
      → ToImagePromise text output (Err (Broken place)) output
  image_broken {place} e told = refused (Broken place) e (λ z. omega (arith, z)) told

  pub image_refused : (r : Refusal) → number r ≡ read_triples_answer room text → (number r ≡ 3 → ⊥)
      → ToImagePromise text output (Err (Refused r)) output
  image_refused r e other = refused (Refused r) e (number_some r) (none (λ q. other (e ∙ q)))

  -- What was read is written.
  module _ (z : 0 ≡ read_triples_answer room text) {w : List ℕ} (from : w ≡ read_triples_words room text) where
    pub image_read : (written : Result ℕ Refusal) (left : List ℕ) → WritePromise w output written left
        → (imaged : Result ℕ Rejected) → imaged_answer imaged ≡ answer_of written → imaged_place imaged ≡ 0
        → imaged_length imaged ≡ length_of written → ToImagePromise text output imaged left
    image_read written left p imaged answer place length =
        let yes : read_triples_answer room text ≡ 0 = sym z in
        record {
          answer_is = answer ∙ p.0 ∙ (ap (λ t. write_answer t output) from
              ∙ sym (passed_leaves (read_triples_answer room text) (write_answer (read_triples_words room text) output)
              (read_triples_answer room text) yes));
          place_is = subst (PlaceTold (read_triples_answer room text) (text_graph text)) (sym place)
              (none (λ q. omega (arith, yes, q)));
          length_is = length ∙ p.1 ∙ (ap (λ t. write_length t output) from
              ∙ sym (passed_leaves (read_triples_answer room text) (write_length (read_triples_words room text) output) 0 yes));
          bytes_are = p.2 ∙ (ap (λ t. write_bytes t output) from
              ∙ sym (passed_leaves (read_triples_answer room text) (write_bytes (read_triples_words room text) output) output yes));
        }

-- Only one refusal has number 3.
pub third_only : (r : Refusal) → number r ≡ 3 → r ≡ Inconsistent
third_only BadSize e = absurd (omega (arith, e))
third_only BadLayout e = absurd (omega (arith, e))
third_only Inconsistent e = refl
third_only BadLength e = absurd (omega (arith, e))
third_only BadOperation e = absurd (omega (arith, e))
third_only BadKind e = absurd (omega (arith, e))
third_only BadIds e = absurd (omega (arith, e))
third_only Guarded e = absurd (omega (arith, e))
third_only UnknownProperty e = absurd (omega (arith, e))
third_only Clashing e = absurd (omega (arith, e))
third_only TooMany e = absurd (omega (arith, e))
third_only Malformed e = absurd (omega (arith, e))
third_only ShortOutput e = absurd (omega (arith, e))
third_only FewAnswers e = absurd (omega (arith, e))
third_only OutsideProfile e = absurd (omega (arith, e))
third_only UnknownClass e = absurd (omega (arith, e))
third_only NotForOperators e = absurd (omega (arith, e))
third_only OutOfDate e = absurd (omega (arith, e))
