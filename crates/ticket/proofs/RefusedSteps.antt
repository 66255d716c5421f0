-- The register's step where a ticket is refused: the first refusal's number, no counts, the words as they were. Assumes nothing.
use Prim.Native.Nat.{ℕ, zero, suc, ◌<◌}
use mathlib.Core.Path.{◌≡◌, refl, sym, ap, subst, ◌∙◌}
use mathlib.Core.List.{List}
use native.Mathlib.Omega.{arith}
use lib.Dec.{T, eqb, T_not, lt→ltb}
use lib.ListN.{length}
use borrow.Author.Tests.{eq-eqb}
use Rattle.rdfs.specs.Numbers.{product, record_length}
use Rattle.rdfs.specs.Facts.{Fact}
use Rattle.rdfs.specs.Words.{facts, words}
use Rattle.rdfs.specs.Clashes.{clashes}
use Rattle.rdfs.specs.Insertion.{insertion}
use Rattle.rdfs.specs.Tickets.{decoded, inserts, asked, bad_length, unknown_property, unknown_class, clashing}
use Rattle.rdfs.specs.Lookups.{lookup_clash}
use Rattle.rdfs.specs.Refusals.{form_tests, here, later, table_refusal}
use Rattle.rdfs.specs.Register.{refused_with, answer, step, Table}
use Rattle.rdfs.specs.Promises.{Formed, Known}
use Rattle.rdfs.proofs.Lists.Tests.{and_both, both_and}
use Rattle.rdfs.proofs.Tickets.TicketTests.{known_kind, known_provided}
use Rattle.rdfs.proofs.Tickets.FirstTrue.{pass_link, first_stops}
use Rattle.rdfs.proofs.Tickets.TicketRefusals.{Sane, new, refusal, past_form, past_known}
use Rattle.rdfs.proofs.Tickets.Steps.{table_sane, table_passes, table_stops, table_allowed, step_number, wrong_length}
use Rattle.rdfs.proofs.Insertion.InsertionSteps.{new_is}
use Rattle.rdfs.proofs.Theorems.{product_sound, lookup_clash_is_clash}
use Rattle.ticket_form.specs.TicketForm.{form_refusal}
use Rattle.ticket_form.proofs.Formed.{form_passes}

answer_refused : (n : ℕ) (w ws : List ℕ) → (n ≡ 0 → ⊥) → answer n w ws ≡ refused_with n w
answer_refused zero w ws d = absurd (d refl)
answer_refused (suc n) w ws d = refl

refused_as : (w bytes : List ℕ) (n : ℕ) → refusal product w bytes ≡ n → (n ≡ 0 → ⊥) → step product w bytes ≡ refused_with n w
unfolding step
refused_as w bytes n e d =
    ap (λ m. answer m w (words product (new product w bytes))) e ∙ answer_refused n w (words product (new product w bytes)) d

-- Refusals 1, 2, 3.
pub table_refused : (w bytes : List ℕ) (n : ℕ) → table_refusal product w 0 ≡ n → (n ≡ 0 → ⊥)
    → step product w bytes ≡ refused_with n w
table_refused w bytes n e d = refused_as w bytes n (sym (table_stops product w _ (λ z. d (sym e ∙ z))) ∙ e) d

-- A record is past refusal 4; past 5 to 8 too, it is formed.
whole : (bytes : List ℕ) → length bytes ≡ record_length → T (bad_length bytes) → ⊥
whole bytes l h =
    T_not (eqb (length bytes) record_length) h (subst T (sym (eq-eqb (length bytes) record_length l)) tt)

pub formed_record : (bytes : List ℕ) → length bytes ≡ record_length → form_refusal (decoded bytes) ≡ 0 → Formed product bytes
formed_record bytes l e =
    let p = form_passes (decoded bytes) e in
    record { long = whole bytes l; operation = p.operation; kind = p.kind; ids = p.ids; free = p.free }

module _ (w bytes : List ℕ) (t : Table product w) where
  sane : Sane product w
  sane = table_sane product w t

  -- Refusal 4.
  pub length_refused : (length bytes ≡ record_length → ⊥) → step product w bytes ≡ refused_with 4 w
  length_refused h = refused_as w bytes 4 (sym (step_number product w bytes) ∙ wrong_length product w bytes t h) (omega arith)

  -- Refusals 5 to 8.
  pub form_refused : (n : ℕ) → length bytes ≡ record_length → form_refusal (decoded bytes) ≡ n → (n ≡ 0 → ⊥)
      → step product w bytes ≡ refused_with n w
  form_refused n l e d = refused_as w bytes n (table_passes product w t _ ∙ (pass_link (bad_length bytes) 4 _ (whole bytes l)
      ∙ (first_stops (form_tests product (decoded bytes)) _ (λ z. d (sym e ∙ z)) ∙ e))) d

  module _ (f : Formed product bytes) where
    -- Refusal 9.
    pub property_refused : T (unknown_property (facts product w) (decoded bytes)) → step product w bytes ≡ refused_with 9 w
    property_refused u = refused_as w bytes 9 (past_form product w bytes sane f (here u)) (omega arith)

    -- Refusal 16.
    pub class_refused : (T (unknown_property (facts product w) (decoded bytes)) → ⊥)
        → T (unknown_class (facts product w) (decoded bytes)) → step product w bytes ≡ refused_with 16 w
    class_refused n u = refused_as w bytes 16 (past_form product w bytes sane f (later n (here u))) (omega arith)

    module _ (i : T (inserts (decoded bytes))) (k : Known (facts product w) (decoded bytes)) where
      abbrev grown : List Fact
      grown = insertion product.top (facts product w) (asked (decoded bytes))

      -- The clash by lookups is that of the graph which the ticket would leave.
      pub looked_clash : lookup_clash (facts product w) (decoded bytes) ≡ clashes (new product w bytes)
      looked_clash = lookup_clash_is_clash product.top (facts product w) (decoded bytes) (table_allowed product product_sound w
          t) record {
            consistent = t.consistent;
            insert = i;
            kinds = known_kind (decoded bytes) f.kind;
            ids = f.ids;
            provided = known_provided (facts product w) (decoded bytes) i k;
          } ∙ ap clashes (sym (new_is product product_sound w bytes t i))

      -- Refusal 10.
      pub clash_refused : T (lookup_clash (facts product w) (decoded bytes)) → step product w bytes ≡ refused_with 10 w
      clash_refused c = refused_as w bytes 10 (past_known product w bytes sane f k (here (both_and (inserts (decoded bytes))
          (clashes (new product w bytes)) i (subst T looked_clash c)))) (omega arith)

      pub clash_free : (T (lookup_clash (facts product w) (decoded bytes)) → ⊥)
          → T (clashing (new product w bytes) (decoded bytes)) → ⊥
      clash_free n h = n (subst T (sym looked_clash) (and_both (inserts (decoded bytes)) (clashes (new product w bytes)) h).1)

      -- Refusal 11.
      pub too_many_refused : (T (lookup_clash (facts product w) (decoded bytes)) → ⊥) → length w < length (words product grown)
          → step product w bytes ≡ refused_with 11 w
      too_many_refused n h =
          let more : length w < length (words product (new product w bytes)) =
          subst (λ L. length w < length (words product L)) (sym (new_is product product_sound w bytes t i)) h in
          refused_as w bytes 11 (past_known product w bytes sane f k (later (clash_free n) (here (lt→ltb (length w) _ more))))
          (omega arith)
