-- Whether there is a body to hand out, and where it lies. Assumes nothing.
use Prim.Native.Nat.{ℕ, ◌+◌, ◌*◌, ◌≤◌}
use mathlib.Core.Path.{◌≡◌, refl, sym, ap, subst, ◌∙◌}
use mathlib.Core.Bool.{Bool, true, false, not, ◌||◌, cond, or-true, or-false}
use mathlib.Core.List.{List}
use native.Mathlib.Omega.{arith}
use lib.Dec.{T}
use lib.ListN.{length}
use denote.Ref.{Bor}
use borrow.Author.Tests.{not-true, not-false}
use Rattle.rdfs.specs.Numbers.{product}
use Rattle.rdfs.specs.Lists.{◌∈◌, member}
use Rattle.rdfs.proofs.Words.FactLaws.{member_in_lem, in_member}
use Rattle.table.proofs.TestAnswers.{is_true, is_false}
use Rattle.contents.specs.ImageForm.{Form, image_form, fact_size, kinds}
use Rattle.contents.specs.Legible.{Legible}
use Rattle.contents.specs.WithinBytes.{HasEntry}
use Rattle.contents.specs.Reading.{start_at, count_at, malformed, bodiless, body_start, body_size}
use Rattle.contents.specs.Contents.{Contents}
use Rattle.contents.specs.BodyPromise.{IsPart}
use Rattle.contents.proofs.Grouped.{kinds_from}
use Rattle.contents.proofs.ImageAgain.{body_placed}
use Rattle.contents.proofs.ImagePlaces.{contents_entry}
use Rattle.contents.proofs.Product.{well_contents}

or_none : (a b : Bool) → (a || b) ≡ false → (a ≡ false) × (b ≡ false)
or_none false false e = (refl, refl)
or_none false true e = absurd (subst T e tt)
or_none true b e = absurd (subst T e tt)

module _ (F : Form) (bytes : List ℕ) (k : ℕ) where
  pub no_kind : (k ∈ kinds F → ⊥) → false ≡ not (bodiless product F bytes k)
  no_kind n =
      let gone : member (kinds F) k ≡ false = is_false (λ t. n (member_in_lem (kinds F) k t)) in
      sym (ap (λ b. not (malformed product F bytes || not b)) gone ∙ ap not (or-true (malformed product F bytes)))

  pub some_kind : k ∈ kinds F → (r : Bool) → r ≡ not (malformed product F bytes) → r ≡ not (bodiless product F bytes k)
  some_kind h r e =
      let there : member (kinds F) k ≡ true = is_true (in_member (kinds F) k h) in
      e ∙ sym (ap (λ b. not (malformed product F bytes || not b)) there ∙ ap not (or-false (malformed product F bytes)))

  -- There is a body.
  pub record There : Type 0 where
    pub here : bodiless product F bytes k ≡ false
    pub some : 1 ≤ k
    pub most : k ≤ F.entries
    pub right : Contents F bytes

  pub there : Legible F → (r : Bool) → r ≡ not (bodiless product F bytes k) → not r ≡ false → There
  there legible r e f =
      let here : bodiless product F bytes k ≡ false = not-true (bodiless product F bytes k) (sym e ∙ not-false r f) in
      let both = or_none (malformed product F bytes) (not (member (kinds F) k)) here in
      let i : k ∈ kinds F = member_in_lem (kinds F) k (subst T (sym (not-false (member (kinds F) k) both.1)) tt) in
      let b = kinds_from 0 F.entries k i in
      record {
        here = here;
        some = b.0;
        most = omega (arith, b.1);
        right = well_contents F legible.proper bytes both.0;
      }

  pub there_entry : There → HasEntry F bytes k
  there_entry h = contents_entry h.right k h.some h.most

  -- Its size by its parts, and its end within the bytes.
  pub there_size : (size count : ℕ) → size ≡ fact_size F k → count ≡ count_at F bytes k
      → size * count ≡ fact_size F k * count_at F bytes k
  there_size size count e d = ap (λ n. n * count) e ∙ ap (λ n. fact_size F k * n) d

  pub there_within : There → (start size count : ℕ) → start ≡ start_at F bytes k → size ≡ fact_size F k
      → count ≡ count_at F bytes k → start + size * count ≤ length bytes
  there_within h start size count s e d =
      subst (λ n. start + n * count ≤ length bytes) (sym e) (body_placed F bytes h.right k start count h.some h.most s
      d)

  pub gone : (r : Bool) → r ≡ not (bodiless product F bytes k) → not r ≡ true → bodiless product F bytes k ≡ true
  gone r e f = not-false (bodiless product F bytes k) (sym e ∙ not-true r f)

  module _ (whole part : Bor (List ℕ)) where
    pub part_none : bodiless product F bytes k ≡ true → IsPart whole part (length bytes) 0
        → IsPart whole part (body_start product F bytes k) (body_size product F bytes k)
    part_none e h = subst (λ b. IsPart whole part (cond b (length bytes) (start_at F bytes k))
        (cond b 0 (fact_size F k * count_at F bytes k))) (sym e) h

    pub part_some : bodiless product F bytes k ≡ false → (start size : ℕ) → start ≡ start_at F bytes k
        → size ≡ fact_size F k * count_at F bytes k
        → IsPart whole part start size → IsPart whole part (body_start product F bytes k) (body_size product F bytes k)
    part_some e start size s z h =
        subst (λ b. IsPart whole part (cond b (length bytes) (start_at F bytes k))
        (cond b 0 (fact_size F k * count_at F bytes k))) (sym e)
        (subst (λ n. IsPart whole part n (fact_size F k * count_at F bytes k)) s (subst (IsPart whole part start) z h))

    -- The part by a form that is the one the bytes are read in.
    pub in_image_form : F ≡ image_form bytes → IsPart whole part (body_start product F bytes k) (body_size product F bytes k)
        → IsPart whole part (body_start product (image_form bytes) bytes k) (body_size product (image_form bytes) bytes k)
    in_image_form e h = subst (λ G. IsPart whole part (body_start product G bytes k) (body_size product G bytes k)) e h
