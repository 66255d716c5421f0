-- The answers of reading, and the words that it leaves. Assumes nothing.
use Prim.Native.Nat.{ℕ, ◌≤◌, ◌<◌}
use mathlib.Core.Path.{◌≡◌, refl, sym, ap, ◌∙◌}
use mathlib.Core.Bool.{Bool, true, false, cond}
use mathlib.Core.List.{List, ◌++◌}
use native.Mathlib.Omega.{arith}
use native.Mathlib.Decide.{ℕ_discrete}
use lib.Dec.{ltb}
use lib.ListN.{length, drop, replicate}
use borrow.Author.Tests.{eq-eqb, ne_eqb, lt-ltb, le-ltb, ltb-false}
use Rattle.rdfs.specs.Numbers.{product}
use Rattle.rdfs.specs.Words.{padded}
use Rattle.rdfs.specs.Refusals.{or_else, bad_size, inconsistent, table_refusal}
use Rattle.rdfs.proofs.Words.Tables.{padded_length}
use Rattle.rdfs.proofs.Tickets.FirstTrue.{passed_link}
use Rattle.table.proofs.TestAnswers.{is_false}
use Rattle.table.proofs.Zeros.{drop_zeros}
use Rattle.contents.specs.ImageForm.{image_form}
use Rattle.contents.specs.Reading.{malformed}
use Rattle.reading.specs.Fitting.{Fitting}
use Rattle.reading.specs.ReadPromise.{image_words, image_refusal, read_answer, read_words, ReadPromise}
use Rattle.contents.proofs.InBytes.{AllBytes}
use Rattle.contents.proofs.Product.{right_malformed}
use Rattle.contents.proofs.ImageForms.{image_legible}
use Rattle.reading.proofs.Held.{held_checked}

-- Another refusal in the first place.
else_is : (b : Bool) (n m r rest : ℕ) → or_else b n rest ≡ r → r ≡ n → (rest ≡ n → ⊥) → m ≡ or_else b m rest
else_is true n m r rest e q h = refl
else_is false n m r rest e q h = absurd (h (e ∙ q))

else_not : (b : Bool) (n m r rest : ℕ) → or_else b n rest ≡ r → (r ≡ n → ⊥) → r ≡ or_else b m rest
else_not true n m r rest e h = absurd (h (sym e))
else_not false n m r rest e h = sym e

pub overfull_some : (b : Bool) (r : ℕ) → r ≡ or_else b 12 11 → r ≡ 0 → ⊥
overfull_some true r e z = omega (arith, e, z)
overfull_some false r e z = omega (arith, e, z)

-- The words that bytes give, and refusal 3 of them, or 0.
abbrev words : List ℕ → List ℕ
words bytes = image_words bytes

abbrev last : List ℕ → ℕ
last bytes = or_else (inconsistent product (words bytes)) 3 0

module _ (t bytes : List ℕ) where
  pub read_refused : (n : ℕ) → n ≡ read_answer t bytes → (n ≡ 0 → ⊥) → ReadPromise t bytes n t
  read_refused n e h =
      (e, sym (ap (λ b. cond b (padded (length t) (words bytes)) t) (ne_eqb (read_answer t bytes) 0 (λ z. h (e ∙ z)))))

  pub read_done : 0 ≡ read_answer t bytes → (t' : List ℕ) → t' ≡ padded (length t) (words bytes) → ReadPromise t bytes 0 t'
  read_done e t' h = (e, h ∙ sym (ap (λ b. cond b (padded (length t) (words bytes)) t) (eq-eqb (read_answer t bytes) 0 (sym e))))

  -- 1.
  pub read_small : bad_size product t ≡ true → 1 ≡ read_answer t bytes
  read_small e = sym (ap (λ b. or_else b 1 (image_refusal bytes (length t) (last bytes))) e)

  module _ (size : bad_size product t ≡ false) where
    read_sized : read_answer t bytes ≡ image_refusal bytes (length t) (last bytes)
    read_sized = ap (λ b. or_else b 1 (image_refusal bytes (length t) (last bytes))) size

    -- 12, whatever the words.
    pub read_malformed : malformed product (image_form bytes) bytes ≡ true → 12 ≡ read_answer t bytes
    read_malformed e = sym (read_sized ∙ ap (λ b. or_else b 12 (or_else (ltb (length t) (length (words bytes))) 11 (last bytes))) e)

    -- More words than the table has: 12 or 11.
    pub read_overfull : length t < length (words bytes) → (r : ℕ) → r ≡ or_else (malformed product (image_form bytes) bytes) 12 11
        → r ≡ read_answer t bytes
    read_overfull h r e = e ∙ sym (read_sized ∙ ap (λ b. or_else (malformed product (image_form bytes) bytes) 12 (or_else b 11
        (last bytes)))
        (lt-ltb (length t) (length (words bytes)) h))

    -- No more: 12, 3 or 0.
    pub read_fitting : length (words bytes) ≤ length t → read_answer t bytes ≡ or_else (malformed product
        (image_form bytes) bytes) 12
        (last bytes)
    read_fitting h = read_sized ∙ ap (λ b. or_else (malformed product (image_form bytes) bytes) 12 (or_else b 11 (last bytes)))
        (le-ltb (length t) (length (words bytes)) h)

  -- Refused with none of 1, 12 and 11: what is left is refusal 3, or 0.
  pub read_judged : (n : ℕ) → (1 ≡ n → ⊥) → n < 11 → n ≡ read_answer t bytes → (bad_size product t ≡ false)
      × (malformed product (image_form bytes) bytes ≡ false) × (length (words bytes) ≤ length t) × (last bytes ≡ n)
  read_judged n other small e =
      let more : Bool = ltb (length t) (length (words bytes)) in
      let a = passed_link (bad_size product t) 1 (image_refusal bytes (length t) (last bytes)) n other (sym e) in
      let b = passed_link (malformed product (image_form bytes) bytes) 12 (or_else more 11 (last bytes)) n (omega (arith, small))
      a.1 in
      let c = passed_link more 11 (last bytes) n (omega (arith, small)) b.1 in
      (is_false a.0, is_false b.0, ltb-false (length t) (length (words bytes)) (is_false c.0), c.1)

  -- Not refused.
  pub read_parts : 0 ≡ read_answer t bytes → (bad_size product t ≡ false) × (malformed product (image_form bytes) bytes ≡ false)
      × (length (words bytes) ≤ length t) × (last bytes ≡ 0)
  read_parts e = read_judged 0 (omega arith) (omega arith) e

  pub read_length : length (read_words t bytes) ≡ length t
  read_length = elim (ℕ_discrete (read_answer t bytes) 0) [
    | yes e ↦ ap length (sym (read_done (sym e) (padded (length t) (words bytes)) refl).1)
        ∙ padded_length (length t) (words bytes) (read_parts (sym e)).2
    | no n ↦ ap length (sym (read_refused (read_answer t bytes) refl n).1)
  ]

-- A work table of zeros into which the words of an image that fits were stored, and the answer r of its check.
module _ (t bytes : List ℕ) (b : AllBytes bytes) (f : Fitting t bytes) (zeros : List ℕ) (z : zeros ≡ replicate (length t) 0)
    (work : List ℕ) (e : work ≡ words bytes ++ drop (length (words bytes)) zeros) where
  pub work_held : work ≡ padded (length t) (words bytes)
  work_held = e ∙ (ap (λ l. words bytes ++ drop (length (words bytes)) l) z
      ∙ ap (λ l. words bytes ++ l) (drop_zeros (length t) (length (words bytes))))

  pub work_length : length work ≡ length t
  work_length = ap length work_held ∙ padded_length (length t) (words bytes) f.fits

  module _ (r : ℕ) (q : r ≡ table_refusal product work 0) where
    judged : or_else (malformed product (image_form bytes) bytes) 2 (last bytes) ≡ r
    judged =
        ap (λ m. or_else m 2 (last bytes)) (right_malformed (image_legible bytes) bytes b f.contents)
        ∙ sym (q ∙ (ap (λ w. table_refusal product w 0) work_held ∙ held_checked t bytes f.size f.fits))

    -- 2 is 12, and any other answer is reading's.
    pub work_malformed : r ≡ 2 → 12 ≡ read_answer t bytes
    work_malformed h =
        else_is (malformed product (image_form bytes) bytes) 2 12 r (last bytes) judged h (never (inconsistent product
        (words bytes)))
        ∙ sym (read_fitting t bytes f.size f.fits)
      where
        never : (i : Bool) → or_else i 3 0 ≡ 2 → ⊥
        never true = λ z. omega (arith, z)
        never false = λ z. omega (arith, z)

    pub work_answer : (r ≡ 2 → ⊥) → r ≡ read_answer t bytes
    work_answer h = else_not (malformed product (image_form bytes) bytes) 2 12 r (last bytes) judged h
        ∙ sym (read_fitting t bytes f.size f.fits)
