-- The words of an image stored into a table, kind by kind. Assumes nothing.
use Prim.Native.Nat.{ℕ, ◌+◌, ◌-◌, ◌≤◌, ◌<◌}
use mathlib.Core.Path.{◌≡◌, refl, sym, ap, ◌∙◌}
use mathlib.Core.List.{List, ◌++◌}
use native.Mathlib.Omega.{arith}
use borrow.Rule.Slice.PartMut.{put_mid}
use Rattle.std.proofs.lemmas.Slice.{put_mid-paste}
use lib.ListN.{length, take, drop, length-append, length-drop}
use lib.Seq.{take_at, drop-drop, drop-append-add, take-add, take_all, take-length, length-take-le, paste}
use Rattle.rdfs.specs.Numbers.{product}
use Rattle.contents.specs.ImageForm.{Form, field_values}
use Rattle.contents.specs.Legible.{Legible}
use Rattle.contents.specs.Reading.{start_at, count_at, words_from, words_in, words_of}
use Rattle.contents.proofs.WordsRead.{words_from_length}
use Rattle.reading.proofs.Filling.{later, Passed, passed_start, passed_next, passed_more, passed_all}

-- The words of the first `done` kinds stand in their places.
pub record Filled (F : Form) (bytes t₀ t : List ℕ) (done place : ℕ) : Type 0 where
  pub passed : Passed F bytes done place
  pub so_far : t ≡ take place (words_of product F bytes) ++ drop place t₀

pub filled_start : (F : Form) (bytes t : List ℕ) → Filled F bytes t t 0 0
filled_start F bytes t = record { passed = passed_start F bytes; so_far = refl }

module _ {F : Form} {bytes t₀ t : List ℕ} {done place : ℕ} (f : Filled F bytes t₀ t done place)
    (room : length (words_of product F bytes)
    ≤ length t₀) where
  abbrev words : List ℕ
  words = words_of product F bytes

  firsts : length (take place words) ≡ place
  firsts = length-take-le place words f.passed.fits

  pub filled_length : length t ≡ length t₀
  filled_length = ap length f.so_far ∙ (length-append (take place words) (drop place t₀)
      ∙ omega (arith, firsts, length-drop place t₀, f.passed.fits, room))

  module _ (h : done < F.entries) (from count : ℕ) (e : from ≡ start_at F bytes (done + 1)) (d : count ≡ count_at F bytes
      (done + 1)) where
    pub filled_room : place + count ≤ length t
    filled_room = omega (arith, (passed_next f.passed h count d).1, room, filled_length)

    abbrev body : List ℕ
    body = words_from product F bytes (done + 1) count from

    body_long : length body ≡ count
    body_long = words_from_length product F bytes (done + 1) count from

    -- The part of the table that the body is stored into.
    abbrev size : ℕ
    size = place + count - place

    size_is : size ≡ count
    size_is = omega arith

    pub part_length : length (take size (drop place t)) ≡ count
    part_length = ap (λ n. length (take n (drop place t))) size_is
        ∙ length-take-le count (drop place t) (omega (arith, length-drop place t, filled_room))

    pub filled_more : Legible F → count < field_values F → (part : List ℕ)
        → part ≡ words_from product F bytes (done + 1) (length (take size (drop place t))) from
        → Filled F bytes t₀ (put_mid place size t part) (done + 1) (place + count)
    filled_more legible small part p =
        let q : put_mid place size t part ≡ paste t place body count =
        put_mid-paste place size t part body count (p ∙ ap (λ n. words_from product F bytes (done + 1) n from) part_length)
        (sym size_is) (sym body_long) in
        let low : take place t ≡ take place words =
        ap (take place) f.so_far ∙ take_at (take place words) (drop place t₀) place firsts in
        let all : take count body ≡ body = take_all count body (omega (arith, body_long)) in
        let at : place + count ≡ length (take place words) + count = omega (arith, firsts) in
        let high : drop (place + count) t ≡ drop (place + count) t₀ =
        ap (drop (place + count)) f.so_far ∙ (ap (λ n. drop n (take place words ++ drop place t₀)) at
        ∙ (drop-append-add (take place words) (drop place t₀) count ∙ drop-drop count place t₀)) in
        let same : words_in product F bytes (done + 1) ≡ body =
        ap (λ n. words_from product F bytes (done + 1) n (start_at F bytes (done + 1))) (sym d)
        ∙ ap (words_from product F bytes (done + 1) count) (sym e) in
        let next : drop place words ≡ body ++ later F bytes (done + 1) =
        (passed_next f.passed h count d).0 ∙ ap (λ l. l ++ later F bytes (done + 1)) same in
        let more : take (place + count) words ≡ take place words ++ body =
        take-add place count words ∙ ap (λ l. take place words ++ l) (ap (take count) next
        ∙ take_at body (later F bytes (done + 1))
        count body_long) in
        record {
          passed = passed_more f.passed legible h count d small;
          so_far =
              q ∙ (ap (λ l. (l ++ take count body) ++ drop (place + count) t) low
              ∙ (ap (λ l. (take place words ++ l) ++ drop (place + count) t) all
              ∙ (ap (λ l. (take place words ++ body) ++ l) high ∙ ap (λ l. l ++ drop (place + count) t₀) (sym more))));
        }

  pub filled_all : F.entries ≤ done → t ≡ words ++ drop (length words) t₀
  filled_all h =
      let all : place ≡ length words = passed_all f.passed h in
      f.so_far ∙ (ap (λ n. take n words ++ drop n t₀) all ∙ ap (λ l. l ++ drop (length words) t₀) (take-length words))
