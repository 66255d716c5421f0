-- What the contents of an image give when they are read: each entry is right, and gives its kind's count and body. Assumes
-- nothing.
use Prim.Native.Nat.{ℕ, zero, suc, ◌+◌, ◌*◌, ◌-◌, ◌≤◌}
use mathlib.Core.Path.{◌≡◌, refl, sym, ap, subst, ◌∙◌}
use mathlib.Core.Logic.{⊎_elim}
use mathlib.Core.List.{List, [], ◌∷◌, ◌++◌, append_assoc}
use native.Mathlib.Omega.{arith}
use lib.Dec.{eqb, eqb→eq}
use lib.ListN.{length, get_or, drop, length-append, length-drop}
use lib.Seq.{drop_at, drop-drop, get_or-drop}
use Rattle.rdfs.specs.Numbers.{Numbers}
use Rattle.rdfs.specs.Lists.{◌∈◌, concat_map}
use Rattle.rdfs.proofs.Lists.ListLaws.{in_cons, none_in, in_filter}
use Rattle.contents.specs.ImageForm.{Form, Proper, fact_size, entry_size, entry_at, first_body, kinds_after, kinds, in_bytes}
use Rattle.contents.specs.Image.{fact_kind, of_kind, body_of, bodies, entry, contents, image_of}
use Rattle.contents.specs.Reading.{start_at, count_at}
use Rattle.contents.specs.Contents.{Entry, Chained, Contents}
use Rattle.contents.proofs.InBytes.{in_bytes_length, numbers_from, numbers_read}
use Rattle.contents.proofs.WordsRead.{concat_length, body_length}

-- The entry of kind k gives the count and the place of the body that the words of l have.
pub record Given (N : Numbers) (F : Form) (bytes l : List ℕ) (k : ℕ) : Type 0 where
  pub count : count_at F bytes k ≡ length (of_kind N k l)
  pub rest : List ℕ
  pub body : drop (start_at F bytes k) bytes ≡ body_of N F l k ++ rest

pub entry_next : (F : Form) (j : ℕ) → entry_at F (suc j) + entry_size F ≡ entry_at F (suc (suc j))
entry_next F j =
    let e : ℕ = entry_size F in
    let a : (suc j - 1) * e ≡ j * e = ap (λ n. n * e) (omega arith) in
    let b : (suc (suc j) - 1) * e ≡ suc j * e = ap (λ n. n * e) (omega arith) in
    omega (arith, a, b)

module _ (N : Numbers) (F : Form) where
  pub entry_length : (k start count : ℕ) → length (entry F k start count) ≡ entry_size F
  entry_length k start count =
      omega (arith, concat_length (in_bytes F.field_size) F.field_size (start ∷ count ∷ []) (in_bytes_length F.field_size))

  pub contents_length : (l : List ℕ) (n j start : ℕ) → length (contents N F l start (kinds_after j n)) ≡ n * entry_size F
  contents_length l zero j start = omega arith
  contents_length l (suc n) j start =
      let count : ℕ = length (of_kind N (suc j) l) in
      let next : ℕ = start + fact_size F (suc j) * count in
      omega (
        arith,
        length-append (entry F (suc j) start count) (contents N F l next (kinds_after (suc j) n)),
        entry_length (suc j) start count,
        contents_length l n (suc j) next,
      )

  pub body_of_length : (l : List ℕ) (k : ℕ) → length (body_of N F l k) ≡ fact_size F k * length (of_kind N k l)
  body_of_length l k =
      body_length N F k (of_kind N k l) (λ w h. eqb→eq (fact_kind N w) k (in_filter (λ x. eqb (fact_kind N x) k) l h).1)

  module _ (proper : Proper F) (bytes l : List ℕ) where
    -- One entry, at its place.
    entry_read : (k start : ℕ) (rest : List ℕ) → drop (entry_at F k) bytes ≡ entry F k start (length (of_kind N k l)) ++ rest
        → Entry F bytes k start × (count_at F bytes k ≡ length (of_kind N k l))
    entry_read k start rest e =
        let count : ℕ = length (of_kind N k l) in
        let at : ℕ = entry_at F k in
        let zeroth : at + 0 ≡ at = omega arith in
        let kind_is : get_or bytes at 0 ≡ k =
        ap (λ n. get_or bytes n 0) (sym zeroth) ∙ (sym (get_or-drop at bytes 0 0) ∙ ap (λ m. get_or m 0 0) e) in
        let size_is : get_or bytes (at + 1) 0 ≡ fact_size F k = sym (get_or-drop at bytes 1 0) ∙ ap (λ m. get_or m 1 0) e in
        let fields : drop (at + 2) bytes ≡ concat_map (in_bytes F.field_size) (start ∷ count ∷ []) ++ rest =
        sym (drop-drop 2 at bytes) ∙ ap (drop 2) e in
        let both : numbers_from F.field_size bytes (at + 2) 2 ≡ start ∷ count ∷ [] =
        numbers_read F.field_size proper.field bytes (start ∷ count ∷ []) rest (at + 2) fields in
        (record { kind = kind_is; size = size_is; start_is = ap (λ m. get_or m 0 0) both }, ap (λ m. get_or m 1 0) both)

    entries_read : (n j start : ℕ) (rest : List ℕ) → drop (entry_at F (suc j)) bytes ≡ contents N F l start (kinds_after j n)
        ++ rest
        → drop start bytes ≡ bodies N F l (kinds_after j n) → start ≤ length bytes
        → Chained F bytes start (kinds_after j n) × ((k : ℕ) → k ∈ kinds_after j n → Given N F bytes l k)
    entries_read zero j start rest e b h = (omega (arith, h, length-drop start bytes, ap length b), λ k i. absurd (none_in i))
    entries_read (suc n) j start rest e b h =
        let k : ℕ = suc j in
        let count : ℕ = length (of_kind N k l) in
        let next : ℕ = start + fact_size F k * count in
        let ks : List ℕ = kinds_after k n in
        let tail : List ℕ = contents N F l next ks ++ rest in
        let split : drop (entry_at F k) bytes ≡ entry F k start count ++ tail =
        e ∙ append_assoc (entry F k start count) (contents N F l next ks) rest in
        let r = entry_read k start tail split in
        let later : drop (entry_at F (suc k)) bytes ≡ tail =
        ap (λ i. drop i bytes) (sym (entry_next F j)) ∙ (sym (drop-drop (entry_size F) (entry_at F k) bytes)
        ∙ (ap (drop (entry_size F)) split ∙ drop_at (entry F k start count) tail (entry_size F)
        (entry_length k start count))) in
        let after : drop next bytes ≡ bodies N F l ks =
        sym (drop-drop (fact_size F k * count) start bytes) ∙ (ap (drop (fact_size F k * count)) b
        ∙ drop_at (body_of N F l k) (bodies N F l ks) (fact_size F k * count) (body_of_length l k)) in
        let within : next ≤ length bytes =
        omega (
          arith,
          h,
          length-drop start bytes,
          ap length b,
          length-append (body_of N F l k) (bodies N F l ks),
          body_of_length l k,
        ) in
        let others = entries_read n k next rest later after within in
        let given : Given N F bytes l k =
        record { count = r.1; rest = bodies N F l ks; body = ap (λ i. drop i bytes) r.0.start_is ∙ b } in (
          (r.0, subst (λ c. Chained F bytes (start + fact_size F k * c) ks) (sym r.1) others.0),
          λ m i. ⊎_elim (λ q. subst (Given N F bytes l) (sym q) given) (others.1 m) (in_cons i),
        )

  module _ (proper : Proper F) (l : List ℕ) where
    abbrev image : List ℕ
    image = image_of N F l

    -- The contents, then the bodies.
    pub image_parts : drop 2 image ≡ contents N F l (first_body F) (kinds F) ++ bodies N F l (kinds F)
    unfolding image_of
    image_parts = refl

    pub bodies_at : drop (first_body F) image ≡ bodies N F l (kinds F)
    bodies_at =
        let long : length (contents N F l (first_body F) (kinds F)) ≡ F.entries * entry_size F =
        contents_length l F.entries 0 (first_body F) in
        sym (drop-drop (F.entries * entry_size F) 2 image) ∙ (ap (drop (F.entries * entry_size F)) image_parts
        ∙ drop_at (contents N F l (first_body F) (kinds F)) (bodies N F l (kinds F)) (F.entries * entry_size F) long)

    pub image_length : length image ≡ first_body F + length (bodies N F l (kinds F))
    unfolding image_of
    image_length =
        let c : List ℕ = contents N F l (first_body F) (kinds F) in
        let both : length (c ++ bodies N F l (kinds F)) ≡ length c + length (bodies N F l (kinds F)) =
        length-append c (bodies N F l (kinds F)) in
        let long : length c ≡ F.entries * entry_size F = contents_length l F.entries 0 (first_body F) in
        omega (arith, both, long)

    image_read : Chained F image (first_body F) (kinds F) × ((k : ℕ) → k ∈ kinds F → Given N F image l k)
    image_read =
        let first : entry_at F 1 ≡ 2 = let none : (1 - 1) * entry_size F ≡ 0 = omega arith in omega (arith, none) in
        entries_read proper image l F.entries 0 (first_body F) (bodies N F l (kinds F)) (ap (λ i. drop i image) first
        ∙ image_parts) bodies_at (omega (arith, image_length))

    pub image_contents : Contents F image
    unfolding image_of
    image_contents = record { edition = refl; entries = refl; linked = record { chain = image_read.0 } }

    pub image_given : (k : ℕ) → k ∈ kinds F → Given N F image l k
    image_given = image_read.1
