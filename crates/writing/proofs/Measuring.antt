-- The bodies of a table's image are the ids of its facts, and how long the image can be. Assumes nothing.
use Prim.Native.Nat.{ℕ, ◌+◌, ◌*◌, ◌≤◌}
use mathlib.Core.Path.{◌≡◌, refl, sym, ap, ◌∙◌}
use mathlib.Core.List.{List, [], ◌∷◌, ◌++◌, append_assoc}
use native.Mathlib.Omega.{arith}
use native.Mathlib.Nat.{mul-le-mul_left}
use lib.ListN.{length, length-append}
use Rattle.rdfs.specs.Numbers.{product}
use Rattle.rdfs.specs.Lists.{here, there, concat_map}
use Rattle.rdfs.specs.Words.{fact, filled}
use Rattle.rdfs.proofs.Theorems.{product_sound}
use Rattle.table.proofs.Filled.{filled_within}
use Rattle.contents.specs.ImageForm.{Form, Proper, form, largest_fact, first_body, kinds}
use Rattle.contents.specs.Legible.{Complete}
use Rattle.contents.specs.Image.{fact_kind, of_kind, id_bytes, bodies, image_of}
use Rattle.contents.specs.Reading.{Facts, HasEntries}
use Rattle.contents.proofs.FormBounds.{fact_largest}
use Rattle.contents.proofs.FactsRead.{fact_kind_lem}
use Rattle.contents.proofs.WordsRead.{id_bytes_length}
use Rattle.contents.proofs.Grouped.{kinds_has}
use Rattle.contents.proofs.ImageRead.{image_length}
use Rattle.contents.proofs.RoundTrip.{kinds_all, all_entries, filled_facts}
use Rattle.contents.proofs.Product.{complete}
use Rattle.writing.specs.WritePromise.{table_image}
use Rattle.writing.specs.Writing.{Writable}

concat_append : (f : ℕ → List ℕ) (l m : List ℕ) → concat_map f (l ++ m) ≡ concat_map f l ++ concat_map f m
concat_append f [] m = refl
concat_append f (x ∷ l) m = ap (λ r. f x ++ r) (concat_append f l m) ∙ sym (append_assoc (f x) (concat_map f l) (concat_map f m))

concat_concat : (f g : ℕ → List ℕ) (ks : List ℕ) → concat_map (λ k. concat_map f (g k)) ks ≡ concat_map f (concat_map g ks)
concat_concat f g [] = refl
concat_concat f g (k ∷ ks) =
    ap (λ r. concat_map f (g k) ++ r) (concat_concat f g ks) ∙ sym (concat_append f (g k) (concat_map g ks))

-- In a form that has an entry for each of the facts.
module _ {F : Form} (proper : Proper F) where
  -- The bodies are the ids of all facts, in order.
  bodies_in : (l : List ℕ) → Facts product l → HasEntries product F l → bodies product F l (kinds F) ≡ concat_map
      (id_bytes product F) l
  bodies_in l h entered = concat_concat (id_bytes product F) (λ k. of_kind product k l) (kinds F)
      ∙ ap (concat_map (id_bytes product F)) (kinds_all product F product_sound proper l h entered)

  fact_most : (w : ℕ) → fact_kind product w ≤ F.entries → length (id_bytes product F w) ≤ largest_fact F
  fact_most w h =
      let there = kinds_has 0 F.entries (fact_kind product w) (fact_kind_lem (fact product.base w)).0 (omega (arith, h)) in
      omega (arith, id_bytes_length product F w, fact_largest F (fact_kind product w) there)

  ids_most : (l : List ℕ) → HasEntries product F l → length (concat_map (id_bytes product F) l) ≤ largest_fact F * length l
  ids_most [] entered = omega arith
  ids_most (w ∷ l) entered = omega (
    arith,
    length-append (id_bytes product F w) (concat_map (id_bytes product F) l),
    fact_most w (entered w (here refl)),
    ids_most l (λ x i. entered x (there i)),
  )

  module _ (t : List ℕ) (n : ℕ) (c : Writable t n) (entered : HasEntries product F (filled t)) where
    whole_in : length (image_of product F (filled t)) ≡ first_body F + length (concat_map (id_bytes product F) (filled t))
    whole_in = image_length product F proper (filled t) ∙ ap (λ m. first_body F + length m)
        (bodies_in (filled t) (filled_facts product product_sound t c.counted.laid) entered)

    pub most_in : length (image_of product F (filled t)) ≤ first_body F + largest_fact F * product.most
    most_in =
        let few : length (filled t) ≤ product.most = omega (arith, filled_within product t c.counted.laid, c.few) in
        omega (arith, whole_in, ids_most (filled t) entered, mul-le-mul_left (largest_fact F) few)

-- In a form with an entry for each kind.
module _ {F : Form} (complete : Complete F) where
  entered : (l : List ℕ) → HasEntries product F l
  entered l = all_entries product F complete.many l

  pub bodies_all : (l : List ℕ) → Facts product l → bodies product F l (kinds F) ≡ concat_map (id_bytes product F) l
  bodies_all l h = bodies_in complete.legible.proper l h (entered l)

  module _ (t : List ℕ) (n : ℕ) (c : Writable t n) where
    pub image_whole : length (image_of product F (filled t)) ≡ first_body F + length (concat_map (id_bytes product F) (filled t))
    image_whole = whole_in complete.legible.proper t n c (entered (filled t))

    pub image_most : length (image_of product F (filled t)) ≤ first_body F + largest_fact F * product.most
    image_most = most_in complete.legible.proper t n c (entered (filled t))

-- In the product's form.
pub image_small : (t : List ℕ) (n : ℕ) → Writable t n → length (table_image t) ≤ first_body form + largest_fact form * product.most
image_small t n c = image_most complete t n c
