-- What is proved of images, in one place. Assumes nothing.
use Prim.Native.Nat.{ℕ, ◌+◌, ◌*◌, ◌≤◌}
use mathlib.Core.Path.{◌≡◌, refl, sym, ap, subst, ◌∙◌}
use mathlib.Core.Bool.{false, not}
use mathlib.Core.List.{List, map}
use native.Mathlib.Omega.{arith}
use lib.Dec.{lit≤}
use lib.ListN.{length, take, drop}
use Rattle.rdfs.specs.Numbers.{Numbers, Sound, product}
use Rattle.rdfs.specs.Lists.{◌∈◌}
use Rattle.rdfs.specs.Clashes.{is_consistent}
use Rattle.rdfs.specs.Words.{fact, laid_out, filled, padded}
use Rattle.rdfs.specs.Refusals.{or_else, bad_size, bad_layout, inconsistent, table_refusal}
use Rattle.rdfs.specs.Register.{Table}
use Rattle.rdfs.proofs.Words.LaidOut.{laid_shape}
use Rattle.rdfs.proofs.Tickets.Steps.{table_sane, checked_table}
use Rattle.rdfs.proofs.Theorems.{product_sound}
use Rattle.table.proofs.TestAnswers.{is_true, is_false}
use Rattle.table.proofs.Filled.{filled_within}
use Rattle.contents.specs.ImageForm.{Form, Proper, form, TenEntries, image_form, largest_fact, first_body, kinds}
use Rattle.contents.specs.Image.{body_of, image_of}
use Rattle.contents.specs.Reading.{Facts, HasEntries, words_of, malformed, body_start, body_size}
use Rattle.contents.proofs.RoundTrip.{words_again, written_well, body_ids, all_entries, filled_facts}
use Rattle.contents.proofs.RoundTrip.{read_well, read_facts, read_entries}
use Rattle.contents.proofs.Product.{proper}
use Rattle.contents.proofs.ImageForms.{Own, form_own, image_legible, form_longest, product_form}
use Rattle.writing.specs.WritePromise.{table_image}
use Rattle.writing.proofs.Measuring.{most_in}
use Rattle.writing.proofs.WriteCall.{table_writing}
use Rattle.reading.specs.ReadPromise.{image_words, read_answer, read_words}
use Rattle.reading.proofs.Held.{held_filled, held_checked}
use Rattle.reading.proofs.ReadCall.{read_done, read_fitting, read_parts}

-- For any numbers and any form: an image that was written, of words that have an entry each, is well formed and gives them.
pub written_reads : (N : Numbers) (F : Form) → Sound N → Proper F → (l : List ℕ) → Facts N l → HasEntries N F l
    → (words_of N F (image_of N F l) ≡ l) × (malformed N F (image_of N F l) ≡ false)
written_reads N F s p l f e = (words_again N F s p l f e, written_well N F s p l f e)

-- Bytes that are well formed are exactly the image of the words that they give, so no other image is read in that form.
pub read_is_written : (N : Numbers) (F : Form) → Sound N → (bytes : List ℕ) → malformed N F bytes ≡ false
    → (bytes ≡ image_of N F (words_of N F bytes)) × Facts N (words_of N F bytes)
read_is_written N F s bytes e = ((read_well N F bytes e).0, read_facts N F s bytes e)

-- The body of a kind in an image that was written is the ids of that kind's facts, in order.
pub body_is_ids : (N : Numbers) (F : Form) → Sound N → Proper F → (l : List ℕ) → Facts N l → HasEntries N F l → (k : ℕ)
    → k ∈ kinds F
    → let image : List ℕ = image_of N F l in take (body_size N F image k) (drop (body_start N F image k) image) ≡ body_of N F l k
body_is_ids N F s p l f e k i = body_ids N F s p l f e k i

-- The image, in a form in which it is read, of a table that is not refused and whose facts have an entry each, read into a table
-- of any length that holds them: answer 0, the same facts, then zeros.
pub form_reads_back : (F : Form) → Proper F → Own F → (t u : List ℕ) → 0 ≡ table_refusal product t 0
    → HasEntries product F (filled t)
    → bad_size product u ≡ false → length (filled t) ≤ length u
    → let bytes : List ℕ = image_of product F (filled t) in
    (0 ≡ read_answer u bytes) × (padded (length u) (filled t) ≡ read_words u bytes)
form_reads_back F proper own t u e entered size h =
    let l : List ℕ = filled t in
    let bytes : List ℕ = image_of product F l in
    let table : Table product t = checked_table product t (sym e) in
    let f : Facts product l = filled_facts product product_sound t table.laid in
    let r = written_reads product F product_sound proper l f entered in
    let words : image_words bytes ≡ l = ap (λ G. words_of product G bytes) (own product l) ∙ r.0 in
    let well : malformed product (image_form bytes) bytes ≡ false = ap (λ G. malformed product G bytes) (own product l) ∙ r.1 in
    let fits : length (image_words bytes) ≤ length u = subst (λ m. length m ≤ length u) (sym words) h in
    let same : inconsistent product (image_words bytes) ≡ false =
    ap (inconsistent product) words ∙ (ap (λ m. not (is_consistent (map (fact product.base) m))) f.full
    ∙ is_false (table_sane product t table).rules) in
    let none : read_answer u bytes ≡ 0 =
    read_fitting u bytes size fits ∙ (ap (λ b. or_else b 12 (or_else (inconsistent product (image_words bytes)) 3 0)) well
    ∙ ap (λ b. or_else b 3 0) same) in
    read_done u bytes (sym none) (padded (length u) l) (ap (padded (length u)) (sym words))

-- So is what writing gives for a table that it does not refuse.
pub image_reads_back : (t u : List ℕ) → 0 ≡ table_refusal product t 0 → bad_size product u ≡ false → length (filled t) ≤ length u
    → (0 ≡ read_answer u (table_image t)) × (padded (length u) (filled t) ≡ read_words u (table_image t))
image_reads_back t u e = form_reads_back form proper form_own t u e (all_entries product form (lit≤ tt) (filled t))

-- Read into a table of its own length it is the same table.
pub table_reads_back : (t u : List ℕ) → 0 ≡ table_refusal product t 0 → bad_size product u ≡ false → length t ≡ length u
    → t ≡ read_words u (table_image t)
table_reads_back t u e size h =
    let laid = (checked_table product t (sym e)).laid in
    laid_shape product t laid ∙ (ap (λ n. padded n (filled t)) h ∙ (image_reads_back t u e size (subst (λ n. length (filled t) ≤ n)
    h (filled_within product t laid))).1)

-- Bytes that are read are exactly the image, in the form that they are read in, of the facts read, which have an entry each;
-- writing does not refuse the table read.
pub record ReadAs (t bytes : List ℕ) (F : Form) : Type 0 where
  pub image : bytes ≡ image_of product F (filled (read_words t bytes))
  pub words : read_words t bytes ≡ padded (length t) (words_of product F bytes)
  pub entries : HasEntries product F (filled (read_words t bytes))
  pub passes : 0 ≡ table_refusal product (read_words t bytes) 0

pub read_as : (t bytes : List ℕ) → 0 ≡ read_answer t bytes → ReadAs t bytes (image_form bytes)
read_as t bytes e =
    let F : Form = image_form bytes in
    let l : List ℕ = image_words bytes in
    let p = read_parts t bytes e in
    let well = read_well product F bytes p.1 in
    let held : read_words t bytes ≡ padded (length t) l = sym (read_done t bytes e (padded (length t) l) refl).1 in
    let own : filled (read_words t bytes) ≡ l = ap filled held ∙ held_filled t bytes p.0 p.2 in
    let laid : bad_layout product l ≡ false = ap not (is_true {b = laid_out product 1 l} well.1) in
    record {
      image = well.0 ∙ ap (image_of product F) (sym own);
      words = held;
      entries = subst (HasEntries product F) (sym own) (read_entries product F product_sound bytes p.1
          (image_legible bytes).proper);
      passes = sym (ap (λ w. table_refusal product w 0) held ∙ (held_checked t bytes p.0 p.2
          ∙ (ap (λ b. or_else b 2 (or_else (inconsistent product l) 3 0)) laid ∙ p.3)));
    }

-- They are no longer than the longest image that is written.
pub read_short : (t bytes : List ℕ) → 0 ≡ read_answer t bytes → length bytes ≤ first_body form + largest_fact form * product.most
read_short t bytes e =
    let x = read_as t bytes e in
    let v : List ℕ = read_words t bytes in
    let table : Table product v = checked_table product v (sym x.passes) in
    let writable = (table_writing table (length (filled v)) refl).writable in
    let most = most_in (image_legible bytes).proper v (length (filled v)) writable x.entries in
    omega (arith, ap length x.image, most, form_longest bytes)

-- Unless they have ten entries, they are exactly the image that writing gives for the table read, which it does not refuse.
pub read_writes : (t bytes : List ℕ) → 0 ≡ read_answer t bytes → (TenEntries bytes → ⊥)
    → (bytes ≡ table_image (read_words t bytes)) × (0 ≡ table_refusal product (read_words t bytes) 0)
read_writes t bytes e n =
    let x = read_as t bytes e in
    (x.image ∙ ap (λ F. image_of product F (filled (read_words t bytes))) (product_form bytes n), x.passes)
