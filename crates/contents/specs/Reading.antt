-- The words that the contents and bodies of some bytes give, which bytes are an image, and where a body lies.
use Rattle.std.specs.Prelude.{ℕ, zero, suc, ◌+◌, ◌*◌, ◌≤◌, ◌≡◌, Bool, not, ◌&&◌, ◌||◌, cond, List, [], ◌∷◌, T, length, take, drop}
use Rattle.rdfs.specs.Numbers.{Numbers}
use Rattle.rdfs.specs.Lists.{◌∈◌, concat_map, member, same_list}
use Rattle.rdfs.specs.Facts.{made}
use Rattle.rdfs.specs.Words.{word, laid_out, filled}
use Rattle.contents.specs.ImageForm.{Form, fact_size, entry_at, kinds, from_bytes}
use Rattle.contents.specs.Image.{fact_kind, image_of}

-- The words are facts, ascending, none twice, with no zeros after them.
pub record Facts (N : Numbers) (l : List ℕ) : Type 0 where
  pub laid : T (laid_out N 1 l)
  pub full : filled l ≡ l

-- The kind of each word has an entry.
abbrev pub HasEntries : Numbers → Form → List ℕ → Type 0
HasEntries N F l = (w : ℕ) → w ∈ l → fact_kind N w ≤ F.entries

-- The number in n bytes from place i on.
abbrev pub number_at : ℕ → List ℕ → ℕ → ℕ
number_at n bytes i = from_bytes (take n (drop i bytes))

-- What the entry of kind k gives as the body's start, and as the count of its facts.
abbrev pub start_at : Form → List ℕ → ℕ → ℕ
start_at F bytes k = number_at F.field_size bytes (entry_at F k + 2)

abbrev pub count_at : Form → List ℕ → ℕ → ℕ
count_at F bytes k = number_at F.field_size bytes (entry_at F k + 2 + F.field_size)

-- Id i, from 0 on, of the fact whose ids stand from a place on.
abbrev pub id_at : Form → List ℕ → ℕ → ℕ → ℕ
id_at F bytes place i = number_at F.id_size bytes (place + i * F.id_size)

-- The word of the fact of kind k whose ids stand from a place on.
abbrev pub word_at : Numbers → Form → List ℕ → ℕ → ℕ → ℕ
word_at N F bytes k place =
    word N.base (made k (id_at F bytes place 0) (id_at F bytes place 1) (id_at F bytes place 2))

-- The words of n facts of kind k from a place on.
abbrev pub words_from : Numbers → Form → List ℕ → ℕ → ℕ → ℕ → List ℕ
words_from N F bytes k zero place = []
words_from N F bytes k (suc n) place =
    word_at N F bytes k place ∷ words_from N F bytes k n (place + fact_size F k)

-- The words of kind k, and of all kinds in order.
abbrev pub words_in : Numbers → Form → List ℕ → ℕ → List ℕ
words_in N F bytes k = words_from N F bytes k (count_at F bytes k) (start_at F bytes k)

unfoldable pub words_of : Numbers → Form → List ℕ → List ℕ
words_of N F bytes = concat_map (words_in N F bytes) (kinds F)

-- 12: the bytes are not the image of facts, ascending, none twice.
unfoldable pub malformed : Numbers → Form → List ℕ → Bool
malformed N F bytes = let l : List ℕ = words_of N F bytes in
    not (same_list bytes (image_of N F l) && laid_out N 1 l)

-- The bytes have no body of kind k to hand out.
abbrev pub bodiless : Numbers → Form → List ℕ → ℕ → Bool
bodiless N F bytes k = malformed N F bytes || not (member (kinds F) k)

-- Where the body of kind k starts and how long it is; without one, the empty part at the end.
abbrev pub body_start : Numbers → Form → List ℕ → ℕ → ℕ
body_start N F bytes k = cond (bodiless N F bytes k) (length bytes) (start_at F bytes k)

abbrev pub body_size : Numbers → Form → List ℕ → ℕ → ℕ
body_size N F bytes k = cond (bodiless N F bytes k) 0 (fact_size F k * count_at F bytes k)
