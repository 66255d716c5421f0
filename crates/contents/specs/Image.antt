-- The image of a list of words: contents, then bodies.
use Rattle.std.specs.Prelude.{ℕ, ◌+◌, ◌*◌, List, [], ◌∷◌, ◌++◌, eqb, length}
use Rattle.rdfs.specs.Numbers.{Numbers}
use Rattle.rdfs.specs.Lists.{filter, concat_map}
use Rattle.rdfs.specs.Facts.{kind, ids}
use Rattle.rdfs.specs.Words.{fact}
use Rattle.contents.specs.ImageForm.{Form, fact_size, first_body, kinds, in_bytes}

-- The kind of a word's fact, and the words of kind k.
abbrev pub fact_kind : Numbers → ℕ → ℕ
fact_kind N w = kind (fact N.base w)

abbrev pub of_kind : Numbers → ℕ → List ℕ → List ℕ
of_kind N k l = filter (λ w. eqb (fact_kind N w) k) l

-- The bytes of a fact in a body: its ids.
abbrev pub id_bytes : Numbers → Form → ℕ → List ℕ
id_bytes N F w = concat_map (in_bytes F.id_size) (ids (fact N.base w))

-- The body of kind k: the ids of its facts, in order.
abbrev pub body_of : Numbers → Form → List ℕ → ℕ → List ℕ
body_of N F l k = concat_map (id_bytes N F) (of_kind N k l)

-- The bodies in kind order, without gaps.
abbrev pub bodies : Numbers → Form → List ℕ → List ℕ → List ℕ
bodies N F l ks = concat_map (body_of N F l) ks

-- Kind, bytes per fact, start, count.
abbrev pub entry : Form → ℕ → ℕ → ℕ → List ℕ
entry F k start count = k ∷ fact_size F k ∷ concat_map (in_bytes F.field_size) (start ∷ count ∷ [])

-- The entries of kinds, if the body of the first of them starts at `start`. An empty body's start is where
-- the next begins.
abbrev pub contents : Numbers → Form → List ℕ → ℕ → List ℕ → List ℕ
contents N F l start [] = []
contents N F l start (k ∷ ks) =
    entry F k start (length (of_kind N k l)) ++ contents N F l (start + fact_size F k * length (of_kind N k l))
    ks

unfoldable pub image_of : Numbers → Form → List ℕ → List ℕ
image_of N F l = F.edition ∷ F.entries ∷ (contents N F l (first_body F) (kinds F) ++ bodies N F l (kinds F))
