-- What the programs print that turn an image into a text and a text into an image.
use Rattle.std.specs.Prelude.{ℕ, ◌+◌, ◌*◌, cond, List, [], eqb}
use Rattle.rdfs.specs.Numbers.{product}
use Rattle.contents.specs.ImageForm.{form, largest_fact, first_body}
use Rattle.writing.specs.WritePromise.{table_image}
use Rattle.reading.specs.ReadPromise.{read_answer, read_words}
use Rattle.triple_form.specs.Lines.{longest_line}
use Rattle.triples.specs.WriteTriples.{table_text}
use Rattle.triples.specs.ReadTriples.{read_triples_answer, read_triples_words}
use Rattle.exchange.specs.ToText.{room}

-- No text and no image that is written has more bytes.
abbrev pub longest_text : ℕ
longest_text = longest_line * product.most

abbrev pub longest_image : ℕ
longest_image = first_body form + largest_fact form * product.most

-- The text of an image's graph, and the image of a text's graph; nothing if reading refuses.
abbrev pub text_printed : List ℕ → List ℕ
text_printed image = cond (eqb (read_answer room image) 0) (table_text (read_words room image)) []

abbrev pub image_printed : List ℕ → List ℕ
image_printed text = cond (eqb (read_triples_answer room text) 0) (table_image (read_triples_words room text)) []
