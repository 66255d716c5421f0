-- The lines of a text: cut, read, and written again. Assumes nothing.
use Prim.Native.Nat.{ℕ}
use mathlib.Core.Path.{◌≡◌, refl, sym, ap, subst, ◌∙◌}
use mathlib.Core.Logic.{⊎_elim}
use mathlib.Core.List.{List, [], ◌∷◌, ◌++◌, append_assoc, map}
use native.Mathlib.Omega.{arith}
use lib.Dec.{T}
use Rattle.std.proofs.Common.{Option}
use Rattle.rdfs.specs.Numbers.{product}
use Rattle.rdfs.specs.Lists.{◌∈◌, here, there, concat_map}
use Rattle.rdfs.proofs.Lists.ListLaws.{in_one, in_append, in_concat_map, concat_map_in}
use Rattle.terms.specs.Terms.{bytes, spelling, ProperSome}
use Rattle.terms.specs.Terms.{ended}
use Rattle.triple_form.specs.Lines.{Line, subject, predicate, object, line_of, in_profile}
use Rattle.terms.specs.declared.term.Term.{Term}
use Rattle.terms.proofs.Spelling.{spelling_free}
use Rattle.triple_form.proofs.LineLaws.{line_known}
use Rattle.triples.specs.Texts.{text_of_lines}
use Rattle.triples.specs.TextRead.{cut_after, line_read, lines_read}
use Rattle.triples.proofs.CutAfter.{Free, cut_ended}
use Rattle.triples.proofs.LineFound.{line_read_of, line_read_is}

abbrev pub top : ℕ
top = product.top

-- A line is a run without a newline, then a newline.
abbrev unended : Option Term → Option Term → Option Term → List ℕ
unended s p o = ended (spelling s) ++ (ended (spelling p) ++ (ended (spelling o) ++ (46 ∷ [])))

line_ended : (s p o : List ℕ) → ended s ++ (ended p ++ (ended o ++ bytes ".\n"))
    ≡ (ended s ++ (ended p ++ (ended o ++ (46 ∷ [])))) ++ (10 ∷ [])
line_ended s p o = simp append_assoc

ended_free : (t : Option Term) → ProperSome top t → Free 10 (ended (spelling t))
ended_free t h x m e = ⊎_elim (λ k. (spelling_free t h x k).1 e) (λ k. omega (arith, in_one k, e)) (in_append (spelling t) m)

append_free : (end : ℕ) (l m : List ℕ) → Free end l → Free end m → Free end (l ++ m)
append_free end l m f g x h e = ⊎_elim (λ k. f x k e) (λ k. g x k e) (in_append l h)

unended_free : (s p o : Option Term) → ProperSome top s → ProperSome top p → ProperSome top o → Free 10 (unended s p o)
unended_free s p o a b c =
    append_free 10 (ended (spelling s)) (ended (spelling p) ++ (ended (spelling o) ++ (46 ∷ []))) (ended_free s a)
    (append_free 10 (ended (spelling p)) (ended (spelling o) ++ (46 ∷ [])) (ended_free p b)
    (append_free 10 (ended (spelling o)) (46 ∷ []) (ended_free o c) (λ x h e. omega (arith, in_one h, e))))

pub cut_line : (x : Line) (rest : List ℕ) → T (in_profile top x) → cut_after 10 (line_of x ++ rest) ≡ line_of x ∷ cut_after 10 rest
unfolding line_of
cut_line x rest h =
    let known = line_known x h in
    let s : Option Term = subject x.fact in
    let p : Option Term = predicate x.fact in
    let o : Option Term = object x.literal x.fact in
    let whole : line_of x ≡ unended s p o ++ (10 ∷ []) = line_ended (spelling s) (spelling p) (spelling o) in
    ap (λ l. cut_after 10 (l ++ rest)) whole
    ∙ (cut_ended 10 (unended s p o) rest (unended_free s p o known.0 known.1 known.2)
    ∙ ap (λ l. l ∷ cut_after 10 rest) (sym whole))

-- The lines read, one after another.
pub lines_read_none : lines_read top [] ≡ []
unfolding lines_read
lines_read_none = refl

pub lines_read_more : (x : Line) (rest : List ℕ) → T (in_profile top x) → lines_read top (line_of x ++ rest) ≡ x ∷ lines_read top rest
unfolding lines_read
lines_read_more x rest h = ap (concat_map (line_read top)) (cut_line x rest h)
    ∙ ap (λ l. l ++ concat_map (line_read top) (cut_after 10 rest)) (line_read_of x h)

pub lines_read_text : (L : List Line) → ((x : Line) → x ∈ L → T (in_profile top x)) → lines_read top (text_of_lines L) ≡ L
lines_read_text [] h = lines_read_none
lines_read_text (x ∷ L) h = lines_read_more x (text_of_lines L) (h x (here refl))
    ∙ ap (λ m. x ∷ m) (lines_read_text L (λ y k. h y (there k)))

pub cut_text : (L : List Line) → ((x : Line) → x ∈ L → T (in_profile top x)) → cut_after 10 (text_of_lines L) ≡ map line_of L
cut_text [] h = refl
cut_text (x ∷ L) h = cut_line x (text_of_lines L) (h x (here refl)) ∙ ap (λ m. line_of x ∷ m) (cut_text L (λ y k. h y (there k)))

-- The lines that any text has are those that are among its runs.
pub read_in : (text : List ℕ) (x : Line) → x ∈ lines_read top text → (line_of x ∈ cut_after 10 text) × T (in_profile top x)
unfolding lines_read
read_in text x h =
    let at = in_concat_map (line_read top) (cut_after 10 text) h in
    let told = line_read_is at.0 x at.2 in
    (subst (λ l. l ∈ cut_after 10 text) (sym told.0) at.1, told.1)

pub in_read : (text : List ℕ) (x : Line) → T (in_profile top x) → line_of x ∈ cut_after 10 text → x ∈ lines_read top text
unfolding lines_read
in_read text x h k = concat_map_in (line_read top) k (subst (λ m. x ∈ m) (sym (line_read_of x h)) (here refl))

pub read_profile : (text : List ℕ) (x : Line) → x ∈ lines_read top text → T (in_profile top x)
read_profile text x h = (read_in text x h).1
