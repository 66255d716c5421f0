-- The texts whose lines are all inside the profile. Assumes nothing.
use Prim.Native.Nat.{ℕ, ◌≤◌}
use mathlib.Core.Path.{◌≡◌, refl, sym, ap, subst, ◌∙◌}
use mathlib.Core.Bool.{true, false}
use mathlib.Core.List.{List, [], ◌∷◌, ◌++◌, append_cancel_left, map}
use native.Mathlib.Omega.{arith}
use lib.Dec.{T}
use lib.ListN.{length}
use Rattle.rdfs.specs.Lists.{◌∈◌, here, there, concat_map, same_list}
use Rattle.rdfs.proofs.Lists.Tests.{Tests, tests_as, tests_agree}
use Rattle.rdfs.proofs.Lists.ListLaws.{in_map}
use Rattle.rdfs.proofs.Lists.SameList.{same_list_eq, same_list_refl}
use Rattle.table.proofs.TestAnswers.{is_true, is_false}
use Rattle.triple_form.specs.Lines.{Line, line_of, in_profile}
use Rattle.triples.specs.Texts.{text_of_lines}
use Rattle.triples.specs.TextRead.{cut_after, line_read, lines_read, all_inside}
use Rattle.triples.proofs.CutAfter.{cut_join}
use Rattle.triples.proofs.LineFound.{line_read_of}
use Rattle.triples.proofs.LinesRead.{top, lines_read_none, lines_read_more, lines_read_text, cut_text, read_profile}

-- Such a text is the text of its lines.
pub tests_inside : (text : List ℕ) → Tests (all_inside top text) (text ≡ text_of_lines (lines_read top text))
unfolding all_inside
tests_inside text = record {
  sound = same_list_eq text (text_of_lines (lines_read top text));
  complete = λ e. subst (λ l. T (same_list text l)) e (same_list_refl text);
}

pub inside_is : (text : List ℕ) → T (all_inside top text) → text ≡ text_of_lines (lines_read top text)
inside_is text h = (tests_inside text).sound h

pub inside_text : (L : List Line) → ((x : Line) → x ∈ L → T (in_profile top x)) → all_inside top (text_of_lines L) ≡ true
inside_text L h = is_true ((tests_inside (text_of_lines L)).complete (ap text_of_lines (sym (lines_read_text L h))))

pub inside_none : all_inside top [] ≡ true
inside_none = is_true ((tests_inside []).complete (ap text_of_lines (sym lines_read_none)))

-- A line in front.
pub inside_more : (x : Line) (rest : List ℕ) → T (in_profile top x) → all_inside top (line_of x ++ rest) ≡ all_inside top rest
inside_more x rest h =
    let text : List ℕ = text_of_lines (lines_read top rest) in
    let more : text_of_lines (lines_read top (line_of x ++ rest)) ≡ line_of x ++ text = ap text_of_lines (lines_read_more x rest h) in
    tests_agree (tests_as (tests_inside (line_of x ++ rest)) (λ e. append_cancel_left (line_of x) rest text (e ∙ more)) (λ e.
    ap (λ l. line_of x ++ l) e ∙ sym more)) (tests_inside rest)

-- No line in front.
pub inside_never : (text : List ℕ) → 1 ≤ length text
    → ((x : Line) (rest : List ℕ) → T (in_profile top x) → text ≡ line_of x ++ rest → ⊥) → all_inside top text ≡ false
inside_never text long never = is_false (λ h. by (lines_read top text) refl (inside_is text h))
  where
    by : (L : List Line) → lines_read top text ≡ L → text ≡ text_of_lines L → ⊥
    by [] e d = omega (arith, long, ap length d)
    by (x ∷ L) e d = never x (text_of_lines L) (read_profile text x (subst (λ m. x ∈ m) (sym e) (here refl))) d

-- The runs of such a text.
pub inside_cut : (text : List ℕ) → T (all_inside top text) → cut_after 10 text ≡ map line_of (lines_read top text)
inside_cut text h = ap (cut_after 10) (inside_is text h) ∙ cut_text (lines_read top text) (read_profile text)

pub inside_lines : (text : List ℕ) → T (all_inside top text) → (l : List ℕ) → l ∈ cut_after 10 text
    → (x : Line) × T (in_profile top x) × (line_of x ≡ l)
inside_lines text h l k =
    let at = in_map line_of (lines_read top text) (subst (λ m. l ∈ m) (inside_cut text h) k) in
    (at.0, read_profile text at.0 at.1, sym at.2)

-- A text is such a text if each of its runs is a line inside the profile.
again : (m : List (List ℕ)) → ((l : List ℕ) → l ∈ m → (x : Line) × T (in_profile top x) × (line_of x ≡ l))
    → text_of_lines (concat_map (line_read top) m) ≡ concat_map (λ l. l) m
again [] f = refl
again (l ∷ m) f =
    let r = f l (here refl) in
    let one : line_read top l ≡ r.0 ∷ [] = ap (line_read top) (sym r.2) ∙ line_read_of r.0 r.1 in
    ap (λ L. text_of_lines (L ++ concat_map (line_read top) m)) one
    ∙ λ i. r.2 i ++ again m (λ k h. f k (there h)) i

pub inside_by_lines : (text : List ℕ)
    → ((l : List ℕ) → l ∈ cut_after 10 text → (x : Line) × T (in_profile top x) × (line_of x ≡ l)) → T (all_inside top text)
unfolding lines_read
inside_by_lines text f = (tests_inside text).complete (sym (again (cut_after 10 text) f ∙ cut_join 10 text))
