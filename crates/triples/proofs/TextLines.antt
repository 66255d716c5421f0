-- The lines of texts, and of the text of a consistent table. Assumes nothing.
use Prim.Native.Nat.{ℕ, ◌*◌, ◌≤◌}
use mathlib.Core.Path.{◌≡◌, refl, sym, ap, subst, ◌∙◌}
use mathlib.Core.Bool.{Bool, true, false, not, ◌||◌}
use mathlib.Core.List.{List, [], ◌∷◌, ◌++◌, map}
use native.Mathlib.Omega.{arith}
use lib.Dec.{T}
use lib.ListN.{length, length-append}
use Rattle.rdfs.specs.Numbers.{product}
use Rattle.rdfs.specs.Lists.{◌∈◌, here, there, ◌⊆◌, concat_map}
use Rattle.rdfs.specs.Facts.{Fact}
use Rattle.rdfs.specs.Words.{facts}
use Rattle.rdfs.specs.Register.{Table}
use Rattle.rdfs.proofs.Lists.ListLaws.{in_map, map_in, in_concat_map, concat_map_in}
use Rattle.triple_form.specs.Lines.{Line, line_of, in_profile}
use Rattle.triples.specs.Texts.{lines_for, text_of_lines, text_of}
use Rattle.triples.specs.TextRead.{cut_after, lines_read, all_inside, given}
use Rattle.triples.proofs.Written.{written_inside}
use Rattle.triple_form.proofs.LineLaws.{line_one}
use Rattle.triple_form.proofs.LineLength.{line_short}
use Rattle.triples.proofs.LinesRead.{lines_read_text}
use Rattle.triples.proofs.AllInside.{inside_text, inside_cut}

-- Each line is inside the profile.
abbrev pub EachInside : List Line → Type 0
EachInside L = (x : Line) → x ∈ L → T (in_profile product.top x)

pub map_sub : (L M : List Line) → L ⊆ M → map line_of L ⊆ map line_of M
map_sub L M s l i = let r = in_map line_of L i in
    subst (λ m. m ∈ map line_of M) (sym r.2) (map_in line_of (s r.0 r.1))

pub given_sub : (L M : List Line) → L ⊆ M → concat_map given L ⊆ concat_map given M
given_sub L M s f i = let r = in_concat_map given L i in concat_map_in given (s r.0 r.1) r.2

pub passed : (a b : Bool) → (not a || b) ≡ false → T a × (b ≡ false)
passed true b e = (tt, e)
passed false b e = absurd (subst T e tt)

-- Lines inside the profile with the same bytes are the same.
pub lines_sub : (L M : List Line) → EachInside L → EachInside M → map line_of L ⊆ map line_of M → L ⊆ M
lines_sub L M a b s x i =
    let r = in_map line_of M (s (line_of x) (map_in line_of i)) in
    let e : x ≡ r.0 = (line_one x r.0 [] [] (a x i) (b r.0 r.1) (ap (λ l. l ++ []) r.2)).0 in
    subst (λ y. y ∈ M) (sym e) r.1

pub short_lines : (L : List Line) → EachInside L → length (text_of_lines L) ≤ 154 * length L
short_lines [] a = omega arith
short_lines (x ∷ L) a = omega (
  arith,
  length-append (line_of x) (text_of_lines L),
  line_short x (a x (here refl)),
  short_lines L (λ y i. a y (there i)),
)

-- The text of a consistent table.
module _ (t : List ℕ) (h : Table product t) where
  abbrev K : List Fact
  K = facts product t

  pub text_lines : lines_read product.top (text_of K) ≡ lines_for K K
  unfolding text_of
  text_lines = lines_read_text (lines_for K K) (written_inside t h)

  pub text_inside : all_inside product.top (text_of K) ≡ true
  unfolding text_of
  text_inside = inside_text (lines_for K K) (written_inside t h)

  pub text_cut : cut_after 10 (text_of K) ≡ map line_of (lines_for K K)
  text_cut = inside_cut (text_of K) (subst T (sym text_inside) tt) ∙ ap (map line_of) text_lines
