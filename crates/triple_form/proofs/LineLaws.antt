-- Lines inside the profile: their terms are proper and tell the line, and no line is the start of another. Assumes nothing.
use Prim.Native.Nat.{ℕ}
use mathlib.Core.Path.{◌≡◌, sym, ap, ◌∙◌}
use mathlib.Core.Bool.{Bool, true, false, not, ◌&&◌, ◌||◌}
use mathlib.Core.List.{List, ◌++◌, append_assoc}
use lib.Dec.{T, eqb, leb, leb→le}
use lib.ListN.{drop}
use Rattle.std.proofs.Common.{Option}
use Rattle.rdfs.specs.Numbers.{product}
use Rattle.rdfs.specs.Facts.{Fact, cl, pr, ind, lit, excl, csub, psub, dom, rng, ci, pi, kind, second}
use Rattle.rdfs.specs.Words.{allowed}
use Rattle.rdfs.proofs.Lists.Tests.{and_both}
use Rattle.rdfs.proofs.Words.Allowed.{Ids, allowed_ids}
use Rattle.terms.specs.Terms.{bytes, spelling, ProperSome}
use Rattle.terms.specs.Terms.{ended}
use Rattle.triple_form.specs.Lines.{Line, has_line, subject, predicate, object, line_of, in_profile}
use Rattle.terms.specs.declared.term.Term.{Term}
use Rattle.terms.proofs.Spelling.{spelling_one}
use Rattle.triple_form.proofs.TermParts.{line_from, line_again}

-- The three terms of a line inside the profile are proper.
abbrev pub ProperLine : Line → Type 0
ProperLine x =
    ProperSome product.top (subject x.fact) × ProperSome product.top (predicate x.fact)
    × ProperSome product.top (object x.literal x.fact)

abbrev top : ℕ
top = product.top

known : (f : Fact) (l : Bool) → T (has_line f) → Ids top f → (T l → T (leb 2 (second f)))
    → ProperLine (record { fact = f; literal = l })
known (cl a) l h i g = (i.0, tt, tt)
known (pr a) l h i g = (i.0, tt, tt)
known (ind a) l h i g = absurd h
known (lit a) l h i g = absurd h
known (csub a b) l h i g = (i.0.0, tt, i.1.0)
known (psub a b) l h i g = (i.0.0, tt, i.1.0)
known (dom a b) l h i g = (i.0.0, tt, i.1.0)
known (rng a b) l h i g = (i.0.0, tt, i.1)
known (ci a b) l h i g = (i.0.0, tt, i.1.0)
known (pi a b c) false h i g = (i.0.0, i.2.0, i.1.0)
known (pi a b c) true h i g = (i.0.0, i.2.0, (leb→le 2 b (g tt), i.1.0))
known (excl a) l h i g = (i.0, tt, tt)

literal_from : (l : Bool) (k n : ℕ) → T (not l || (eqb k 10 && leb 2 n)) → T l → T (leb 2 n)
literal_from true k n h _ = (and_both (eqb k 10) (leb 2 n) h).1
literal_from false k n h g = absurd g

pub line_known : (x : Line) → T (in_profile product.top x) → ProperLine x
line_known x h =
    let p = and_both (has_line x.fact) _ h in
    let q = and_both (allowed top x.fact) _ p.1 in
    known x.fact x.literal p.0 (allowed_ids top x.fact q.0)
    (literal_from x.literal (kind x.fact) (second x.fact) q.1)

-- The three terms tell the line.
pub terms_tell : (x y : Line) → T (in_profile product.top x) → T (in_profile product.top y)
    → subject x.fact ≡ subject y.fact → predicate x.fact ≡ predicate y.fact
    → object x.literal x.fact ≡ object y.literal y.fact → x ≡ y
terms_tell x y h k p1 p2 p3 =
    sym (line_again x h) ∙ (ap (λ s. line_from s (predicate x.fact) (object x.literal x.fact)) p1
    ∙ (ap (λ p. line_from (subject y.fact) p (object x.literal x.fact)) p2
    ∙ (ap (λ o. line_from (subject y.fact) (predicate y.fact) o) p3 ∙ line_again y k)))

-- A line and what follows it, term by term.
pub line_parts : (x : Line) (r : List ℕ) → line_of x ++ r ≡ ended (spelling (subject x.fact))
    ++ (ended (spelling (predicate x.fact)) ++ (ended (spelling (object x.literal x.fact)) ++ (bytes ".\n" ++ r)))
unfolding line_of
line_parts x r = simp append_assoc

ended_one : (t u : Option Term) (r s : List ℕ) → ProperSome product.top t → ProperSome product.top u
    → ended (spelling t) ++ r ≡ ended (spelling u) ++ s → (t ≡ u) × (r ≡ s)
ended_one t u r s p q e =
    let one = spelling_one t u (bytes " " ++ r) (bytes " " ++ s) p q
    (sym (append_assoc (spelling t) (bytes " ") r) ∙ (e ∙ append_assoc (spelling u) (bytes " ") s)) in
    (one.0, ap (drop 1) one.1)

pub line_one : (x y : Line) (r s : List ℕ) → T (in_profile product.top x) → T (in_profile product.top y)
    → line_of x ++ r ≡ line_of y ++ s → (x ≡ y) × (r ≡ s)
line_one x y r s h k e =
    let px = line_known x h in
    let py = line_known y k in
    let one = ended_one _ _ _ _ px.0 py.0 (sym (line_parts x r) ∙ (e ∙ line_parts y s)) in
    let two = ended_one _ _ _ _ px.1 py.1 one.1 in
    let three = ended_one _ _ _ _ px.2 py.2 two.1 in
    (terms_tell x y h k one.0 two.0 three.0, ap (drop 2) three.1)
