-- A line inside the profile is read from its own bytes, and nothing else is. Assumes nothing.
use Prim.Native.Nat.{ℕ}
use mathlib.Core.Path.{◌≡◌, refl, sym, ap, subst, ◌∙◌}
use mathlib.Core.Bool.{Bool, true, false, ◌&&◌}
use mathlib.Core.Logic.{⊎_elim}
use mathlib.Core.List.{List, [], ◌∷◌, ◌++◌}
use lib.Dec.{T}
use Rattle.std.proofs.Common.{Option}
use lib.ListN.{take, get_or}
use Rattle.rdfs.specs.Numbers.{product}
use Rattle.rdfs.specs.Lists.{◌∈◌, here, there, filter, concat_map, same_list}
use Rattle.rdfs.specs.Facts.{Fact, cl, pr, ind, lit, excl, csub, psub, dom, rng, ci, pi, kind, made}
use Rattle.rdfs.proofs.Lists.Tests.{and_both, both_and}
use Rattle.rdfs.proofs.Lists.ListLaws.{none_in, in_cons, in_filter, filter_in, concat_map_in}
use Rattle.rdfs.proofs.Lists.SameList.{same_list_eq, same_list_refl}
use Rattle.terms.specs.Terms.{bytes, spelling, ProperSome}
use Rattle.terms.specs.Terms.{ended}
use Rattle.triple_form.specs.Lines.{Line, has_line, subject, predicate, object, line_of, in_profile}
use Rattle.terms.specs.declared.term.Term.{Term}
use Rattle.terms.proofs.Spelling.{spelling_free}
use Rattle.triple_form.proofs.LineLaws.{line_one, line_known}
use Rattle.triples.specs.TextRead.{cut_after, id_of, both_of, line_kinds, could_be, line_read}
use Rattle.triples.proofs.CutAfter.{Free, cut_ended}
use Rattle.triples.proofs.IdOf.{told, tells_id, tells_literal}

abbrev top : ℕ
top = product.top

-- The parts of a line: its terms, each with its blank, and the rest.
parts : (s p o : Option Term) → ProperSome top s → ProperSome top p → ProperSome top o
    → cut_after 32 (ended (spelling s) ++ (ended (spelling p) ++ (ended (spelling o) ++ bytes ".\n")))
    ≡ ended (spelling s) ∷ ended (spelling p) ∷ ended (spelling o) ∷ bytes ".\n" ∷ []
parts s p o a b c =
    let blank : (t : Option Term) → ProperSome top t → Free 32 (spelling t) = λ t h x m. (spelling_free t h x m).0 in
    cut_ended 32 (spelling s) (ended (spelling p) ++ (ended (spelling o) ++ bytes ".\n")) (blank s a)
    ∙ ap (λ m. ended (spelling s) ∷ m) (cut_ended 32 (spelling p) (ended (spelling o) ++ bytes ".\n") (blank p b)
    ∙ ap (λ m. ended (spelling p) ∷ m) (cut_ended 32 (spelling o) (bytes ".\n") (blank o c)))

-- The lines of each kind with three ids.
abbrev could : ℕ → ℕ → ℕ → List Line
could a b c = concat_map (λ k. both_of (made k a b c)) line_kinds

in_both : (x : Line) (f : Fact) → f ≡ x.fact → x ∈ both_of f
in_both x f e = by x.literal refl
  where
    by : (b : Bool) → x.literal ≡ b → x ∈ both_of f
    by false d = here (λ i. record { fact = sym e i; literal = d i })
    by true d = there (here (λ i. record { fact = sym e i; literal = d i }))

-- The kind of a fact with a line is among them.
kind_there : (f : Fact) → T (has_line f) → kind f ∈ line_kinds
kind_there (cl a) t = here refl
kind_there (pr a) t = there (here refl)
kind_there (ind a) t = absurd t
kind_there (lit a) t = absurd t
kind_there (csub a b) t = there (there (here refl))
kind_there (psub a b) t = there (there (there (here refl)))
kind_there (dom a b) t = there (there (there (there (here refl))))
kind_there (rng a b) t = there (there (there (there (there (here refl)))))
kind_there (ci a b) t = there (there (there (there (there (there (here refl))))))
kind_there (pi a b c) t = there (there (there (there (there (there (there (here refl)))))))
kind_there (excl a) t = there (there (there (there (there (there (there (there (here refl))))))))

-- A fact with a line is made of what its terms tell.
made_told : (f : Fact) (l : Bool) → ProperSome top (subject f) → ProperSome top (predicate f) → ProperSome top (object l f)
    → made (kind f) (told (subject f)) (told (object l f)) (told (predicate f)) ≡ f
made_told (cl a) l s p o = ap cl (tells_id a s)
made_told (pr a) l s p o = ap pr (tells_id a s)
made_told (ind a) l s p o = absurd s
made_told (lit a) l s p o = absurd s
made_told (csub a b) l s p o = λ i. csub (tells_id a s i) (tells_id b o i)
made_told (psub a b) l s p o = λ i. psub (tells_id a s i) (tells_id b o i)
made_told (dom a b) l s p o = λ i. dom (tells_id a s i) (tells_id b o i)
made_told (rng a b) l s p o = λ i. rng (tells_id a s i) (tells_id b o i)
made_told (ci a b) l s p o = λ i. ci (tells_id a s i) (tells_id b o i)
made_told (pi a b c) false s p o = λ i. pi (tells_id a s i) (tells_id b o i) (tells_id c p i)
made_told (pi a b c) true s p o = λ i. pi (tells_id a s i) (tells_literal b o.0 o.1 i) (tells_id c p i)
made_told (excl a) l s p o = ap excl (tells_id a s)

could_be_lem : (x : Line) → T (in_profile top x)
    → could_be top (line_of x)
    ≡ could (told (subject x.fact)) (told (object x.literal x.fact)) (told (predicate x.fact))
unfolding line_of told
could_be_lem x h =
    let known = line_known x h in
    ap (λ (m : List (List ℕ)). could (id_of top (get_or m 0 [])) (id_of top (get_or m 2 [])) (id_of top (get_or m 1 [])))
    (parts (subject x.fact) (predicate x.fact) (object x.literal x.fact) known.0 known.1 known.2)

found : (x : Line) → T (in_profile top x) → x ∈ could_be top (line_of x)
found x h =
    let f : Fact = x.fact in
    let known = line_known x h in
    let s : ℕ = told (subject f) in
    let p : ℕ = told (predicate f) in
    let o : ℕ = told (object x.literal f) in
    let both : x ∈ both_of (made (kind f) s o p) =
    in_both x (made (kind f) s o p) (made_told f x.literal known.0 known.1 known.2) in
    subst (λ m. x ∈ m) (sym (could_be_lem x h))
    (concat_map_in (λ k. both_of (made k s o p)) (kind_there f (and_both (has_line f) _ h).0) both)

-- The first of a list.
module _ {A : Type 0} where
  one_of : (l : List A) (x : A) → x ∈ l → ((y : A) → y ∈ l → y ≡ x) → take 1 l ≡ x ∷ []
  one_of [] x h only = absurd (none_in h)
  one_of (y ∷ l) x h only = ap (λ z. z ∷ []) (only y (here refl))

  first_in : (l : List A) (x : A) → x ∈ take 1 l → x ∈ l
  first_in [] x h = absurd (none_in h)
  first_in (y ∷ l) x h = ⊎_elim (λ e. here e) (λ k. absurd (none_in k)) (in_cons h)

passes : (l : List ℕ) (x : Line) → T (same_list (line_of x) l && in_profile top x) → (line_of x ≡ l) × T (in_profile top x)
passes l x t = let both = and_both (same_list (line_of x) l) (in_profile top x) t in (same_list_eq (line_of x) l both.0, both.1)

pub line_read_of : (x : Line) → T (in_profile top x) → line_read top (line_of x) ≡ x ∷ []
unfolding line_read
line_read_of x h =
    let l : List ℕ = line_of x in
    let test : Line → Bool = λ y. same_list (line_of y) l && in_profile top y in
    one_of (filter test (could_be top l)) x
    (filter_in test (could_be top l) (found x h) (both_and (same_list l l) (in_profile top x) (same_list_refl l) h))
    (λ y m. let g = passes l y (in_filter test (could_be top l) m).1 in
    (line_one y x [] [] g.1 h (ap (λ b. b ++ []) g.0)).0)

pub line_read_is : (l : List ℕ) (x : Line) → x ∈ line_read top l → (line_of x ≡ l) × T (in_profile top x)
unfolding line_read
line_read_is l x h =
    let test : Line → Bool = λ y. same_list (line_of y) l && in_profile top y in
    passes l x (in_filter test (could_be top l) (first_in (filter test (could_be top l)) x h)).1
