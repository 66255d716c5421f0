-- What goes with a link, a membership or a value is of one kind or of two, by a relation of its ids. Assumes nothing.
use Prim.Native.Nat.{ℕ}
use mathlib.Core.Path.{◌≡◌, sym, ap, subst, ◌∙◌}
use mathlib.Core.Bool.{Bool, true, false, ◌&&◌, ◌||◌, cond}
use mathlib.Core.Logic.{◌⊎◌, inl, inr, ⊎_elim}
use mathlib.Core.List.{List, [], ◌∷◌, ◌++◌}
use lib.Dec.{T, eqb, eqb→eq}
use Rattle.rdfs.specs.Lists.{member}
use Rattle.rdfs.specs.Facts.{Fact, kind, first, second, third, made, Graph}
use Rattle.rdfs.specs.Deletion.{of}
use Rattle.rdfs.proofs.Lists.Tests.{Tests, tests_as, tests_none, tests_or}
use Rattle.rdfs.proofs.Words.FactLaws.{made_of}
use Rattle.rdfs.proofs.Deletion.LeftLargest.{RolesDownward, LinksDownward, MembersDownward}

-- Three ids in a relation.
abbrev pub Related : (ℕ → ℕ → ℕ → Type 0) → Graph
Related P f = P (first f) (second f) (third f)

-- The fact is of kind k, and its ids are in P; or it is of kind m, and they are in Q.
abbrev pub OfKind : ℕ → (ℕ → ℕ → ℕ → Type 0) → Graph
OfKind k P f = cond (eqb (kind f) k) (Related P f) ⊥

abbrev pub OfKinds : ℕ → (ℕ → ℕ → ℕ → Type 0) → ℕ → (ℕ → ℕ → ℕ → Type 0) → Graph
OfKinds k P m Q f = cond (eqb (kind f) k) (Related P f) (OfKind m Q f)

cond_either : (b : Bool) {P Q : Type 0} → cond b P Q → (T b × P) ⊎ Q
cond_either true p = inl (tt, p)
cond_either false q = inr q

pub of_kind_lem : (k : ℕ) (P : ℕ → ℕ → ℕ → Type 0) (f : Fact) → OfKind k P f → (kind f ≡ k) × Related P f
of_kind_lem k P f g = ⊎_elim (λ q. (eqb→eq (kind f) k q.0, q.1)) (λ e. absurd e) (cond_either (eqb (kind f) k) g)

pub of_kinds : (k : ℕ) (P : ℕ → ℕ → ℕ → Type 0) (m : ℕ) (Q : ℕ → ℕ → ℕ → Type 0) (f : Fact) → OfKinds k P m Q f
    → ((kind f ≡ k) × Related P f) ⊎ ((kind f ≡ m) × Related Q f)
of_kinds k P m Q f g = ⊎_elim (λ q. inl (eqb→eq (kind f) k q.0, q.1)) (λ q. inr (of_kind_lem m Q f q))
    (cond_either (eqb (kind f) k) g)

-- The register's tests, kind by kind.
tests_cond : (b : Bool) {t : Bool} {P : Type 0} → Tests t P → Tests (b && t) (cond b P ⊥)
tests_cond true t = t
tests_cond false t = tests_none

tests_cond_either : (b d : Bool) {t u : Bool} {P Q : Type 0} → (T b → T d → ⊥) → Tests t P → Tests u Q
    → Tests ((b && t) || (d && u)) (cond b P (cond d Q ⊥))
tests_cond_either true true apart t u = absurd (apart tt tt)
tests_cond_either true false apart t u = tests_as (tests_or t tests_none) (⊎_elim (λ p. p) (λ e. absurd e)) inl
tests_cond_either false d apart t u = tests_cond d u

pub tests_of_kind : (k : ℕ) (test : ℕ → ℕ → ℕ → Bool) (P : ℕ → ℕ → ℕ → Type 0) → ((x y z : ℕ) → Tests (test x y z) (P x y z))
    → (f : Fact) → Tests (of k test f) (OfKind k P f)
tests_of_kind k test P t f = tests_cond (eqb (kind f) k) (t (first f) (second f) (third f))

pub tests_of_kinds : (k : ℕ) (test : ℕ → ℕ → ℕ → Bool) (P : ℕ → ℕ → ℕ → Type 0) (m : ℕ) (test' : ℕ → ℕ → ℕ → Bool) (Q : ℕ → ℕ → ℕ
    → Type 0) → (k ≡ m → ⊥)
    → ((x y z : ℕ) → Tests (test x y z) (P x y z)) → ((x y z : ℕ) → Tests (test' x y z) (Q x y z)) → (f : Fact)
    → Tests (of k test f || of m test' f) (OfKinds k P m Q f)
tests_of_kinds k test P m test' Q apart t u f = tests_cond_either (eqb (kind f) k) (eqb (kind f) m)
    (λ a b. apart (sym (eqb→eq (kind f) k a) ∙ eqb→eq (kind f) m b)) (t (first f) (second f) (third f))
    (u (first f) (second f) (third f))

-- Their kinds are among S.
pub of_kind_among : (S : List ℕ) (k : ℕ) (P : ℕ → ℕ → ℕ → Type 0) → T (member S k) → (f : Fact) → OfKind k P f
    → T (member S (kind f))
of_kind_among S k P t f g = subst (λ n. T (member S n)) (sym (of_kind_lem k P f g).0) t

pub of_kinds_among : (S : List ℕ) (k : ℕ) (P : ℕ → ℕ → ℕ → Type 0) (m : ℕ) (Q : ℕ → ℕ → ℕ → Type 0) → T (member S k)
    → T (member S m)
    → (f : Fact) → OfKinds k P m Q f → T (member S (kind f))
of_kinds_among S k P m Q t u f g =
    ⊎_elim (λ q. subst (λ n. T (member S n)) (sym q.0) t) (λ q. subst (λ n. T (member S n)) (sym q.0) u)
    (of_kinds k P m Q f g)

-- Such facts are not in H if H lacks those of each kind.
of_kind_made : (H : Graph) (k : ℕ) (f : Fact) → H f → kind f ≡ k → H (made k (first f) (second f) (third f))
of_kind_made H k f h e = subst H (sym (made_of f) ∙ ap (λ n. made n (first f) (second f) (third f)) e) h

pub of_kind_lost : (H : Graph) (k : ℕ) (P : ℕ → ℕ → ℕ → Type 0) → ((x y z : ℕ) → H (made k x y z) → P x y z → ⊥) → (f : Fact)
    → H f → OfKind k P f → ⊥
of_kind_lost H k P lost f h g = let q = of_kind_lem k P f g in
    lost (first f) (second f) (third f) (of_kind_made H k f h q.0) q.1

pub of_kinds_lost : (H : Graph) (k : ℕ) (P : ℕ → ℕ → ℕ → Type 0) (m : ℕ) (Q : ℕ → ℕ → ℕ → Type 0)
    → ((x y z : ℕ) → H (made k x y z) → P x y z → ⊥)
    → ((x y z : ℕ) → H (made m x y z) → Q x y z → ⊥) → (f : Fact) → H f → OfKinds k P m Q f → ⊥
of_kinds_lost H k P m Q lost lost' f h g = ⊎_elim
    (λ q. lost (first f) (second f) (third f) (of_kind_made H k f h q.0) q.1)
    (λ q. lost' (first f) (second f) (third f) (of_kind_made H m f h q.0) q.1) (of_kinds k P m Q f g)

-- Class links and property links; memberships and values; both, and Excl.
abbrev pub link_kinds : List ℕ
link_kinds = 5 ∷ 6 ∷ []

abbrev pub member_kinds : List ℕ
member_kinds = 9 ∷ 10 ∷ []

abbrev pub non_role_kinds : List ℕ
non_role_kinds = link_kinds ++ (member_kinds ++ (11 ∷ []))

-- Where only these go, every demanded role, domain and range stays.
pub roles_stay : (Gone G : Graph) → ((f : Fact) → Gone f → T (member non_role_kinds (kind f))) → RolesDownward Gone G
roles_stay Gone G only = record {
  by_7 = λ x y. ⊎_elim (λ g. absurd (only _ g)) (λ g. absurd (only _ g));
  by_8 = λ x y. ⊎_elim (λ g. absurd (only _ g)) (λ g. absurd (only _ g));
  by_9 = λ x y. ⊎_elim (λ g. absurd (only _ g)) (λ g. absurd (only _ g));
  by_10 = λ x y. ⊎_elim (λ g. absurd (only _ g)) (λ g. absurd (only _ g));
  by_11 = λ x y. ⊎_elim (λ g. absurd (only _ g)) (λ g. absurd (only _ g));
  by_12 = λ x y z. ⊎_elim (λ g. absurd (only _ g)) (⊎_elim (⊎_elim (λ g. absurd (only _ g)) (λ g. absurd (only _ g)))
      (λ g. absurd (only _ g)));
  by_15_domain = λ x y h g. absurd (only _ g);
  by_15_range = λ x y h g. absurd (only _ g);
  by_h1 = λ g. only _ g;
  by_e1 = λ x g. absurd (only _ g);
}

-- Where only memberships and values go, every demanded link stays.
pub links_stay : (Gone G : Graph) → ((f : Fact) → Gone f → T (member member_kinds (kind f))) → LinksDownward Gone G
links_stay Gone G only = record {
  by_13 = λ x g. absurd (only _ g);
  by_18 = λ x y z h k g. absurd (only _ g);
  by_20 = λ x y z h k g. absurd (only _ g);
  by_22 = λ x y z w h k g. absurd (only _ g);
  by_23 = λ x y z w h k g. absurd (only _ g);
}

-- Where only links go, every demanded membership and value stays.
pub members_stay : (Gone G : Graph) → ((f : Fact) → Gone f → T (member link_kinds (kind f))) → MembersDownward Gone G
members_stay Gone G only = record {
  by_14 = λ x g. absurd (only _ g);
  by_24 = λ x y z w h g. absurd (only _ g);
  by_25 = λ x y z w h g. absurd (only _ g);
  by_26 = λ x y z h g. absurd (only _ g);
  by_27 = λ x y z w h g. absurd (only _ g);
}
