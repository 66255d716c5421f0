-- Facts by their kind and ids, and the facts of a list that have an id at a place. Assumes nothing.
use Prim.Native.Nat.{ℕ}
use mathlib.Core.Path.{◌≡◌, refl, sym, ap, subst, ◌∙◌}
use mathlib.Core.Bool.{Bool, ◌&&◌}
use mathlib.Core.List.{List}
use lib.Dec.{T, eqb, eqb→eq, eqb_refl}
use Rattle.rdfs.specs.Lists.{◌∈◌, all, any, member}
use Rattle.rdfs.specs.Facts.{
  Fact,
  cl,
  pr,
  ind,
  lit,
  csub,
  psub,
  dom,
  rng,
  ci,
  pi,
  excl,
  kind,
  first,
  second,
  third,
  made,
  same,
  has,
  graph,
  ◌⊑◌,
}
use Rattle.rdfs.specs.Demands.{with_a, with_b, with_c}
use Rattle.rdfs.proofs.Lists.Tests.{Tests, and_both, both_and, tests_decides}
use Rattle.rdfs.proofs.Lists.ListLaws.{in_filter, filter_in, all_in, in_all, any_in, in_any}

-- A fact by its kind and ids.
pub made_of : (f : Fact) → made (kind f) (first f) (second f) (third f) ≡ f
made_of (cl a) = refl
made_of (pr a) = refl
made_of (ind a) = refl
made_of (lit a) = refl
made_of (csub a b) = refl
made_of (psub a b) = refl
made_of (dom a b) = refl
made_of (rng a b) = refl
made_of (ci a b) = refl
made_of (pi a b c) = refl
made_of (excl a) = refl

module _ (K : List Fact) (k x : ℕ) where
  pub from_a : {f : Fact} → f ∈ with_a K k x → made k x (second f) (third f) ∈ K
  from_a {f} h =
      let r = in_filter (λ g. eqb (kind g) k && eqb (first g) x) K h in
      let t = and_both (eqb (kind f) k) (eqb (first f) x) r.1 in
      subst (λ g. g ∈ K) (sym (made_of f) ∙ (ap (λ n. made n (first f) (second f) (third f)) (eqb→eq (kind f) k t.0)
      ∙ ap (λ n. made k n (second f) (third f)) (eqb→eq (first f) x t.1))) r.0

  pub from_b : {f : Fact} → f ∈ with_b K k x → made k (first f) x (third f) ∈ K
  from_b {f} h =
      let r = in_filter (λ g. eqb (kind g) k && eqb (second g) x) K h in
      let t = and_both (eqb (kind f) k) (eqb (second f) x) r.1 in
      subst (λ g. g ∈ K) (sym (made_of f) ∙ (ap (λ n. made n (first f) (second f) (third f)) (eqb→eq (kind f) k t.0)
      ∙ ap (λ n. made k (first f) n (third f)) (eqb→eq (second f) x t.1))) r.0

  pub from_c : {f : Fact} → f ∈ with_c K k x → made k (first f) (second f) x ∈ K
  from_c {f} h =
      let r = in_filter (λ g. eqb (kind g) k && eqb (third g) x) K h in
      let t = and_both (eqb (kind f) k) (eqb (third f) x) r.1 in
      subst (λ g. g ∈ K) (sym (made_of f) ∙ (ap (λ n. made n (first f) (second f) (third f)) (eqb→eq (kind f) k t.0)
      ∙ ap (λ n. made k (first f) (second f) n) (eqb→eq (third f) x t.1))) r.0

pub to_a : (K : List Fact) {f : Fact} → f ∈ K → f ∈ with_a K (kind f) (first f)
to_a K {f} h = filter_in (λ g. eqb (kind g) (kind f) && eqb (first g) (first f)) K h (both_and (eqb (kind f) (kind f))
    (eqb (first f) (first f)) (eqb_refl (kind f)) (eqb_refl (first f)))

pub to_b : (K : List Fact) {f : Fact} → f ∈ K → f ∈ with_b K (kind f) (second f)
to_b K {f} h = filter_in (λ g. eqb (kind g) (kind f) && eqb (second g) (second f)) K h (both_and (eqb (kind f) (kind f))
    (eqb (second f) (second f)) (eqb_refl (kind f)) (eqb_refl (second f)))

pub to_c : (K : List Fact) {f : Fact} → f ∈ K → f ∈ with_c K (kind f) (third f)
to_c K {f} h = filter_in (λ g. eqb (kind g) (kind f) && eqb (third g) (third f)) K h (both_and (eqb (kind f) (kind f))
    (eqb (third f) (third f)) (eqb_refl (kind f)) (eqb_refl (third f)))

pub same_eq : (f g : Fact) → T (same f g) → f ≡ g
same_eq f g t =
    let a = and_both (eqb (kind f) (kind g)) (eqb (first f) (first g) && (eqb (second f) (second g) && eqb (third f) (third g)))
    t in
    let b = and_both (eqb (first f) (first g)) (eqb (second f) (second g) && eqb (third f) (third g)) a.1 in
    let c = and_both (eqb (second f) (second g)) (eqb (third f) (third g)) b.1 in
    sym (made_of f) ∙ (ap (λ n. made n (first f) (second f) (third f)) (eqb→eq (kind f) (kind g) a.0)
    ∙ (ap (λ n. made (kind g) n (second f) (third f)) (eqb→eq (first f) (first g) b.0)
    ∙ (ap (λ n. made (kind g) (first g) n (third f)) (eqb→eq (second f) (second g) c.0)
    ∙ (ap (λ n. made (kind g) (first g) (second g) n) (eqb→eq (third f) (third g) c.1) ∙ made_of g))))

pub same_refl : (f : Fact) → T (same f f)
same_refl f = both_and (eqb (kind f) (kind f)) _ (eqb_refl (kind f)) (both_and (eqb (first f) (first f)) _ (eqb_refl (first f))
    (both_and (eqb (second f) (second f)) (eqb (third f) (third f)) (eqb_refl (second f)) (eqb_refl (third f))))

pub has_in : (K : List Fact) (f : Fact) → T (has K f) → f ∈ K
has_in K f t = let r = any_in (same f) K t in subst (λ g. g ∈ K) (sym (same_eq f r.0 r.2)) r.1

pub in_has : (K : List Fact) (f : Fact) → f ∈ K → T (has K f)
in_has K f h = in_any (same f) h (same_refl f)

pub member_in_lem : (S : List ℕ) (x : ℕ) → T (member S x) → x ∈ S
member_in_lem S x t = let r = any_in (eqb x) S t in subst (λ y. y ∈ S) (sym (eqb→eq x r.0 r.2)) r.1

pub in_member : (S : List ℕ) (x : ℕ) → x ∈ S → T (member S x)
in_member S x h = in_any (eqb x) h (eqb_refl x)

pub tests_member : (S : List ℕ) (x : ℕ) → Tests (member S x) (x ∈ S)
tests_member S x = record { sound = member_in_lem S x; complete = in_member S x }

pub tests_has : (K : List Fact) (f : Fact) → Tests (has K f) (f ∈ K)
tests_has K f = record { sound = has_in K f; complete = in_has K f }

pub tests_any : (p : Fact → Bool) (P : Fact → Type 0) (l : List Fact) → ((f : Fact) → Tests (p f) (P f))
    → Tests (any p l) ((f : Fact) × (f ∈ l) × P f)
tests_any p P l t = record {
  sound = λ h. let r = any_in p l h in (r.0, r.1, (t r.0).sound r.2);
  complete =
      λ r. in_any p r.1 ((t r.0).complete r.2);
}

-- Whether a fact is in a list can be decided.
pub in_list : (K : List Fact) (f : Fact) → Dec (f ∈ K)
in_list K f = tests_decides (tests_has K f)

pub tests_all_has : (K l : List Fact) → Tests (all (has K) l) (◌⊑◌ (graph l) (graph K))
tests_all_has K l =
    record { sound = λ h f m. has_in K f (all_in (has K) h m); complete = λ h. in_all (has K) l (λ f m. in_has K f (h f m)) }
