-- The lines of a consistent table: they are inside the profile and tell of no id as an IRI and as a literal, and the facts that
-- they give are the table's but for lone literals, without which it stays consistent. Assumes nothing.
use Prim.Native.Nat.{ℕ, ◌≤◌}
use mathlib.Core.Path.{◌≡◌, refl, sym, ap, subst, ◌∙◌}
use mathlib.Core.Bool.{false, not, ◌&&◌}
use mathlib.Core.Logic.{inl, inr, ⊎_elim}
use mathlib.Core.List.{List}
use native.Mathlib.Omega.{arith}
use native.Mathlib.Decide.{ℕ_discrete}
use lib.Dec.{T, eqb, eqb→eq, T_not, not_T}
use Rattle.rdfs.specs.Numbers.{product}
use Rattle.rdfs.specs.Lists.{◌∈◌, ◌⊆◌, filter, concat_map, any}
use Rattle.rdfs.specs.Facts.{Fact, ind, lit, ci, pi, kind, first, second, has, graph}
use Rattle.rdfs.specs.Consistency.{Consistent}
use Rattle.rdfs.specs.Words.{facts, filled, words}
use Rattle.rdfs.specs.Register.{Table}
use Rattle.rdfs.proofs.Lists.Tests.{and_both, both_and, tests_eq}
use Rattle.rdfs.proofs.Lists.ListLaws.{in_filter, filter_in, in_map, map_in, any_in, in_any}
use Rattle.rdfs.proofs.Lists.Filters.{filter_all}
use Rattle.rdfs.proofs.Words.FactLaws.{has_in, in_has}
use Rattle.rdfs.proofs.Words.Allowed.{fields}
use Rattle.rdfs.proofs.Words.LaidOut.{laid_words, laid_allowed}
use Rattle.rdfs.proofs.Words.Tables.{words_same}
use Rattle.rdfs.proofs.Tickets.TicketTests.{stands}
use Rattle.rdfs.proofs.Consistency.LawfulParts.{part_lawful}
use Rattle.table.proofs.TestAnswers.{is_false}
use Rattle.triple_form.specs.Lines.{Line, has_line, in_profile}
use Rattle.triples.specs.Texts.{literal_in, as_line, lines_for}
use Rattle.triples.specs.TextRead.{given, told_twice}
use Rattle.triples.specs.Lone.{is_value, is_lone, without_lone}
use Rattle.triples.proofs.Given.{parts_inside, no_line, line_has, of_kind_lem, own, member, literal, gives, gives_own}
use Rattle.triples.proofs.Given.{gives_literal, gives_member, told_twice_parts}

-- The lines of facts, and their literals.
module _ (K : List Fact) where
  pub in_lines : (l : List Fact) (x : Line) → x ∈ lines_for K l → (f : Fact) × (f ∈ l) × T (has_line f) × (x ≡ as_line K f)
  in_lines l x h =
      let r = in_map (as_line K) (filter has_line l) h in
      let q = in_filter has_line l r.1 in
      (r.0, q.0, q.1, r.2)

  pub lines_in : (l : List Fact) (f : Fact) → f ∈ l → T (has_line f) → as_line K f ∈ lines_for K l
  lines_in l f h t = map_in (as_line K) (filter_in has_line l h t)

  pub literal_parts : (f : Fact) → T (literal_in K f) → (kind f ≡ 10) × (lit (second f) ∈ K)
  literal_parts f t = let r = and_both (eqb (kind f) 10) (has K (lit (second f))) t in
      (eqb→eq (kind f) 10 r.0, has_in K (lit (second f)) r.1)

  pub parts_literal : (f : Fact) → kind f ≡ 10 → lit (second f) ∈ K → T (literal_in K f)
  parts_literal f e h = both_and (eqb (kind f) 10) (has K (lit (second f))) ((tests_eq (kind f) 10).complete e)
      (in_has K (lit (second f)) h)

  -- A lone literal, and what is left without them.
  pub lone_parts : (f : Fact) → T (is_lone K f) → (kind f ≡ 4) × (T (is_value K (first f)) → ⊥)
  lone_parts f t = let r = and_both (eqb (kind f) 4) (not (is_value K (first f))) t in
      (eqb→eq (kind f) 4 r.0, T_not (is_value K (first f)) r.1)

  pub is_value_lem : (f : Fact) → f ∈ K → kind f ≡ 10 → T (is_value K (second f))
  is_value_lem f h e = in_any (λ g. eqb (kind g) 10 && eqb (second g) (second f)) h (both_and (eqb (kind f) 10)
      (eqb (second f) (second f)) ((tests_eq (kind f) 10).complete e) ((tests_eq (second f) (second f)).complete refl))

  pub value_is : (n : ℕ) → T (is_value K n) → (f : Fact) × (f ∈ K) × (kind f ≡ 10) × (second f ≡ n)
  value_is n t =
      let r = any_in (λ g. eqb (kind g) 10 && eqb (second g) n) K t in
      let q = and_both (eqb (kind r.0) 10) (eqb (second r.0) n) r.2 in
      (r.0, r.1, eqb→eq (kind r.0) 10 q.0, eqb→eq (second r.0) n q.1)

  keep : (f : Fact) → f ∈ K → (T (is_lone K f) → ⊥) → f ∈ without_lone K
  keep f h n = filter_in (λ g. not (is_lone K g)) K h (not_T (is_lone K f) n)

  -- Facts of other kinds stay, and so do literals that are values.
  pub stays : {f : Fact} → f ∈ K → (kind f ≡ 4 → ⊥) → f ∈ without_lone K
  stays {f} h n = keep f h (λ t. n (lone_parts f t).0)

  pub value_stays : (n : ℕ) → lit n ∈ K → T (is_value K n) → lit n ∈ without_lone K
  value_stays n h v = keep (lit n) h (λ t. (lone_parts (lit n) t).1 v)

  pub left_in : (f : Fact) → f ∈ without_lone K → (f ∈ K) × (T (is_lone K f) → ⊥)
  left_in f h = let r = in_filter (λ g. not (is_lone K g)) K h in (r.0, T_not (is_lone K f) r.1)

  pub no_lone_same : any (is_lone K) K ≡ false → without_lone K ≡ K
  no_lone_same e =
      filter_all (λ f. not (is_lone K f)) K (λ f h. not_T (is_lone K f) (λ t. subst T e (in_any (is_lone K) h t)))

  -- Without its lone literals a consistent graph stays consistent: no rule asks for one.
  pub without_consistent : Consistent (graph K) → Consistent (graph (without_lone K))
  without_consistent c = part_lawful (graph K) (graph (without_lone K)) c (λ f h. (left_in f h).0) (record {
    d7 = λ x y h. let q = c.rule_7 x y (back h) in (stays q.0 (omega arith), stays q.1 (omega arith));
    d8 = λ x y h. let q = c.rule_8 x y (back h) in (stays q.0 (omega arith), stays q.1 (omega arith));
    d9 = λ x y h. let q = c.rule_9 x y (back h) in (stays q.0 (omega arith), stays q.1 (omega arith));
    d10 = λ x y h. let q = c.rule_10 x y (back h) in (stays q.0 (omega arith), λ n. stays (q.1 n) (omega arith));
    d11 = λ x y h. let q = c.rule_11 x y (back h) in (stays q.0 (omega arith), stays q.1 (omega arith));
    d12 = λ x y z h. let q = c.rule_12 x y z (back h) in (stays q.0 (omega arith), stays q.1 (omega arith));
    d13 = λ x h n. stays (c.rule_13 x (back h) n) (omega arith);
    d14 = λ x h. stays (c.rule_14 x (back h)) (omega arith);
    d18 = λ x y z h k. stays (c.rule_18 x y z (back h) (back k)) (omega arith);
    d20 = λ x y z h k. stays (c.rule_20 x y z (back h) (back k)) (omega arith);
    d22 = λ x y z w h k m n. stays (c.rule_22 x y z w (back h) (back k) (back m) n) (omega arith);
    d23 = λ x y z w h k m n o p. stays (c.rule_23 x y z w (back h) (back k) (back m) n o p) (omega arith);
    d24 = λ x y z w h k. stays (c.rule_24 x y z w (back h) (back k)) (omega arith);
    d25 = λ x y z w h n k. stays (c.rule_25 x y z w (back h) n (back k)) (omega arith);
    d26 = λ x y z h k. stays (c.rule_26 x y z (back h) (back k)) (omega arith);
    d27 = λ x y z w h k. stays (c.rule_27 x y z w (back h) (back k)) (omega arith);
    dh3 = λ x y z h k. value_stays y (c.rule_h3 x y z (back h) (back k)) (is_value_lem (pi x y z) (back k) refl);
    de1 = λ x h. stays (c.rule_e1 x (back h)) (omega arith);
  }) (record {
    e12 = λ x y z h. ⊎_elim (λ i. inl (stays i (omega arith)))
        (λ l. inr (value_stays y l (is_value_lem (pi x y z) (back h) refl))) (c.rule_12 x y z (back h)).2;
    e15 = λ x h. let q = c.rule_15 x (back h) in
        ((q.0.0, stays q.0.1 (omega arith)), (q.1.0, stays q.1.1 (omega arith)));
    eh1 = stays c.rule_h1 (omega arith);
  })
    where
      back : {f : Fact} → f ∈ without_lone K → f ∈ K
      back {f} h = (left_in f h).0

-- A consistent table.
module _ (t : List ℕ) (h : Table product t) where
  abbrev K : List Fact
  K = facts product t

  -- No literal is id 0, the class of all, nor the mark.
  literal_from : (f : Fact) → f ∈ K → kind f ≡ 10 → lit (second f) ∈ K → 2 ≤ second f
  literal_from f i e l =
      let zero : second f ≡ 0 → ⊥ =
      λ z. (h.consistent.rule_h2 0 (subst (λ n. lit n ∈ K) z l)).0 h.consistent.rule_h1 in
      let one : second f ≡ 1 → ⊥ =
      λ z. omega (arith, e, (fields product.top f (laid_allowed product t h.laid f i)).two_mark z) in
      omega (arith, zero, one)

  pub written_inside : (x : Line) → x ∈ lines_for K K → T (in_profile product.top x)
  written_inside x i =
      let r = in_lines K K x i in
      let f : Fact = r.0 in
      subst (λ y. T (in_profile product.top y)) (sym r.3) (parts_inside product.top (as_line K f) record {
        has_line_lem = r.2;
        may_be = laid_allowed product t h.laid f r.1;
        value = λ l. let q = literal_parts K f l in (q.0, literal_from f r.1 q.0 q.1);
      })

  pub written_whole : told_twice (lines_for K K) ≡ false
  written_whole = is_false (λ q. let p = told_twice_parts (lines_for K K) q in
      let x = in_lines K K p.iri p.iri_in in
      let y = in_lines K K p.other p.other_in in
      let value : kind x.0 ≡ 10 = sym (ap (λ z. kind z.fact) x.3) ∙ p.iri_value in
      let there-is : lit (second y.0) ∈ K = (literal_parts K y.0 (subst (λ z. T z.literal) y.3 p.other_is)).1 in
      let same : second y.0 ≡ second x.0 =
      sym (ap (λ z. second z.fact) y.3) ∙ (p.same_id ∙ ap (λ z. second z.fact) x.3) in
      p.iri_is (subst (λ z. T z.literal) (sym x.3) (parts_literal K x.0 value
      (subst (λ n. lit n ∈ K) same there-is))))

  given_left : concat_map given (lines_for K K) ⊆ without_lone K
  given_left g i =
      let r = gives (lines_for K K) g i in
      let x = in_lines K K r.0 r.1 in
      let same : r.0.fact ≡ x.0 = ap (λ z. z.fact) x.3 in
      elim r.2 [
        | own e ↦ subst (λ f. f ∈ without_lone K) (sym (e ∙ same)) (stays K x.1 (λ k. no_line x.0 x.2 (inr k)))
        | member c e ↦ subst (λ f. f ∈ without_lone K) (sym e) (stays K (h.consistent.rule_11 (first r.0.fact) 0
            (subst (λ f. f ∈ K) (sym same ∙ c) x.1)).0 (omega arith))
        | literal l e ↦ let q = literal_parts K x.0 (subst (λ z. T z.literal) x.3 l) in
            subst (λ f. f ∈ without_lone K) (sym (e ∙ ap (λ f. lit (second f)) same)) (value_stays K (second x.0) q.1
            (is_value_lem K x.0 x.1 q.0))
      ]

  left_given : without_lone K ⊆ concat_map given (lines_for K K)
  left_given f i = let r = left_in K f i in by_kind (ℕ_discrete (kind f) 3) (ℕ_discrete (kind f) 4) r.0 r.1
    where
      by_kind : Dec (kind f ≡ 3) → Dec (kind f ≡ 4) → f ∈ K → (T (is_lone K f) → ⊥) → f ∈ concat_map given (lines_for K K)
      by_kind (yes e) d k n =
          let is : f ≡ ind (first f) = of_kind_lem f 3 e in
          let c : ci (first f) 0 ∈ K = h.consistent.rule_14 (first f) (subst (λ g. g ∈ K) is k) in
          subst (λ g. g ∈ concat_map given (lines_for K K)) (sym is)
          (gives_member (lines_for K K) (as_line K (ci (first f) 0)) (lines_in K K (ci (first f) 0) c tt) (first f) refl)
      by_kind (no a) (yes e) k n =
          let is : f ≡ lit (first f) = of_kind_lem f 4 e in
          let v = value_is K (first f) (stands (is_value K (first f)) (λ b. n (both_and (eqb (kind f) 4)
          (not (is_value K (first f))) ((tests_eq (kind f) 4).complete e) b))) in
          let p : Fact = v.0 in
          let l : lit (second p) ∈ K = subst (λ g. g ∈ K) (is ∙ ap lit (sym v.3)) k in
          let here : T (has_line p) = line_has p (λ z. omega (arith, v.2, z)) (λ z. omega (arith, v.2, z)) in
          subst (λ g. g ∈ concat_map given (lines_for K K)) (sym (is ∙ ap lit (sym v.3)))
          (gives_literal (lines_for K K) (as_line K p) (lines_in K K p v.1 here) (parts_literal K p v.2 l))
      by_kind (no a) (no b) k n = gives_own (lines_for K K) (as_line K f) (lines_in K K f k (line_has f a b))

  -- The words of the facts that the lines give are those of the facts but for lone literals.
  pub given_written : words product (concat_map given (lines_for K K)) ≡ words product (without_lone K)
  given_written = words_same product (concat_map given (lines_for K K)) (without_lone K) given_left left_given

  -- The words of a table's facts are its words.
  pub table_words : words product K ≡ filled t
  table_words = laid_words product t h.laid
