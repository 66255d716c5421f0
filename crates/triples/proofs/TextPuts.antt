-- The words that are stored for a text are the words of the facts that it gives. Assumes nothing.
use Prim.Native.Nat.{ℕ}
use mathlib.Core.Path.{◌≡◌, sym, ap, subst, ◌∙◌}
use mathlib.Core.Bool.{Bool}
use mathlib.Core.Logic.{⊎_elim}
use mathlib.Core.List.{List, [], ◌++◌, map}
use lib.Dec.{T, eqb, eqb_refl}
use Rattle.rdfs.specs.Numbers.{product}
use Rattle.rdfs.specs.Lists.{◌∈◌, filter, concat_map, any}
use Rattle.rdfs.specs.Facts.{Fact, ind, lit, ci, first, second}
use Rattle.rdfs.specs.Words.{word}
use Rattle.rdfs.proofs.Lists.Tests.{both_and}
use Rattle.rdfs.proofs.Lists.ListLaws.{in_append_left, in_append_right, in_append, any_in, in_any, in_filter, filter_in}
use Rattle.rdfs.proofs.Lists.ListLaws.{in_map, map_in}
use Rattle.table.specs.Parts.{word_of}
use Rattle.flags.specs.Flags.{flagged, Says}
use Rattle.triple_form.specs.Lines.{Line}
use Rattle.triples.specs.TextRead.{lines_read, as_literal, is_member, given, text_words}
use Rattle.triples.specs.Storing.{put_all, ids, flagged_from, line_words, text_puts}
use Rattle.triples.proofs.Given.{own, member, literal, gives, gives_own, gives_literal, gives_member}
use Rattle.triples.proofs.Given.{member_fact, fact_member}
use Rattle.triples.proofs.LinesRead.{top}
use Rattle.triples.proofs.PutAll.{put_all_sorts}
use Rattle.triples.proofs.Ids.{id_in_lem}
use Rattle.triples.proofs.LineIds.{first_id, second_id, literal_is}

-- The words of the flagged ids.
module _ (k : ℕ) (flags : List Bool) where
  in_flagged : {z : ℕ} → z ∈ flagged_from k flags ids → (n : ℕ) × T (flagged flags n) × (z ≡ word_of k n 0 0)
  in_flagged h =
      let r = in_map (λ n. word_of k n 0 0) (filter (flagged flags) ids) h in
      (r.0, (in_filter (flagged flags) ids r.1).1, r.2)

  flagged_in : {n : ℕ} → n ∈ ids → T (flagged flags n) → word_of k n 0 0 ∈ flagged_from k flags ids
  flagged_in m t = map_in (λ n. word_of k n 0 0) (filter_in (flagged flags) ids m t)

module _ (text : List ℕ) {members literals : List Bool} (p : Says members (λ n. any (is_member n) (lines_read top text)))
    (q : Says literals (λ n. any (as_literal n) (lines_read top text))) where
  abbrev lines : List Line
  lines = lines_read top text

  abbrev W : Fact → ℕ
  W = word product.base

  abbrev all : List Fact
  all = concat_map given lines

  -- Each stored word is a given fact's.
  from_members : (z : ℕ) → z ∈ flagged_from 3 members ids → z ∈ map W all
  from_members z h =
      let r = in_flagged 3 members h in
      let s = any_in (is_member r.0) lines (subst T (p.at r.0) r.1) in
      subst (λ w. w ∈ map W all) (sym r.2)
      (map_in W (gives_member lines s.0 s.1 r.0 (member_fact s.0 r.0 s.2)))

  from_literals : (z : ℕ) → z ∈ flagged_from 4 literals ids → z ∈ map W all
  from_literals z h =
      let r = in_flagged 4 literals h in
      let s = any_in (as_literal r.0) lines (subst T (q.at r.0) r.1) in
      let l = literal_is r.0 s.0 s.2 in
      subst (λ w. w ∈ map W all) (ap (λ n. W (lit n)) l.1 ∙ sym r.2)
      (map_in W (gives_literal lines s.0 s.1 l.0))

  from_lines : (z : ℕ) → z ∈ line_words text → z ∈ map W all
  from_lines z h =
      let r = in_map (λ x. W x.fact) lines h in
      subst (λ w. w ∈ map W all) (sym r.2) (map_in W (gives_own lines r.0 r.1))

  stored_given : (z : ℕ) → z ∈ text_puts members literals text → z ∈ map W all
  stored_given z h = ⊎_elim (from_members z) (λ k. ⊎_elim (from_literals z) (from_lines z)
      (in_append (flagged_from 4 literals ids) k)) (in_append (flagged_from 3 members ids) h)

  -- Each given fact's word is stored.
  member_stored : (x : Line) → x ∈ lines_read top text → x.fact ≡ ci (first x.fact) 0
      → W (ind (first x.fact)) ∈ text_puts members literals text
  member_stored x m c =
      let n : ℕ = first x.fact in
      let t : T (flagged members n) = subst T (sym (p.at n)) (in_any (is_member n) m (fact_member x n c)) in
      in_append_left (flagged_from 4 literals ids ++ line_words text) (flagged_in 3 members (id_in_lem n (first_id text m)) t)

  literal_stored : (x : Line) → x ∈ lines_read top text → T x.literal
      → W (lit (second x.fact)) ∈ text_puts members literals text
  literal_stored x m l =
      let n : ℕ = second x.fact in
      let t : T (flagged literals n) =
      subst T (sym (q.at n)) (in_any (as_literal n) m (both_and x.literal (eqb n n) l (eqb_refl n))) in
      in_append_right (flagged_from 3 members ids) (in_append_left (line_words text)
      (flagged_in 4 literals (id_in_lem n (second_id text m)) t))

  given_stored : (z : ℕ) → z ∈ map W all → z ∈ text_puts members literals text
  given_stored z h =
      let r = in_map W all h in
      let s = gives lines r.0 r.1 in
      subst (λ w. w ∈ text_puts members literals text) (sym r.2) (elim s.2 [
        | own e ↦ in_append_right (flagged_from 3 members ids) (in_append_right (flagged_from 4 literals ids)
            (subst (λ f. W f ∈ line_words text) (sym e) (map_in (λ y. W y.fact) s.1)))
        | member c e ↦ subst (λ f. W f ∈ text_puts members literals text) (sym e) (member_stored s.0 s.1 c)
        | literal l e ↦ subst (λ f. W f ∈ text_puts members literals text) (sym e) (literal_stored s.0 s.1 l)
      ])

  pub puts_words : put_all (text_puts members literals text) [] ≡ text_words product text
  unfolding text_words
  puts_words = put_all_sorts (text_puts members literals text) (map W all) stored_given given_stored
