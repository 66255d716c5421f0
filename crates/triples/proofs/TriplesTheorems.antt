-- What is proved of texts, in one place. Assumes nothing.
use Prim.Native.Nat.{ℕ, ◌*◌, ◌≤◌}
use mathlib.Core.Path.{◌≡◌, sym, ap, subst, ◌∙◌}
use mathlib.Core.Bool.{false, not, ◌||◌}
use mathlib.Core.List.{List, map}
use native.Mathlib.Omega.{arith}
use lib.Dec.{T, ltb, leb}
use lib.ListN.{length, length-map}
use Rattle.rdfs.specs.Numbers.{product}
use Rattle.rdfs.specs.Lists.{◌∈◌, ◌⊆◌, filter, concat_map}
use Rattle.rdfs.specs.Facts.{Fact}
use Rattle.rdfs.specs.Words.{fact, allowed, filled, facts, words, padded}
use Rattle.rdfs.specs.Refusals.{bad_size, inconsistent}
use Rattle.rdfs.specs.Register.{Table}
use Rattle.rdfs.proofs.Lists.ListLaws.{in_map}
use Rattle.rdfs.proofs.Lists.Filters.{filter_split}
use Rattle.rdfs.proofs.Words.LaidOut.{laid_shape, laid_allowed}
use Rattle.rdfs.proofs.Words.Tables.{words_same, padded_length, facts_padded}
use Rattle.rdfs.proofs.Tickets.Steps.{table_sane}
use Rattle.rdfs.proofs.Theorems.{product_sound}
use Rattle.table.proofs.TestAnswers.{is_true, is_false}
use Rattle.table.proofs.Filled.{filled_within}
use Rattle.triple_form.specs.Lines.{Line, has_line, line_of, in_profile}
use Rattle.triples.specs.Texts.{as_line, lines_for, text_of}
use Rattle.triples.specs.TextRead.{cut_after, lines_read, all_inside, told_twice, outside_profile, given, text_words}
use Rattle.triples.specs.Lone.{without_lone, ReadsAs}
use Rattle.triples.specs.ReadTriples.{read_triples_answer, read_triples_words}
use Rattle.triples.proofs.Given.{told_twice_sub}
use Rattle.triples.proofs.Written.{written_inside, written_whole, given_written, table_words, no_lone_same}
use Rattle.triples.proofs.Written.{without_consistent, left_in}
use Rattle.triples.proofs.ReadFacts.{given_allowed, read_no_lone, read_lines, lines_read_lem}
use Rattle.triples.proofs.ReadAnswer.{Readable, readable, readable_answer, read_holds, size_parts}
use Rattle.triples.proofs.ReadAnswer.{filled_rules, held_table, held_consistent}
use Rattle.triples.proofs.LinesRead.{read_profile}
use Rattle.triples.proofs.AllInside.{inside_cut, inside_lines, inside_by_lines}
use Rattle.triples.proofs.TextLines.{EachInside, map_sub, given_sub, passed, lines_sub, short_lines}
use Rattle.triples.proofs.TextLines.{text_lines, text_inside, text_cut}

-- Every line of a text is inside the profile exactly if each run of bytes up to a newline is the line of a fact that a table can
-- have.
pub profile_sound : (text : List ℕ) → T (all_inside product.top text) → (l : List ℕ) → l ∈ cut_after 10 text
    → (x : Line) × T (in_profile product.top x) × (line_of x ≡ l)
profile_sound = inside_lines

pub profile_complete : (text : List ℕ)
    → ((l : List ℕ) → l ∈ cut_after 10 text → (x : Line) × T (in_profile product.top x) × (line_of x ≡ l))
    → T (all_inside product.top text)
profile_complete = inside_by_lines

-- The text of a consistent table.
module _ (t : List ℕ) (h : Table product t) where
  abbrev K : List Fact
  K = facts product t

  -- It is inside the profile.
  pub text_in_profile : outside_profile product.top (text_of K) ≡ false
  text_in_profile = ap (λ b. not b || told_twice (lines_read product.top (text_of K))) (text_inside t h)
      ∙ (ap told_twice (text_lines t h) ∙ written_whole t h)

  -- It gives the table's facts but for lone literals.
  pub text_words_lem : text_words product (text_of K) ≡ words product (without_lone K)
  unfolding text_words
  text_words_lem = ap (λ L. words product (concat_map given L)) (text_lines t h) ∙ given_written t h

  -- It has at most 154 bytes for each fact.
  pub text_short : length (text_of K) ≤ 154 * length (filled t)
  unfolding text_of
  text_short = omega (
    arith,
    short_lines (lines_for K K) (written_inside t h),
    length-map (filter has_line K) (as_line K),
    filter_split has_line K,
    length-map (filled t) (fact product.base),
  )

  -- It is read into any table that has room, as those facts.
  pub text_reads : (u : List ℕ) → bad_size product u ≡ false → length (words product (without_lone K)) ≤ length u
      → (read_triples_answer u (text_of K) ≡ 0)
      × (read_triples_words u (text_of K) ≡ padded (length u) (words product (without_lone K)))
  text_reads u size room =
      let may : (f : Fact) → f ∈ without_lone K → T (allowed product.top f) =
      λ f i. laid_allowed product t h.laid f (left_in K f i).0 in
      let none : read_triples_answer u (text_of K) ≡ 0 = readable_answer u (text_of K) record {
        size = size;
        inside = text_in_profile;
        fits = subst (λ l. length l ≤ length u) (sym text_words_lem) room;
        rules = ap (inconsistent product) text_words_lem
            ∙ held_consistent (without_lone K) may (length u) (without_consistent K h.consistent);
      } in
      (none, read_holds u (text_of K) none ∙ ap (padded (length u)) text_words_lem)

-- A text that is read, and the table read.
module _ (u text : List ℕ) where
  abbrev L : List Line
  L = lines_read product.top text

  abbrev G : List Fact
  G = concat_map given L

  abbrev held : List ℕ
  held = padded (length u) (words product G)

  sound_held : Readable u text → ReadsAs u text held
  unfolding text_words
  sound_held p =
      let within : EachInside L = read_profile text in
      let inside : T (all_inside product.top text) = (passed (all_inside product.top text) (told_twice L) p.inside).0 in
      let whole : told_twice L ≡ false = (passed (all_inside product.top text) (told_twice L) p.inside).1 in
      let size = size_parts u p.size in
      let table : Table product held =
      held_table G (given_allowed L within) (length u) size.0 size.1 p.fits p.rules in
      let F : List Fact = facts product held in
      let f = facts_padded product product_sound (length u) G (given_allowed L within) in
      let cut : cut_after 10 text ≡ map line_of L = inside_cut text inside in
      let again : cut_after 10 (text_of F) ≡ map line_of (lines_for F F) = text_cut held table in
      record {
        table = table;
        size = padded_length (length u) (words product G) p.fits;
        no_lone = read_no_lone L within whole F f.0 f.1;
        only = subst (λ m. cut_after 10 text ⊆ m) (sym again) (subst (λ m. m ⊆ map line_of (lines_for F F)) (sym cut)
            (map_sub L (lines_for F F) (read_lines L within whole F f.0 f.1)));
        each = subst (λ m. cut_after 10 (text_of F) ⊆ m) (sym cut) (subst (λ m. m ⊆ map line_of L) (sym again)
            (map_sub (lines_for F F) L (lines_read_lem L within whole F f.0 f.1)));
      }

  -- A text that is read is read as a consistent table whose text has its lines.
  pub reads_as_sound : read_triples_answer u text ≡ 0 → ReadsAs u text (read_triples_words u text)
  unfolding text_words
  reads_as_sound e = subst (ReadsAs u text) (sym (read_holds u text e)) (sound_held (readable u text e))

  module _ (t : List ℕ) (p : ReadsAs u text t) where
    abbrev M : List Line
    M = lines_for (facts product t) (facts product t)

    cut_again : cut_after 10 (text_of (facts product t)) ≡ map line_of M
    cut_again = text_cut t p.table

    all_inside_lem : T (all_inside product.top text)
    all_inside_lem = inside_by_lines text (λ l i.
        let r = in_map line_of M (subst (λ m. l ∈ m) cut_again (p.only l i)) in
        (r.0, written_inside t p.table r.0 r.1, sym r.2))

    cut : cut_after 10 text ≡ map line_of L
    cut = inside_cut text all_inside_lem

    -- Its lines are the lines of the table's text.
    forth : L ⊆ M
    forth = lines_sub L M (read_profile text) (written_inside t p.table) (λ l i.
        subst (λ m. l ∈ m) cut_again (p.only l (subst (λ m. l ∈ m) (sym cut) i)))

    back : M ⊆ L
    back = lines_sub M L (written_inside t p.table) (read_profile text) (λ l i.
        subst (λ m. l ∈ m) cut (p.each l (subst (λ m. l ∈ m) (sym cut_again) i)))

    same_words : text_words product text ≡ filled t
    unfolding text_words
    same_words = words_same product G (concat_map given M) (given_sub L M forth) (given_sub M L back)
        ∙ (given_written t p.table ∙ (ap (words product) (no_lone_same (facts product t) p.no_lone)
        ∙ table_words t p.table))

    -- And a text with the lines of a consistent table's text is read as that table.
    pub reads_as_complete : (read_triples_answer u text ≡ 0) × (read_triples_words u text ≡ t)
    reads_as_complete =
        let table : Table product t = p.table in
        let sane = table_sane product t table in
        let whole : told_twice L ≡ false = is_false (λ q. subst T (written_whole t table) (told_twice_sub L M forth q)) in
        let room : length (filled t) ≤ length u =
        subst (λ n. length (filled t) ≤ n) p.size (filled_within product t table.laid) in
        let none : read_triples_answer u text ≡ 0 = readable_answer u text record {
          size = ap (λ n. leb n 0 || ltb product.most n) (sym p.size) ∙ is_false sane.size;
          inside = ap (λ b. not b || told_twice L) (is_true {b = all_inside product.top text} all_inside_lem) ∙ whole;
          fits = subst (λ l. length l ≤ length u) (sym same_words) room;
          rules = filled_rules (text_words product text) t same_words ∙ is_false sane.rules;
        } in (
          none,
          read_holds u text none ∙ (ap (padded (length u)) same_words ∙ (ap (λ n. padded n (filled t)) (sym p.size)
              ∙ sym (laid_shape product t table.laid))),
        )
