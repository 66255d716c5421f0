-- Lines that tell of one id as an IRI and as a literal: an id is flagged as both. Assumes nothing.
use Prim.Native.Nat.{ℕ}
use mathlib.Core.Path.{◌≡◌, sym, subst}
use mathlib.Core.Bool.{Bool}
use mathlib.Core.List.{List}
use lib.Dec.{T}
use Rattle.rdfs.specs.Lists.{any}
use Rattle.rdfs.specs.Facts.{second}
use Rattle.rdfs.proofs.Lists.Tests.{and_both, both_and, tests_agree, tests_as, tests_self}
use Rattle.rdfs.proofs.Lists.ListLaws.{any_in, in_any}
use Rattle.flags.specs.Flags.{flagged, Says}
use Rattle.triple_form.specs.Lines.{Line}
use Rattle.triples.specs.TextRead.{lines_read, as_literal, as_iri, told_twice}
use Rattle.triples.specs.Storing.{ids, common}
use Rattle.triples.proofs.LinesRead.{top}
use Rattle.triples.proofs.Given.{told_twice_by}
use Rattle.triples.proofs.Ids.{id_in_lem}
use Rattle.triples.proofs.LineIds.{iri_is, second_id}

module _ (text : List ℕ) {literals values : List Bool} (a : Says literals (λ n. any (as_literal n) (lines_read top text)))
    (b : Says values (λ n. any (as_iri n) (lines_read top text))) where
  abbrev lines : List Line
  lines = lines_read top text

  forth : T (any (common literals values) ids) → T (told_twice (lines_read top text))
  forth t =
      let r = any_in (common literals values) ids t in
      let n : ℕ = r.0 in
      let p = and_both (flagged literals n) (flagged values n) r.2 in
      let s = any_in (as_iri n) lines (subst T (b.at n) p.1) in
      let x : Line = s.0 in
      let e : n ≡ second x.fact = sym (iri_is n x s.2) in
      in_any (told_twice_by lines) s.1 (both_and (as_iri (second x.fact) x) (any (as_literal (second x.fact)) lines)
      (subst (λ m. T (as_iri m x)) e s.2) (subst (λ m. T (any (as_literal m) lines)) e (subst T (a.at n) p.0)))

  back : T (told_twice (lines_read top text)) → T (any (common literals values) ids)
  back t =
      let r = any_in (told_twice_by lines) lines t in
      let x : Line = r.0 in
      let n : ℕ = second x.fact in
      let p = and_both (as_iri n x) (any (as_literal n) lines) r.2 in
      in_any (common literals values) (id_in_lem n (second_id text r.1)) (both_and (flagged literals n) (flagged values n)
      (subst T (sym (a.at n)) p.1) (subst T (sym (b.at n)) (in_any (as_iri n) r.1 p.0)))

  pub told_twice_common : any (common literals values) ids ≡ told_twice (lines_read top text)
  told_twice_common = tests_agree (tests_self (any (common literals values) ids))
      (tests_as (tests_self (told_twice lines)) back forth)
