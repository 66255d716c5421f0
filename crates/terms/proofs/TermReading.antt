-- A term read at the start of some bytes, for rdfs_at and read_term. Assumes nothing.
use Prim.Native.Nat.{ℕ}
use mathlib.Core.Path.{◌≡◌, sym, ap, subst, ◌∙◌}
use mathlib.Core.List.{List, ◌++◌, append_assoc}
use Rattle.std.proofs.Common.{Bor, Option, MatchOption}
use Rattle.rdfs.specs.Numbers.{product}
use Rattle.terms.specs.Terms.{bytes, spelt, Proper}
use Rattle.terms.specs.TermRead.{TermRead, NoTerm}
use Rattle.terms.specs.declared.term.Term.{Term}
use Rattle.terms.proofs.Spelling.{spelt_one}

-- What stands in front of the local names.
abbrev pub rdf_front : List ℕ
rdf_front = bytes "<http://www.w3.org/1999/02/22-rdf-syntax-ns#"

abbrev pub rdfs_front : List ℕ
rdfs_front = bytes "<http://www.w3.org/2000/01/rdf-schema#"

-- A term that is there is the only one.
pub term_read : (l : List ℕ) (t : Term) (left : List ℕ) → Proper product.top t → l ≡ spelt t ++ left → TermRead l t left
term_read l t left p e = record {
  sound = (p, e);
  complete = λ u rest q g. spelt_one t u left rest p q (sym e ∙ g);
}

-- Behind a front a name is there.
pub named_read : (front name : List ℕ) {l left : List ℕ} (t : Term) → Proper product.top t → spelt t ≡ front ++ name
    → l ≡ name ++ left → TermRead (front ++ l) t left
named_read front name {l} {left} t p e b = term_read (front ++ l) t left p (ap (λ m. front ++ m) b
    ∙ (sym (append_assoc front name left) ∙ ap (λ m. m ++ left) (sym e)))

-- What is read behind a front.
pub front_read : {l m : List ℕ} → l ≡ m → (r : Option (Term × Bor (List ℕ))) → MatchOption r (NoTerm m)
    (λ read. TermRead m read.0 read.1.now) → MatchOption r (NoTerm l) (λ read. TermRead l read.0 read.1.now)
front_read e r h = subst (λ k. MatchOption r (NoTerm k) (λ read. TermRead k read.0 read.1.now)) (sym e) h
