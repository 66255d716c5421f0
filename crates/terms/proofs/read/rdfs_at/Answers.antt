-- `rdfs_at`: a name of RDF Schema is there, or none. Assumes nothing.
use mathlib.Core.Path.{refl}
use native.Mathlib.Omega.{arith}
use Rattle.terms.specs.Terms.{bytes}
use Rattle.terms.specs.declared.term.Term.TheVariants.{Id, SubPropertyOf, Domain, Range}
use Rattle.terms.proofs.Fronts.{stripped}
use Rattle.terms.proofs.TermReading.{rdfs_front, named_read}
use Rattle.terms.proofs.read.rdfs_at.Goals as goal

pub returns-in-Some-strip_prefix-3 : goal.returns-in-Some-strip_prefix-3
returns-in-Some-strip_prefix-3 c =
    record {
      answer = named_read rdfs_front (bytes "subPropertyOf>") SubPropertyOf tt refl (stripped c.args.text.now
          (bytes "subPropertyOf>") c.in-Some-strip_prefix-3.rest c.in-Some-strip_prefix-3.ensures.cases);
    }

pub returns-in-Some-strip_prefix-4 : goal.returns-in-Some-strip_prefix-4
returns-in-Some-strip_prefix-4 c =
    record {
      answer = named_read rdfs_front (bytes "domain>") Domain tt refl (stripped c.args.text.now
          (bytes "domain>") c.in-Some-strip_prefix-4.rest c.in-Some-strip_prefix-4.ensures.cases);
    }

pub returns-in-Some-strip_prefix-5 : goal.returns-in-Some-strip_prefix-5
returns-in-Some-strip_prefix-5 c =
    record {
      answer = named_read rdfs_front (bytes "range>") Range tt refl (stripped c.args.text.now
          (bytes "range>") c.in-Some-strip_prefix-5.rest c.in-Some-strip_prefix-5.ensures.cases);
    }

pub returns-in-Some-strip_prefix-6 : goal.returns-in-Some-strip_prefix-6
returns-in-Some-strip_prefix-6 c =
    record {
      answer = named_read rdfs_front (bytes "Literal>") (Id 1) (omega arith) refl (stripped c.args.text.now
          (bytes "Literal>") c.in-Some-strip_prefix-6.rest c.in-Some-strip_prefix-6.ensures.cases);
    }
