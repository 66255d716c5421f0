-- `read_term`: a front is there and a term behind it, or none. Assumes nothing.
use Rattle.terms.proofs.Fronts.{stripped}
use Rattle.terms.proofs.TermReading.{rdf_front, rdfs_front, front_read}
use Rattle.terms.proofs.read.read_term.Goals as goal

pub returns-in-Some-strip_prefix : goal.returns-in-Some-strip_prefix
returns-in-Some-strip_prefix c =
    record {
      answer = front_read (stripped c.args.text.now rdfs_front c.in-Some-strip_prefix.name
          c.in-Some-strip_prefix.ensures.cases) _ c.rdfs_at.ensures.answer;
    }

pub returns-in-Some-strip_prefix-2 : goal.returns-in-Some-strip_prefix-2
returns-in-Some-strip_prefix-2 c =
    record {
      answer = front_read (stripped c.args.text.now rdf_front c.in-Some-strip_prefix-2.name
          c.in-Some-strip_prefix-2.ensures.cases) _ c.rdf_at.ensures.answer;
    }
