-- `line::read_line`, by what its three terms, its end and its fact are read as. Assumes nothing.
use Rattle.terms.proofs.Fronts.{stripped}
use Rattle.terms.specs.Terms.{bytes}
use Rattle.triple_form.proofs.LineReading.{
  no_line_first,
  no_line_second,
  no_line_third,
  no_line_end,
  no_line_fact,
  line_read,
  unstripped,
}
use Rattle.triple_form.proofs.line.read_line.Goals as goal

pub returns-in_err-subject : goal.returns-in_err-subject
returns-in_err-subject c =
    rw c.from_residual.ensures (record { answer = no_line_first c.in_err-subject.ensures.answer })

pub returns-in_err-predicate : goal.returns-in_err-predicate
returns-in_err-predicate c =
    rw c.from_residual-in_err-predicate.ensures
    (record { answer = no_line_second c.in_ok-subject.ensures.answer c.in_err-predicate.ensures.answer })

pub returns-in_err-object : goal.returns-in_err-object
returns-in_err-object c =
    rw c.from_residual-in_err-object.ensures
    (record {
      answer = no_line_third c.in_ok-subject.ensures.answer c.in_ok-predicate.ensures.answer c.in_err-object.ensures.answer;
    })

pub returns-in_err-rest : goal.returns-in_err-rest
returns-in_err-rest c =
    rw c.from_residual-in_err-rest.ensures
    (record {
      answer = no_line_end c.in_ok-subject.ensures.answer c.in_ok-predicate.ensures.answer c.in_ok-object.ensures.answer
          (unstripped c.in_ok-object.last.now (bytes ".\n") c.in_err-rest.ensures.cases);
    })

pub returns-in_err-told : goal.returns-in_err-told
returns-in_err-told c =
    rw c.from_residual-in_err-told.ensures
    (record {
      answer = no_line_fact c.in_ok-subject.ensures.answer c.in_ok-predicate.ensures.answer c.in_ok-object.ensures.answer
          c.in_err-told.ensures.answer;
    })

pub returns : goal.returns
returns c =
    record {
      answer = line_read c.in_ok-subject.ensures.answer c.in_ok-predicate.ensures.answer c.in_ok-object.ensures.answer
          (stripped c.in_ok-object.last.now (bytes ".\n") c.in_ok-rest.rest c.in_ok-rest.ensures.cases)
          c.in_ok-told.ensures.answer;
    }
