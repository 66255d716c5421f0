-- `put_ended`: a term, and a blank behind it. Assumes nothing.
use Rattle.terms.specs.Terms.{bytes, spelt}
use Rattle.terms.proofs.Putting.{puts_behind}
use Rattle.terms.proofs.put.put_ended.Goals as goal

pub returns : goal.returns
returns c =
    record {
      bytes = rw c.in-Some.is (puts_behind (spelt c.in-Some.term) (bytes " ") (rw c.in-Some.is at c.requires.room)
          c.put_term-last.ensures.bytes c.put_piece-2.ensures.bytes);
    }
