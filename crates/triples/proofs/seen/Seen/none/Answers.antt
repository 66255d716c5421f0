-- `Seen::none`: flags that are all false. Assumes nothing.
use Rattle.flags.proofs.Added.{says_none}
use Rattle.triples.proofs.seen.Seen.none.Goals as goal

pub returns-clause-literals : goal.returns-clause-literals
returns-clause-literals c = says_none 256

pub returns-clause-values : goal.returns-clause-values
returns-clause-values c = says_none 256

pub returns-clause-members : goal.returns-clause-members
returns-clause-members c = says_none 256
