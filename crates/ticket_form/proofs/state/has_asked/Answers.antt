-- `state::has_asked`: the one fact of an insertion that makes no property. Assumes nothing.
use borrow.Author.Rules.{rules}
use borrow.Author.Tests.{ne_eqb}
use Rattle.ticket_form.proofs.Formed.{formed_ids, formed_shaped}
use Rattle.ticket_form.proofs.state.has_asked.Goals as goal

pub has_fact-requires-clause-fact : goal.has_fact-requires-clause-fact
has_fact-requires-clause-fact c =
    let ids = formed_ids 1 c.args.k c.args.a c.args.b c.args.c c.requires.asked.formed in
    let shaped =
    formed_shaped 1 c.args.k c.args.a c.args.b c.args.c c.requires.asked.formed (ne_eqb _ _ c.if-k-eq-PROPERTY.false) in
    search rules
