use native.Mathlib.Omega.{arith}
use Rattle.spans.proofs.Decided.{decides_eqb}
use Rattle.spans.proofs.Covering.{among_none, among_more, among_here, among_end}
use Rattle.spans.proofs.Spans.is_among.Goals as goal

pub loop-next-init : goal.loop-next-init
loop-next-init c =
    let W = rw c.span_of.ensures.answer at c.from_span-words.ensures.words in
    (W, among_none c.args.self.now.indexed.words _ W 0 c.requires.id (omega arith))

pub returns-then-word-next : goal.returns-then-word-next
returns-then-word-next c =
    record {
      answer = among_here c.args.self.now.indexed.words _ c.loop-next.invariant.0 _ (omega arith) c.if-word-next.true
          (c.loop-next.invariant.1 (omega arith)) _ (decides_eqb _ c.args.word);
    }

pub loop-next-preserved : goal.loop-next-preserved
loop-next-preserved c =
    (c.loop-next.invariant.0, λ h. among_more c.args.self.now.indexed.words _ c.loop-next.invariant.0 _ (omega arith) c.if-word-next.false)

pub returns : goal.returns
returns c =
    record {
      answer = among_end c.args.self.now.indexed.words _ c.loop-next.invariant.0 _ (omega arith) c.loop-next.invariant.1;
    }
