use Rattle.std.proofs.Common.{arith}
use Rattle.print_facts.proofs.Gathering.{gathered_start, gathered_zero, gathered_more, gathered_same, gathered_done}
use Rattle.print_facts.proofs.lines.put_lines.Goals as goal
use Rattle.print_facts.proofs.lines.put_lines.Goals.{then-word-ne0, else-word-ne0}

pub loop-word-init : goal.loop-word-init
loop-word-init c = gathered_start c.args.table.now c.args.out.now

pub put_line-at-requires : goal.put_line-at-requires
put_line-at-requires c =
    let loop = c.loop-word in
    record { room = omega (arith, c.loop-word-test.true, loop.auto.out, loop.invariant.short, c.requires.room) }

pub loop-word-preserved : goal.loop-word-preserved
loop-word-preserved c = elim c.if-word-ne0.branch [
  | then-word-ne0 w ↦
      gathered_same c.args.table.now w.out-is w.at-is
      (gathered_more c.args.table.now c.loop-word.invariant c.loop-word-test.true w.if-word-ne0.true
      (w.put_line-at.ensures.bound, w.put_line-at.ensures.text))
  | else-word-ne0 w ↦
      gathered_same c.args.table.now w.out-is w.at-is
      (gathered_zero c.args.table.now c.loop-word.invariant c.loop-word-test.true w.if-word-ne0.false)
]

pub returns : goal.returns
returns c =
    let loop = c.loop-word in record {
      printed = gathered_done c.args.table.now loop.invariant loop.auto.word-index-end c.loop-word-test.false
          (omega (arith, loop.auto.out, c.requires.room));
    }
