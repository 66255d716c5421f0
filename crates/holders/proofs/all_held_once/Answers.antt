-- `all_held_once` meets its contract: all links and stamps are 0 at first. Assumes nothing.
use native.Mathlib.Omega.{arith}
use Rattle.spans.specs.Spans.{id_count}
use Rattle.spans.proofs.Entered.{zeros_at}
use Rattle.holders.specs.Links.{latest_at}
use Rattle.holders.proofs.all_held_once.Goals as goal

pub link_values-requires-clause-none : goal.link_values-requires-clause-none
link_values-requires-clause-none c = λ z. zeros_at (latest_at id_count) (latest_at z)

pub each_held_once-requires-clause-zeros : goal.each_held_once-requires-clause-zeros
each_held_once-requires-clause-zeros c = λ y. omega (arith, zeros_at id_count y)
