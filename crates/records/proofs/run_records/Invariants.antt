-- `run_records`: the invariant is `RecordWalk`, that the tickets so far are run. Assumes nothing.
use Rattle.std.proofs.Common.{drop}
use Rattle.records.proofs.RecordWalk.{RecordWalk}
use Rattle.records.proofs.run_records.Given as goal

abbrev pub invariant-loop-place : goal.invariant-loop-place
invariant-loop-place l =
    RecordWalk l.initial.table l.initial.answers l.tickets (drop l.place l.tickets) l.place l.accepted l.table l.answers
