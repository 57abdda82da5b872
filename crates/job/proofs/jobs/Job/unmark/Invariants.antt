use Rattle.std.proofs.Common.{◌≡◌}
use Rattle.job.specs.CheckLists.{unmarked}
use Rattle.job.proofs.jobs.Job.unmark.Given as goal

abbrev pub invariant-loop-row : goal.invariant-loop-row
invariant-loop-row l = l.row-items ≡ unmarked l.row-index l.initial.row-items
