use Rattle.std.proofs.Common.{◌≡◌, ◌-◌, take}
use Rattle.job.specs.View.{texts}
use Rattle.job.specs.Seen.{view}
use Rattle.job.specs.CheckFrame.{filled}
use Rattle.job.proofs.jobs.Job.fill.Given as goal

abbrev pub invariant-loop-n : goal.invariant-loop-n
invariant-loop-n g l = g.E.Engine.meaning l.engine ≡ filled (take (l.n - 1) (texts (view l.self))) (g.E.Engine.meaning l.initial.engine)
