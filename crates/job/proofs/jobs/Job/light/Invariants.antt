use Rattle.std.proofs.Common.{◌-◌}
use Rattle.job.specs.Seen.{view}
use Rattle.job.specs.CheckFrame.{Lit}
use Rattle.job.proofs.jobs.Job.light.Given as goal

abbrev pub invariant-loop-n : goal.invariant-loop-n
invariant-loop-n g l = Lit (view l.self) (g.E.Engine.meaning l.initial.engine) (l.n - 1) (g.E.Engine.meaning l.engine)
