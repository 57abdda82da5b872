use Rattle.std.proofs.Common.{◌-◌}
use Rattle.job.specs.CheckFrame.{Dark}
use Rattle.job.proofs.jobs.Job.darken.Given as goal

abbrev pub invariant-loop-n : goal.invariant-loop-n
invariant-loop-n g l = Dark l.self.clauses (g.E.Engine.meaning l.initial.engine) (l.n - 1) (g.E.Engine.meaning l.engine)
