use Rattle.job.specs.Seen.{view, SameLent}
use Rattle.job.proofs.CheckOnward.{Going}
use Rattle.job.proofs.jobs.Job.walk.Given as goal

abbrev pub invariant-loop-i : goal.invariant-loop-i
invariant-loop-i g l =
    SameLent l.initial.self l.self
    × Going (view l.initial.self) l.i (view l.self) (g.E.Engine.meaning l.engine) l.tally
