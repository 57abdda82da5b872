use Rattle.std.proofs.Common.{◌-◌, length}
use Rattle.engine.specs.Trails.{entries_of}
use Rattle.trial.proofs.Asking.{Asked}
use Rattle.trial.proofs.tries.ask.Given as goal

abbrev pub invariant-loop-number : goal.invariant-loop-number
invariant-loop-number g l = Asked (g.E.Engine.meaning l.initial.engine) (entries_of l.answers) (g.E.Engine.meaning l.engine)

abbrev pub decreases-loop-number : goal.decreases-loop-number
decreases-loop-number g l = 512 - length (entries_of l.answers)
