use Rattle.std.proofs.Common.{◌≡◌, take}
use Rattle.engine.specs.Meaning.{with_trail}
use Rattle.trial.specs.Trying.{supposed}
use Rattle.trial.proofs.tries.suppose.Given as goal

abbrev pub invariant-loop-literal : goal.invariant-loop-literal
invariant-loop-literal g l = g.E.Engine.meaning l.engine ≡ with_trail (supposed (take l.literal-index l.literals)) (g.E.Engine.meaning l.initial.engine)
