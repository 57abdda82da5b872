use Rattle.std.proofs.Common.{◌≡◌}
use Rattle.engine.proofs.calls.prefer_all.Given as goal

abbrev pub invariant-loop-number : goal.invariant-loop-number
invariant-loop-number g l = g.E.Engine.meaning l.engine ≡ g.E.Engine.meaning l.initial.engine
