use Rattle.trial.proofs.Supposing.{next_allowed}
use Rattle.trial.proofs.tries.suppose.Goals as goal

pub assume-requires : goal.assume-requires
assume-requires g c = record {
  allowed =
      next_allowed (g.E.Engine.meaning c.args.engine.now) c.args.literals.now c.loop-literal.literal-index _ c.loop-literal-test.true
      (g.E.Engine.meaning c.loop-literal.engine) c.complement.result c.loop-literal.invariant c.complement.ensures c.requires.opened c.requires.consistent;
}
