use Rattle.engine.proofs.Keeping.{get_or_in}
use Rattle.trial.proofs.seen.Seen.add_clause.Goals as goal

pub add-requires : goal.add-requires
add-requires c = (c.requires _ (get_or_in c.args.clause.now c.loop-literal.literal-index _ c.loop-literal-test.true)).1
