use Rattle.core_first.proofs.CoreTogether.{backs}
use Rattle.core_first.proofs.CoreCalls.{on_in_rest}
use Rattle.core_first.proofs.Sides.on.Goals as goal

pub returns-in-Err-clause-turns : goal.returns-in-Err-clause-turns
returns-in-Err-clause-turns g c m o t b =
    let s = c.args.self.now in
    let linked = c.requires.linked in
    let q = on_in_rest (g.P.Engine.meaning s.preferred) (g.R.Engine.meaning s.rest) m (b.0 linked) c.args.number o t _ _ _ c.on.result c.in-Err.ensures.does c.on.ensures.does in
    (q.0, q.1, backs linked q.2)
