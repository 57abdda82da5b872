use Rattle.core_first.proofs.CoreTogether.{backs}
use Rattle.core_first.proofs.CoreCalls.{prefer_in_rest, prefer_in_first}
use Rattle.core_first.proofs.Sides.prefer.Goals as goal

pub returns-in-Ok-clause-turns : goal.returns-in-Ok-clause-turns
returns-in-Ok-clause-turns g c m o t b =
    let s = c.args.self.now in
    let linked = c.requires.linked in
    let q = (prefer_in_rest (g.P.Engine.meaning s.preferred) (g.R.Engine.meaning s.rest) m (b.0 linked) c.args.number o t _ _ c.on.result c.in-Ok.ensures.does c.on.ensures.does).0 in
    (q.0, q.1, backs linked q.2)

pub returns-in-Err-clause-turns : goal.returns-in-Err-clause-turns
returns-in-Err-clause-turns g c m o t b =
    let s = c.args.self.now in
    let linked = c.requires.linked in
    let q = prefer_in_first (g.P.Engine.meaning s.preferred) (g.R.Engine.meaning s.rest) m (b.0 linked) c.args.number o t _ _ _ c.prefer.result c.in-Err.ensures.does c.prefer.ensures.does in
    (q.0, q.1, backs linked q.2)
