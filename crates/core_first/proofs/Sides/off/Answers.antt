use Rattle.core_first.proofs.CoreTogether.{backs}
use Rattle.core_first.proofs.CoreCalls.{off_in_first, off_in_rest}
use Rattle.core_first.proofs.Sides.off.Goals as goal

pub returns-in-Ok : goal.returns-in-Ok
returns-in-Ok g c =
    let s = c.args.self.now in
    let linked = c.requires.linked in
    record { turns = λ m o t b. (let q = (off_in_first (g.P.Engine.meaning s.preferred) (g.R.Engine.meaning s.rest) m (b.0 linked) c.args.number o t _ c.in-Ok.ensures.does) in (q.0, q.1, backs linked q.2)) }

pub returns-in-Err : goal.returns-in-Err
returns-in-Err g c =
    let s = c.args.self.now in
    let linked = c.requires.linked in
    record { turns = λ m o t b. (let q = (off_in_rest (g.P.Engine.meaning s.preferred) (g.R.Engine.meaning s.rest) m (b.0 linked) c.args.number o t _ _ _ c.off-in-Err.result c.in-Err.ensures.does c.off-in-Err.ensures.does) in (q.0, q.1, backs linked q.2)) }
