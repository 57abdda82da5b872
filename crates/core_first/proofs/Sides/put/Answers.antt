use Rattle.core_first.proofs.CoreTogether.{backs}
use Rattle.core_first.proofs.CoreCalls.{put_both}
use Rattle.core_first.proofs.Sides.put.Goals as goal

pub returns : goal.returns
returns g c =
    let s = c.args.self.now in
    let linked = c.requires.linked in
    record { carries = λ m free b. backs linked (put_both (g.P.Engine.meaning s.preferred) (g.R.Engine.meaning s.rest) m _ _ c.args.literals.now c.put.result c.put-2.result c.put.ensures.does c.put-2.ensures.does free (b.0 linked)) }
