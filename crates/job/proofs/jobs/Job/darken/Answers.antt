use Rattle.std.proofs.Common.{◌-◌, arith}
use Rattle.job.proofs.CheckSurround.{dark_more, dark_all}
use Rattle.job.proofs.jobs.Job.darken.Goals as goal

pub returns-2 : goal.returns-2
returns-2 g c =
    let clauses = c.args.self.now.clauses in
    let m = g.E.Engine.meaning c.args.engine.now in
    let n = c.loop-n.n in
    let after = g.E.Engine.meaning c.put_out.new.engine in
    record { does = dark_all clauses m n after (dark_more clauses m (n - 1) _ c.loop-n.invariant n (omega arith) (omega arith) after c.put_out.ensures.does) (omega arith) }
