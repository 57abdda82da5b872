use Rattle.std.proofs.Common.{ap, arith}
use Rattle.job.specs.View.{View}
use Rattle.job.proofs.CheckWhole.{one_only}
use Rattle.job.proofs.jobs.Job.begin.Goals as goal

pub keep-requires : goal.keep-requires
keep-requires c n x =
    let e = ap (λ (v : View). v.clauses) c.clear.ensures.after in
    one_only c.clear.new.self.clauses c.clear.new.self.clauses n (omega (arith, c.requires)) (omega arith) x
