use Rattle.std.proofs.Common.{sym, rules}
use Rattle.job.specs.Seen.{view}
use Rattle.job.proofs.Keeping.{sound}
use Rattle.job.proofs.CheckFit.{fit}
use Rattle.job.proofs.CheckWhole.{outcome}
use Rattle.job.proofs.CheckRules.{allowed, none_refused}
use Rattle.job.proofs.jobs.Job.check.Goals as goal

pub run-report-requires : goal.run-report-requires
run-report-requires g c =
    let j = c.args.self.now in
    record { allowed = allowed (view j) (fit (view j) (sound j)) (g.E.Engine.meaning c.args.engine.now) (sym c.if-not-is_ended.ensures) (sym c.if-is_short.ensures) (sym c.if-is_open.ensures) }

pub returns : goal.returns
returns g c =
    let j = c.args.self.now in
    let m = g.E.Engine.meaning c.args.engine.now in
    let free = none_refused (view j) (fit (view j) (sound j)) m (sym c.if-not-is_ended.ensures) (sym c.if-is_short.ensures) (sym c.if-is_open.ensures) in
    let out = outcome (view j) m free (view c.run-report.new.self) _ c.run-report.result _ c.run-report.ensures.comes c.run-report.ensures.idle (search rules) in
    record { lent = c.run-report.ensures.lent; happens = out.0; leaves = out.1 }
