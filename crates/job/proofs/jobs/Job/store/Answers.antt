use Rattle.std.proofs.Common.{false, length, arith, None}
use Rattle.job.specs.declared.rows.ClauseRow.{ClauseRow}
use Rattle.job.specs.Seen.{view}
use Rattle.job.proofs.Keeping.{sound, held, sound_behind}
use Rattle.job.proofs.jobs.Job.store.Goals as goal

-- a row that does not count yet
pub invariant_of-self : goal.invariant_of-self
invariant_of-self c =
    let t = view c.lay.new.self in
    let row : ClauseRow = record { start = t.used; len = length c.args.clause.now; entered = c.args.entered; struck = None; kept = false } in
    held _ (sound_behind t t.clauses row (omega arith) (sound c.lay.new.self))
