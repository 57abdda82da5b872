use Rattle.std.proofs.Common.{◌≡◌, take, ◌∙◌, arith, rules}
use Rattle.std.specs.List.{count_by}
use Rattle.job.specs.declared.rows.ClauseRow.{ClauseRow}
use Rattle.job.specs.Seen.{view}
use Rattle.job.proofs.CheckMarks.{kept_counted}
use Rattle.job.proofs.jobs.Job.kept_inputs.Goals as goal

pub returns : goal.returns
returns c =
    let j = c.args.self.now in
    let e : c.count.result ≡ count_by (λ (row : ClauseRow). row.kept) (take j.inputs j.records.now) = search rules in
    let a = j.counts.0 in
    let b = j.counts.1 in
    let d = j.rooms.0 in
    e ∙ kept_counted (view j) j.inputs (omega arith) (omega arith)
