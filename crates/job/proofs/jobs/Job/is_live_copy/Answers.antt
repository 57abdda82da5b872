use Rattle.std.proofs.Common.{◌≡◌, ℕ, suc, ◌-◌, Bool, not, ◌&&◌, ap, ◌∙◌, arith, is_none}
use Rattle.drup.specs.History.{is_struck, same_clause}
use Rattle.job.specs.declared.rows.ClauseRow.{ClauseRow}
use Rattle.job.specs.Seen.{view}
use Rattle.job.specs.History.{steps_of}
use Rattle.job.proofs.Keeping.{sound}
use Rattle.job.proofs.Standing.{row_live}
use Rattle.job.proofs.jobs.Job.is_live_copy.Goals as goal

pub returns-then-same_clause : goal.returns-then-same_clause
returns-then-same_clause c =
    let j = c.args.self.now in
    let n = c.args.n in
    let clause = c.args.clause.now in
    let steps = steps_of (view j) in
    let e : suc (n - 1) ≡ n = (let low = c.requires.0 in omega arith) in
    let live =
    c.is_live.ensures
    ∙ ap (λ (row : ClauseRow). is_none row.struck) c.record.ensures
    ∙ row_live (view j) (sound j) (n - 1) (omega (arith, c.requires.1))
    ∙ ap (λ (k : ℕ). not (is_struck k steps)) e in
    let same = c.if-same_clause.ensures ∙ ap (same_clause clause) c.text.ensures in
    live ∙ ap (λ (b : Bool). b && not (is_struck n steps)) same
