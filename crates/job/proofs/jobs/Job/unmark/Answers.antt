use Rattle.std.proofs.Common.{◌<◌, List, length, get_or, take, set, sym, refl, ap, ◌∙◌, subst, arith}
use Rattle.std.proofs.lemmas.List.{get_or_default, length-take-le}
use Rattle.std.proofs.lemmas.List.Edits.{map_over_more}
use Rattle.job.specs.declared.rows.ClauseRow.{ClauseRow}
use Rattle.job.specs.View.{blank_row, with_rows, bare}
use Rattle.job.specs.Seen.{view}
use Rattle.job.specs.CheckLists.{unmarked}
use Rattle.job.specs.Sound.{Sound}
use Rattle.job.proofs.Keeping.{sound, held}
use Rattle.job.proofs.CheckMarks.{unmarked_all, sound_unmarked}
use Rattle.job.proofs.CheckFraming.{unmarked_length}
use Rattle.job.proofs.jobs.Job.unmark.Goals as goal

pub loop-row-preserved : goal.loop-row-preserved
loop-row-preserved c =
    let j = c.args.self.now in
    let rows = take j.clauses j.records.now in
    let i = c.loop-row.row-index in
    let h : i < length rows = omega arith in
    let k : i < length (unmarked i rows) = (let e = unmarked_length i rows in omega arith) in
    ap (λ (r : List ClauseRow). set r i (bare (get_or r i blank_row))) c.loop-row.invariant
    ∙ map_over_more bare rows (unmarked i rows) i (get_or (unmarked i rows) i blank_row) h refl (get_or_default (unmarked i rows) i blank_row (get_or (unmarked i rows) i blank_row) k)

pub invariant_of-self : goal.invariant_of-self
invariant_of-self c =
    let j = c.args.self.now in
    let s = view j in
    let a = j.rooms.0 in
    let b = j.counts.1 in
    let room = length-take-le s.clauses s.rows (omega arith) in
    let e = unmarked_all s.rows s.clauses c.loop-row.row-index c.loop-row.row-items (omega arith) (omega arith) c.loop-row.invariant in
    held _ (subst Sound (ap (λ (r : List ClauseRow). with_rows r s) (sym e)) (sound_unmarked s (sound j)))
