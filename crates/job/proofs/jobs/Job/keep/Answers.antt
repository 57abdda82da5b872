use Rattle.std.proofs.Common.{◌-◌, get_or, refl, ap, arith}
use Rattle.engine.proofs.Keeping.{get_or_in}
use Rattle.job.specs.View.{View, blank_row}
use Rattle.job.specs.Seen.{view}
use Rattle.job.specs.CheckLists.{kept_row}
use Rattle.job.proofs.Keeping.{sound, held}
use Rattle.job.proofs.CheckMarks.{sound_marked}
use Rattle.job.proofs.jobs.Job.keep.Goals as goal

pub overflow_sub-self : goal.overflow_sub-self
overflow_sub-self c =
    let z = c.requires (get_or c.args.numbers.now c.loop-number.number-index 0) (get_or_in c.args.numbers.now c.loop-number.number-index 0 c.loop-number-test.true) in
    z.0

pub bounds-self-number : goal.bounds-self-number
bounds-self-number c =
    let z = c.requires (get_or c.args.numbers.now c.loop-number.number-index 0) (get_or_in c.args.numbers.now c.loop-number.number-index 0 c.loop-number-test.true) in
    let j = c.loop-number.self in
    let e = ap (λ (v : View). v.clauses) c.loop-number.invariant.1 in
    let a = j.rooms.0 in
    let b = j.counts.1 in
    omega (arith, z.0, z.1)

pub invariant_of-self : goal.invariant_of-self
invariant_of-self c =
    let t = view c.loop-number.self in
    let i = get_or c.args.numbers.now c.loop-number.number-index 0 - 1 in
    held _ (sound_marked t i (kept_row (get_or t.rows i blank_row)) refl (sound c.loop-number.self))
