use Rattle.std.proofs.Common.{◌≡◌, drop}
use Rattle.job.specs.View.{with_rows}
use Rattle.job.specs.Seen.{view, SameLent}
use Rattle.job.specs.CheckLists.{mark_all}
use Rattle.job.proofs.jobs.Job.keep.Given as goal

abbrev pub invariant-loop-number : goal.invariant-loop-number
invariant-loop-number l =
    SameLent l.initial.self l.self
    × (with_rows (mark_all (drop l.number-index l.numbers) (view l.self).rows) (view l.self)
    ≡ with_rows (mark_all l.numbers (view l.initial.self).rows) (view l.initial.self))
