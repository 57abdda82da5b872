use Rattle.job.specs.Seen.{view, SameLent}
use Rattle.job.specs.Replaying.{Played, new_machine}
use Rattle.job.proofs.jobs.replaying.replay.Given as goal

abbrev pub invariant-loop-order : goal.invariant-loop-order
invariant-loop-order g l =
    SameLent l.initial.job l.job
    × Played (new_machine (view l.initial.job)) l.orders l.order-index l.last (view l.job)
