use Rattle.job.specs.declared.rows.StepRow.TheVariants.{Strike}
use Rattle.job.specs.Seen.{view}
use Rattle.job.proofs.Keeping.{sound, held, sound_next}
use Rattle.job.proofs.jobs.Job.put_strike.Goals as goal

-- a step that does not count yet
pub invariant_of-self : goal.invariant_of-self
invariant_of-self c =
    let j = c.args.self.now in
    held _ (sound_next (view j) (Strike c.args.n) (sound j))
