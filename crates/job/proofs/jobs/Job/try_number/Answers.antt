use Rattle.job.specs.Seen.{view}
use Rattle.job.proofs.Keeping.{sound}
use Rattle.job.proofs.CheckFit.{fit}
use Rattle.job.proofs.CheckJudgement.{lemma_consistent}
use Rattle.job.proofs.jobs.Job.try_number.Goals as goal

pub try_lemma-requires : goal.try_lemma-requires
try_lemma-requires g c =
    let j = c.args.self.now in
    record {
      idle = c.requires.holds.shut;
      consistent = lemma_consistent (view j) (fit (view j) (sound j)) c.args.n c.requires.numbered.0 c.requires.numbered.1 c.text.result.now c.text.ensures;
    }
