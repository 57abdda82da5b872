use Rattle.drup.proofs.worked_jobs.Goals as goal
use Rattle.drup.proofs.Jobs.{worked_jobs_lem}

pub returns : goal.returns
returns c = worked_jobs_lem
