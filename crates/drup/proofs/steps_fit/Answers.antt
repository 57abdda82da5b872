use Rattle.drup.proofs.steps_fit.Goals as goal
use Rattle.drup.proofs.Fitting.{steps_fit_lem}

pub returns : goal.returns
returns c = steps_fit_lem
