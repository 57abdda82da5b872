use Rattle.drup.proofs.passing_is_propagation.Goals as goal
use Rattle.drup.proofs.Propagating.{passing_is_propagation_lem}

pub returns : goal.returns
returns c = passing_is_propagation_lem
