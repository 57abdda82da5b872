use Rattle.drup.proofs.calls_keep_well_formed.Goals as goal
use Rattle.drup.proofs.WellFormed.{stays_well_formed}

pub returns : goal.returns
returns c = stays_well_formed
