use Rattle.drup.proofs.slip_kept_every_forced.Goals as goal
use Rattle.drup.proofs.Slips.{kept_every_forced}

pub returns : goal.returns
returns c = kept_every_forced
