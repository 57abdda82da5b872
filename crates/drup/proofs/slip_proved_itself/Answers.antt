use Rattle.drup.proofs.slip_proved_itself.Goals as goal
use Rattle.drup.proofs.Slips.{proved_itself}

pub returns : goal.returns
returns c = proved_itself
