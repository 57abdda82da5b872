use Rattle.drup.proofs.every_check_ends.Goals as goal
use Rattle.drup.proofs.Ending.{every_check_ends_lem}

pub returns : goal.returns
returns c = every_check_ends_lem
