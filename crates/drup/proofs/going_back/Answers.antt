use Rattle.drup.proofs.going_back.Goals as goal
use Rattle.drup.proofs.Living.{going_back_lem}

pub returns : goal.returns
returns c = going_back_lem
