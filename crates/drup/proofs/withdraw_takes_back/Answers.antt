use Rattle.drup.proofs.withdraw_takes_back.Goals as goal
use Rattle.drup.proofs.Entering.{withdraw_law}

pub returns : goal.returns
returns c = withdraw_law
