use Rattle.drup.proofs.strike_hits_highest_live.Goals as goal
use Rattle.drup.proofs.Striking.{strike_law}

pub returns : goal.returns
returns c = strike_law
