use Rattle.drup.proofs.clauses_live.Goals as goal
use Rattle.drup.proofs.Living.{clauses_live_lem}

pub returns : goal.returns
returns c = clauses_live_lem
