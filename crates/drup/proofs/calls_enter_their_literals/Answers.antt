use Rattle.drup.proofs.calls_enter_their_literals.Goals as goal
use Rattle.drup.proofs.Entering.{entry_law}

pub returns : goal.returns
returns c = entry_law
