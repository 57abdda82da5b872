use Rattle.drup.proofs.acceptance_refutes.Goals as goal
use Rattle.drup.proofs.Acceptance.{acceptance_refutes_lem}

pub returns : goal.returns
returns c = acceptance_refutes_lem
