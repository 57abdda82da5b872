use Rattle.drup.proofs.agreement.Goals as goal
use Rattle.drup.proofs.Agreeing.{agreement}

pub returns : goal.returns
returns c = agreement
