use Rattle.drup.proofs.slip_tried_at_end.Goals as goal
use Rattle.drup.proofs.Slips.{tried_at_end}

pub returns : goal.returns
returns c = tried_at_end
