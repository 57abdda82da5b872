use Rattle.drup.proofs.verdicts_are_read_off_lists.Goals as goal
use Rattle.drup.proofs.Reading.{read_back}

pub returns : goal.returns
returns c = read_back
