use Rattle.drup.proofs.slips_part_from_the_rule.Goals as goal
use Rattle.drup.proofs.Slips.{rule_is_manner}

pub returns : goal.returns
returns c = rule_is_manner
