use Rattle.drup.proofs.passing_is_sound.Goals as goal
use Rattle.drup.proofs.Propagating.{passing_is_sound_lem}

pub returns : goal.returns
returns c = passing_is_sound_lem
