-- The answers that a trial has noted.
use Rattle.std.specs.Prelude.{List, reverse}
use Rattle.cnf.specs.declared.literals.Forced.{Forced}
use Rattle.engine.specs.declared.trails.Trail.{Trail}
use Rattle.engine.specs.Trails.{entries_of}

-- all answers, the latest first
abbrev pub latest : Trail → List Forced
latest answers = reverse (entries_of answers)
