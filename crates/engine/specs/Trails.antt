-- What stands on a trail.
use Rattle.std.specs.Prelude.{◌≡◌, false, List, take}
use Rattle.cnf.specs.declared.literals.Literal.{Literal}
use Rattle.cnf.specs.declared.literals.Forced.{Forced}
use Rattle.cnf.specs.Arranging.{outside, names}
use Rattle.engine.specs.declared.answers.Answer.{Answer}
use Rattle.engine.specs.declared.answers.Answer.TheVariants.{Conflict, Forced as ForcedBy, Nothing}
use Rattle.engine.specs.declared.trails.Trail.{Trail}
use Rattle.engine.specs.Meaning.{highest}

-- what stands on a trail, oldest first: the places in use
abbrev pub entries_of : Trail → List Forced
entries_of t = take t.len t.entries

-- a literal in range whose variable has no value
abbrev pub CanJoin : Literal → (trail : List Literal) → Type 0
CanJoin l trail = (outside highest l ≡ false) × (names l.variable trail ≡ false)

-- a literal that an answer forces can join the trail
abbrev pub AnswerJoins : Answer → (trail : List Literal) → Type 0
AnswerJoins (Conflict n) trail = Unit {0}
AnswerJoins (ForcedBy f) trail = CanJoin f.literal trail
AnswerJoins Nothing trail = Unit {0}
