-- The answers of an engine that looks for the lowest falsified number, else the lowest forcing one.
use Rattle.std.specs.Prelude.{ℕ, ◌<◌, Some, None, Option}
use Rattle.cnf.specs.declared.literals.Literal.{Literal}
use Rattle.cnf.specs.Propagation.{Falsified, Forces}
use Rattle.cnf.specs.declared.literals.Forced.{Forced}
use Rattle.engine.specs.declared.answers.Answer.{Answer}
use Rattle.engine.specs.declared.answers.Answer.TheVariants.{Conflict, Forced as ForcedBy, Nothing}
use Rattle.engine.specs.Meaning.{Meaning, On, values, text_of}

-- text n is on and falsified
abbrev pub FalseAt : Meaning → (n : ℕ) → Type 0
FalseAt m n = On m n × Falsified (values m) (text_of m n)

-- text n is on and forces l
abbrev pub ForcesAt : Meaning → (n : ℕ) → Literal → Type 0
ForcesAt m n l = On m n × Forces (values m) (text_of m n) l

-- the lowest number whose text is on and falsified, if there is one
abbrev pub LowestFalse : Meaning → Option ℕ → Type 0
LowestFalse m (Some n) = FalseAt m n × ((k : ℕ) → k < n → FalseAt m k → ⊥)
LowestFalse m None = (k : ℕ) → FalseAt m k → ⊥

-- the lowest number whose text is on and forces a literal, with that literal, if there is one
abbrev pub LowestForcing : Meaning → Option Forced → Type 0
LowestForcing m (Some e) = ForcesAt m e.number e.literal × ((k : ℕ) (l : Literal) → k < e.number → ForcesAt m k l → ⊥)
LowestForcing m None = (k : ℕ) (l : Literal) → ForcesAt m k l → ⊥

-- what more such an engine says
abbrev pub SaysLowest : Meaning → Answer → Type 0
SaysLowest m (Conflict n) = (k : ℕ) → k < n → FalseAt m k → ⊥
SaysLowest m (ForcedBy f) = ((k : ℕ) → FalseAt m k → ⊥) × ((k : ℕ) (l : Literal) → k < f.number → ForcesAt m k l → ⊥)
SaysLowest m Nothing = Unit {0}
