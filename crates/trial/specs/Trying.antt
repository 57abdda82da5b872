-- What a trial of a lemma does to an engine, and what it finds.
use Rattle.std.specs.Prelude.{ℕ, List, map, Some, None, Option}
use Rattle.cnf.specs.declared.literals.Literal.{Literal}
use Rattle.cnf.specs.Literals.{complement}
use Rattle.cnf.specs.declared.literals.Forced.{Forced}
use Rattle.drup.specs.Backward.{ConflictOver, NothingOver}
use Rattle.engine.specs.Meaning.{Meaning, On, text_of, entry}

-- a trail once the complements of these literals are assumed
abbrev pub supposed : List Literal → List Forced
supposed ls = map (λ l. entry (complement l) 0) ls

-- what the end of a trial says, over the texts that are on: under the assumed literals these answers, the latest first,
-- were right, and after them the text with this number was false, or none was and none forced a literal
abbrev pub EndsRight : Meaning → (assumed : List Literal) → List Forced → (conflict : Option ℕ) → Type 0
EndsRight m assumed answers (Some n) = ConflictOver (On m) (text_of m) assumed answers n
EndsRight m assumed answers None = NothingOver (On m) (text_of m) assumed answers
