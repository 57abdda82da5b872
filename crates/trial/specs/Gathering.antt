-- The antecedents that are gathered, and what they are gathered from.
use Rattle.std.specs.Prelude.{ℕ, ◌≤◌, List}
use Rattle.cnf.specs.Clauses.{Clause, ◌∈◌, Within}
use Rattle.cnf.specs.declared.literals.Forced.{Forced}
use Rattle.engine.specs.Meaning.{highest}
use Rattle.trial.specs.declared.antecedents.Antecedents.{Antecedents}
use Rattle.trial.specs.Numbered.{Numbered}

-- the numbers, in order of derivation
abbrev pub numbers_of : Antecedents → List ℕ
numbers_of a = a.numbers.items

-- all variables of the clauses are in range
abbrev pub AllWithin : List Clause → Type 0
AllWithin clauses = (c : Clause) → c ∈ clauses → Within highest c

-- each answer has a clause, and its literal is in range
abbrev pub AllKnown : List Clause → List Forced → Type 0
AllKnown clauses answers = (f : Forced) → f ∈ answers → Numbered clauses f.number × (f.literal.variable ≤ highest)
