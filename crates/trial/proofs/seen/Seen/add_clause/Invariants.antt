use Rattle.std.proofs.Common.{◌≡◌, ◌||◌, drop}
use Rattle.cnf.specs.declared.literals.Literal.{Literal}
use Rattle.drup.specs.Backward.{holds}
use Rattle.trial.specs.Seeing.{sees}
use Rattle.trial.proofs.seen.Seen.add_clause.Given as goal

-- what is left of the clause gives the rest
abbrev pub invariant-loop-literal : goal.invariant-loop-literal
invariant-loop-literal l = (k : Literal) → (holds k (drop l.literal-index l.clause) || sees l.self k) ≡ (holds k l.clause || sees l.initial.self k)
