-- Numbers that have a clause.
use Rattle.std.specs.Prelude.{ℕ, ◌≤◌, List, length}
use Rattle.cnf.specs.Clauses.{Clause}

-- clauses count from 1
abbrev pub Numbered : List Clause → (number : ℕ) → Type 0
Numbered clauses n = (1 ≤ n) × (n ≤ length clauses)
