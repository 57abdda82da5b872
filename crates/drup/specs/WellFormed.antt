-- The invariant of a machine: it holds of every machine that calls can reach.
use Rattle.std.specs.Prelude.{ℕ, ◌≤◌, List, [], ◌∷◌, length}
use Rattle.cnf.specs.Clauses.{Clause, ◌∈◌, IsClause, literals}
use Rattle.drup.specs.History.{Step, learned, struck, table}
use Rattle.drup.specs.Forward.{Machine, opened, Call, told}

-- none of these lemmas is empty
abbrev pub NoEmpty : List Step → Type 0
NoEmpty [] = Unit {0}
NoEmpty (learned [] ∷ earlier) = ⊥
NoEmpty (learned (l ∷ c) ∷ earlier) = NoEmpty earlier
NoEmpty (struck n ∷ earlier) = NoEmpty earlier

-- only the last step may be the empty lemma
abbrev pub OnlyLastEmpty : List Step → Type 0
OnlyLastEmpty [] = Unit {0}
OnlyLastEmpty (step ∷ earlier) = NoEmpty earlier

-- clauses over the variables, within the places, no step behind the empty lemma
pub record Formed (variables clause_places literal_places : ℕ) (inputs : List Clause) (steps : List Step) : Type 0 where
  pub all_clauses : (c : Clause) → c ∈ table inputs steps → IsClause variables c
  pub places : length (table inputs steps) ≤ clause_places
  pub room : literals (table inputs steps) ≤ literal_places
  pub only_last : OnlyLastEmpty steps

abbrev pub WellFormed : Machine → Type 0
WellFormed m = Formed m.variables m.clause_places m.literal_places m.inputs m.steps

-- a new machine is well-formed, and every call, turned down or not, keeps it so
abbrev pub StaysWellFormed : Type 0
StaysWellFormed =
    ((variables clause_places literal_places : ℕ) → WellFormed (opened variables clause_places literal_places))
    × ((m : Machine) (call : Call) → WellFormed m → WellFormed (told m call))
