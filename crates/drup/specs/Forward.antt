-- The forward check. It sees the arguments of calls and nothing else, holds input clauses and steps, and would try every
-- lemma at its step.
use Rattle.std.specs.Prelude.{◌≡◌, ℕ, zero, suc, ◌+◌, Bool, true, cond, not, ◌||◌, List, [], ◌∷◌, length, ◌==◌, nat_le, nat_lt}
use Rattle.cnf.specs.declared.literals.Literal.{Literal}
use Rattle.cnf.specs.Clauses.{Clause, literals}
use Rattle.cnf.specs.Arranging.{beyond, twice, arranged}
use Rattle.cnf.specs.Propagation.{Passes}
use Rattle.drup.specs.History.{Step, learned, struck, table, LiveClause, live_copy, begun, ended}

-- a forward machine: the highest variable, how many clauses and literals it has places for, and what it was told
pub record Machine : Type 0 where
  pub variables : ℕ
  pub clause_places : ℕ
  pub literal_places : ℕ
  pub inputs : List Clause
  pub steps : List Step

-- all its clauses
abbrev pub clauses : Machine → List Clause
clauses m = table m.inputs m.steps

-- a new machine, told nothing
abbrev pub opened : (variables clause_places literal_places : ℕ) → Machine
opened variables clause_places literal_places = record {
  variables = variables;
  clause_places = clause_places;
  literal_places = literal_places;
  inputs = [];
  steps = [];
}

-- what a machine is told; the literals of a call stand in any order
pub data Call : Type 0 where
  clause : List Literal → Call
  lemma : List Literal → Call
  strike : List Literal → Call
  withdraw : Call

-- no clause place or too few literal places are left
abbrev pub full : Machine → List Literal → Bool
full m ls = nat_le m.clause_places (length (clauses m)) || nat_lt m.literal_places (length ls + literals (clauses m))

-- the number that a strike takes: the highest live clause with these literals, 0 if there is none
abbrev pub target : Machine → List Literal → ℕ
target m ls = live_copy (arranged ls) (clauses m) m.steps

-- a rule by its number, and whether it is broken
pub data Rule : Type 0 where
  rule : (number : ℕ) → (broken : Bool) → Rule

-- the number of the first broken rule, 0 if none is broken
abbrev pub first_broken : List Rule → ℕ
first_broken [] = 0
first_broken (rule number broken ∷ rules) = cond broken number (first_broken rules)

-- the rules of a call, in their order. 4: a literal out of range; 5: a variable twice; 8: an input clause after a step;
-- 9: a step after the empty lemma; 10: no place left; 11: no live clause with these literals; 12: no step to withdraw
abbrev pub rules : Machine → Call → List Rule
rules m (clause ls) =
    rule 4 (beyond m.variables ls) ∷ rule 5 (twice ls) ∷ rule 8 (begun m.steps) ∷ rule 10 (full m ls) ∷ []
rules m (lemma ls) =
    rule 4 (beyond m.variables ls) ∷ rule 5 (twice ls) ∷ rule 9 (ended m.steps) ∷ rule 10 (full m ls) ∷ []
rules m (strike ls) =
    rule 4 (beyond m.variables ls) ∷ rule 5 (twice ls) ∷ rule 9 (ended m.steps) ∷ rule 11 (target m ls == 0) ∷ []
rules m withdraw = rule 12 (not (begun m.steps)) ∷ []

-- the number by which a call is turned down, 0 if it is not
abbrev pub refused : Machine → Call → ℕ
refused m call = first_broken (rules m call)

-- the same machine with other steps
abbrev pub with_steps : Machine → List Step → Machine
with_steps m steps = record {
  variables = m.variables;
  clause_places = m.clause_places;
  literal_places = m.literal_places;
  inputs = m.inputs;
  steps = steps;
}

-- the same machine with one more input clause
abbrev pub with_input : Machine → Clause → Machine
with_input m c = record {
  variables = m.variables;
  clause_places = m.clause_places;
  literal_places = m.literal_places;
  inputs = c ∷ m.inputs;
  steps = m.steps;
}

-- all steps but the last
abbrev pub without_last : List Step → List Step
without_last [] = []
without_last (step ∷ earlier) = earlier

-- what a call that is not turned down leaves
abbrev pub after : Machine → Call → Machine
after m (clause ls) = with_input m (arranged ls)
after m (lemma ls) = with_steps m (learned (arranged ls) ∷ m.steps)
after m (strike ls) = with_steps m (struck (target m ls) ∷ m.steps)
after m withdraw = with_steps m (without_last m.steps)

-- the new one where the refusal is 0, else the old one
abbrev pub unless : {A : Type 0} → (refusal : ℕ) → (new old : A) → A
unless zero new old = new
unless (suc n) new old = old

-- a call that is turned down changes nothing
abbrev pub told : Machine → Call → Machine
told m call = unless (refused m call) (after m call) m

-- a machine after a row of calls, newest first
abbrev pub fed : Machine → List Call → Machine
fed m [] = m
fed m (call ∷ earlier) = told (fed m earlier) call

-- none of these calls is turned down
abbrev pub NoneRefused : Machine → List Call → Type 0
NoneRefused m [] = Unit {0}
NoneRefused m (call ∷ earlier) = (refused (fed m earlier) call ≡ 0) × NoneRefused m earlier

-- every lemma passes over the clauses live at its step
abbrev pub AllPass : (inputs : List Clause) → List Step → Type 0
AllPass inputs [] = Unit {0}
AllPass inputs (learned c ∷ earlier) = Passes (LiveClause inputs earlier) c × AllPass inputs earlier
AllPass inputs (struck n ∷ earlier) = AllPass inputs earlier

-- the last step is the empty lemma, and every lemma passes at its step
abbrev pub Accepts : Machine → Type 0
Accepts m = (ended m.steps ≡ true) × AllPass m.inputs m.steps
