-- What a job has been told: its input clauses and its steps, each list newest first. So the steps before a step are the
-- rest of the list behind it, and there the clauses live at that step can be read off.
use Rattle.std.specs.Prelude.{◌≡◌, ℕ, suc, ◌≤◌, Bool, true, false, cond, not, ◌&&◌, ◌||◌, List, [], ◌∷◌, ◌++◌, length, ◌==◌}
use Rattle.std.specs.Cmp.Lexicographic.{pointwise}
use Rattle.cnf.specs.Literals.{same_literal}
use Rattle.cnf.specs.Clauses.{Clause}

-- a step of a proof: a lemma was learned, or the clause with a number was struck
pub data Step : Type 0 where
  learned : Clause → Step
  struck : ℕ → Step

-- all clauses, inputs and lemmas, in their order of entry; the number of one is how many there were once it stood
abbrev pub table : (inputs : List Clause) → List Step → List Clause
table inputs [] = inputs
table inputs (learned c ∷ earlier) = c ∷ table inputs earlier
table inputs (struck n ∷ earlier) = table inputs earlier

-- the number of a clause that is entered next
abbrev pub next_number : (inputs : List Clause) → List Step → ℕ
next_number inputs steps = suc (length (table inputs steps))

-- the clause with number n in a table
abbrev pub text : List Clause → (n : ℕ) → Clause
text [] n = []
text (c ∷ cs) n = cond (n == suc (length cs)) c (text cs n)

-- some step struck clause n
abbrev pub is_struck : (n : ℕ) → List Step → Bool
is_struck n [] = false
is_struck n (learned c ∷ earlier) = is_struck n earlier
is_struck n (struck k ∷ earlier) = n == k || is_struck n earlier

-- clause n is live at a step: it was entered before it, and no step before it struck it
pub record Live (inputs : List Clause) (earlier : List Step) (n : ℕ) : Type 0 where
  pub numbered : 1 ≤ n
  pub entered : n ≤ length (table inputs earlier)
  pub unstruck : is_struck n earlier ≡ false

-- c is the text of a live clause
abbrev pub LiveClause : (inputs : List Clause) → (earlier : List Step) → Clause → Type 0
LiveClause inputs earlier c = (n : ℕ) × Live inputs earlier n × (text (table inputs earlier) n ≡ c)

-- two clauses have the same literals; both stand by rising variable
abbrev pub same_clause : Clause → Clause → Bool
same_clause c d = pointwise same_literal c d

-- the highest number of a live copy of c among the clauses of a table, 0 if there is none
abbrev pub live_copy : (c : Clause) → List Clause → List Step → ℕ
live_copy c [] steps = 0
live_copy c (d ∷ cs) steps =
    cond (same_clause c d && not (is_struck (suc (length cs)) steps)) (suc (length cs)) (live_copy c cs steps)

-- there is a step
abbrev pub begun : List Step → Bool
begun [] = false
begun (step ∷ earlier) = true

-- the last step is the empty lemma
abbrev pub ended : List Step → Bool
ended [] = false
ended (learned [] ∷ earlier) = true
ended (learned (l ∷ c) ∷ earlier) = false
ended (struck n ∷ earlier) = false

-- how many steps are lemmas
abbrev pub lemmas : List Step → ℕ
lemmas [] = 0
lemmas (learned c ∷ earlier) = suc (lemmas earlier)
lemmas (struck n ∷ earlier) = lemmas earlier

-- these steps come before the others of a job
abbrev pub Before : (earlier steps : List Step) → Type 0
Before earlier steps = (later : List Step) × (steps ≡ later ++ earlier)

-- the lemma c was learned at the step behind these earlier ones
abbrev pub LearnedAfter : (earlier : List Step) → Clause → (steps : List Step) → Type 0
LearnedAfter earlier c steps = Before (learned c ∷ earlier) steps
