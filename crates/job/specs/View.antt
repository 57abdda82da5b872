-- What a job holds, with the memory that it lies in left out.
use Rattle.std.specs.Prelude.{ℕ, zero, suc, ◌≤◌, Bool, false, List, [], map, take, drop, None, slice_index_or}
use Rattle.cnf.specs.declared.literals.Literal.{Literal}
use Rattle.cnf.specs.Clauses.{Clause}
use Rattle.job.specs.declared.rows.ClauseRow.{ClauseRow}
use Rattle.job.specs.declared.rows.StepRow.{StepRow}
use Rattle.job.specs.declared.rows.StepRow.TheVariants.{Lemma}

-- the highest variable, how many clauses and literals there are places for, the four lists, how many input clauses,
-- clauses, steps and literals stand in them, and whether the job is judged
pub record View : Type 0 where
  pub variables : ℕ
  pub places : ℕ
  pub room : ℕ
  pub rows : List ClauseRow
  pub steps : List StepRow
  pub lits : List Literal
  pub arcs : List ℕ
  pub inputs : ℕ
  pub clauses : ℕ
  pub taken : ℕ
  pub used : ℕ
  pub judged : Bool

-- what a read past the end of a list would give
abbrev pub blank_row : ClauseRow
blank_row = record { start = 0; len = 0; entered = 0; struck = None; kept = false }

abbrev pub blank_step : StepRow
blank_step = Lemma 0

-- the literals of a row
abbrev pub clause_at : List Literal → ClauseRow → Clause
clause_at lits row = take row.len (drop row.start lits)

-- the clauses of rows
abbrev pub texts_of : List ClauseRow → List Literal → List Clause
texts_of rows lits = map (clause_at lits) rows

-- the clauses of the first rows
abbrev pub texts_in : List ClauseRow → List Literal → (clauses : ℕ) → List Clause
texts_in rows lits clauses = texts_of (take clauses rows) lits

-- the clause with this number; clauses count from 1
abbrev pub text_in : List Clause → (number : ℕ) → Clause
text_in texts zero = []
text_in texts (suc n) = slice_index_or texts n []

-- this many clauses were entered, and one has this number
abbrev pub Entered : (clauses n : ℕ) → Type 0
Entered clauses n = (1 ≤ n) × (n ≤ clauses)

-- all clauses of a job, the first entered first
abbrev pub texts : View → List Clause
texts s = texts_in s.rows s.lits s.clauses

-- a mark for each clause, in the same order
abbrev pub marks : View → List Bool
marks s = map (λ row. row.kept) (take s.clauses s.rows)

-- the same but for one list, or for the judgement
abbrev pub with_rows : List ClauseRow → View → View
with_rows rows s = record s { rows = rows }

abbrev pub with_step_rows : List StepRow → View → View
with_step_rows steps s = record s { steps = steps }

abbrev pub with_lits : List Literal → View → View
with_lits lits s = record s { lits = lits }

abbrev pub with_arcs : List ℕ → View → View
with_arcs arcs s = record s { arcs = arcs }

abbrev pub with_judged : Bool → View → View
with_judged judged s = record s { judged = judged }

-- a row but for its mark
abbrev pub bare : ClauseRow → ClauseRow
bare row = record row { kept = false }
