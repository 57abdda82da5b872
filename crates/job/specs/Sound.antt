-- What every job keeps.
use Rattle.std.specs.Prelude.{◌≡◌, ℕ, zero, suc, ◌+◌, ◌*◌, ◌<◌, ◌≤◌, Bool, true, false, not, ◌&&◌, List, [], length, Some, None, Option, ◌==◌, nat_le, slice_index_or}
use Rattle.cnf.specs.declared.literals.Literal.{Literal}
use Rattle.cnf.specs.Clauses.{Clause}
use Rattle.cnf.specs.Ascending.{ascending}
use Rattle.drup.specs.History.{Step, table, next_number, is_struck, ended}
use Rattle.drup.specs.Laws.{entry_of, strike_of}
use Rattle.job.specs.declared.rows.ClauseRow.{ClauseRow}
use Rattle.job.specs.declared.rows.StepRow.{StepRow}
use Rattle.job.specs.declared.rows.StepRow.TheVariants.{Lemma, Strike}
use Rattle.job.specs.Records.{InOrder}
use Rattle.job.specs.View.{View, blank_row, blank_step, text_in, texts}
use Rattle.job.specs.History.{down_from, steps_from}

-- the numbers that a job is opened with lie in their ranges
abbrev pub Range : (variables places room : ℕ) → Type 0
Range variables places room = (variables ≤ 512) × (places ≤ 4096) × (room ≤ 32768)

-- the lists have the places
abbrev pub Rooms : (places room : ℕ) → List ClauseRow → List StepRow → List Literal → Type 0
Rooms places room rows steps lits = (places ≤ length rows) × (2 * places ≤ length steps) × (room ≤ length lits)

-- no more clauses and literals than places, and at most two steps to a clause place
abbrev pub Counts : (places room inputs clauses taken used : ℕ) → Type 0
Counts places room inputs clauses taken used = (inputs ≤ clauses) × (clauses ≤ places) × (taken ≤ 2 * places) × (used ≤ room)

-- the literals of the first k rows lie one after the other, and end at this place
abbrev pub laid_to : List ClauseRow → (k end : ℕ) → Bool
laid_to rows zero end = end == 0
laid_to rows (suc k) end =
    ((slice_index_or rows k blank_row).start + (slice_index_or rows k blank_row).len == end) && laid_to rows k (slice_index_or rows k blank_row).start

abbrev pub Laid : List ClauseRow → (clauses used : ℕ) → Type 0
Laid rows clauses used = laid_to rows clauses used ≡ true

-- each clause has rising variables from 1 to the highest
abbrev pub Rising : (variables : ℕ) → List Clause → (clauses : ℕ) → Type 0
Rising variables texts clauses = (k : ℕ) → k < clauses → ascending 0 variables (slice_index_or texts k []) ≡ true

-- each clause is an input clause or a lemma
abbrev pub Complete : List Clause → (inputs : ℕ) → List StepRow → (taken clauses : ℕ) → Type 0
Complete texts inputs steps taken clauses =
    clauses ≡ length (table (down_from (text_in texts) inputs) (steps_from (text_in texts) steps taken))

-- a lemma has the next number, a strike that of a live clause
abbrev pub is_next : (inputs : List Clause) → (earlier : List Step) → StepRow → Bool
is_next inputs earlier (Lemma n) = n == next_number inputs earlier
is_next inputs earlier (Strike n) = nat_le 1 n && (nat_le n (length (table inputs earlier)) && not (is_struck n earlier))

abbrev pub Numbered : List Clause → (inputs : ℕ) → List StepRow → (taken : ℕ) → Type 0
Numbered texts inputs steps taken =
    (k : ℕ) → k < taken
    → is_next (down_from (text_in texts) inputs) (steps_from (text_in texts) steps k) (slice_index_or steps k blank_step) ≡ true

-- no step but the last is the empty lemma
abbrev pub Unended : List Clause → List StepRow → (taken : ℕ) → Type 0
Unended texts steps taken = (k : ℕ) → k < taken → ended (steps_from (text_in texts) steps k) ≡ false

-- a step by its number, where 0 is none
abbrev pub step_or_none : ℕ → Option ℕ
step_or_none zero = None
step_or_none (suc n) = Some (suc n)

-- each row has the step of its clause's entry and the step that struck it
abbrev pub Dated : List ClauseRow → List Clause → (inputs : ℕ) → List StepRow → (taken clauses : ℕ) → Type 0
Dated rows texts inputs steps taken clauses =
    (k : ℕ) → k < clauses
    → ((slice_index_or rows k blank_row).entered ≡ entry_of (down_from (text_in texts) inputs) (steps_from (text_in texts) steps taken) (suc k))
    × ((slice_index_or rows k blank_row).struck ≡ step_or_none (strike_of (steps_from (text_in texts) steps taken) (suc k)))

-- no clause was struck at or before the step of its entry
abbrev pub Ordered : List ClauseRow → (clauses : ℕ) → Type 0
Ordered rows clauses = (k : ℕ) → k < clauses → InOrder (slice_index_or rows k blank_row)

-- all of it
pub record Sound (s : View) : Type 0 where
  pub range : Range s.variables s.places s.room
  pub rooms : Rooms s.places s.room s.rows s.steps s.lits
  pub counts : Counts s.places s.room s.inputs s.clauses s.taken s.used
  pub laid : Laid s.rows s.clauses s.used
  pub rising : Rising s.variables (texts s) s.clauses
  pub complete : Complete (texts s) s.inputs s.steps s.taken s.clauses
  pub numbered : Numbered (texts s) s.inputs s.steps s.taken
  pub unended : Unended (texts s) s.steps s.taken
  pub dated : Dated s.rows (texts s) s.inputs s.steps s.taken s.clauses
  pub ordered : Ordered s.rows s.clauses
