-- Rows that make a record, and rows that make none.
use Rattle.std.specs.Prelude.{◌≡◌, ℕ, ◌<◌, ◌≤◌, Some}
use Rattle.job.specs.declared.rows.ClauseRow.{ClauseRow}

-- a step that struck the clause comes after that of its entry
abbrev pub InOrder : ClauseRow → Type 0
InOrder row = (step : ℕ) → row.struck ≡ Some step → row.entered < step

-- the clause was struck at or before the step of its entry
abbrev pub Disordered : ClauseRow → Type 0
Disordered row = (step : ℕ) × (row.struck ≡ Some step) × (step ≤ row.entered)
