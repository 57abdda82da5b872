-- How the texts of a scanning engine lie in its lists.
use Rattle.std.specs.Prelude.{◌≡◌, ℕ, ◌+◌, ◌<◌, ◌≤◌, Bool, true, false, List, map, length, take, slice_index_or}
use Rattle.std.specs.List.{list_all}
use Rattle.cnf.specs.declared.literals.Literal.{Literal}
use Rattle.cnf.specs.Clauses.{Clause}
use Rattle.cnf.specs.Ascending.{ascending}
use Rattle.engine.specs.declared.limits.Limits.{Limits}
use Rattle.engine.specs.Meaning.{highest}
use Rattle.engine.specs.Looks.{text_at}
use Rattle.scanning.specs.declared.rows.TextRow.{TextRow}

-- what a row past the end reads as
abbrev pub blank_row : TextRow
blank_row = record { start = 0; length = 0; on = false }

abbrev pub stored_text : List Literal → TextRow → Clause
stored_text places row = text_at places row.start row.length

-- the texts of the rows in use
abbrev pub texts_in : List TextRow → List Literal → (count : ℕ) → List Clause
texts_in rows places count = map (stored_text places) (take count rows)

-- their marks
abbrev pub marks_in : List TextRow → (count : ℕ) → List Bool
marks_in rows count = map (λ row. row.on) (take count rows)

-- the limits lie in their ranges
abbrev pub Small : Limits → Type 0
Small limits = (limits.texts ≤ 4096) × (limits.literals ≤ 32768)

-- the lists have the places
abbrev pub Served : Limits → List TextRow → List Literal → Type 0
Served limits rows places = (limits.texts ≤ length rows) × (limits.literals ≤ length places)

-- each row in use lies within the places in use
abbrev pub Placed : List TextRow → (count used : ℕ) → Type 0
Placed rows count used = (k : ℕ) → k < count → (slice_index_or rows k blank_row).start + (slice_index_or rows k blank_row).length ≤ used

-- each text has rising variables from 1 to the highest
abbrev pub AllRising : List Clause → Type 0
AllRising texts = list_all (ascending 0 highest) texts ≡ true
