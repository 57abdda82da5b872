-- What a check does to a job's lists: marks, and rows in the arc list.
use Rattle.std.specs.Prelude.{◌≡◌, ℕ, suc, ◌-◌, ◌*◌, true, List, [], ◌∷◌, ◌++◌, map, length, take, drop, replicate, slice_index_or, slice_set}
use Rattle.std.proofs.Math.Seq.{paste}
use Rattle.drup.specs.Backward.{Row}
use Rattle.job.specs.declared.rows.ClauseRow.{ClauseRow}
use Rattle.job.specs.View.{View, blank_row, with_rows, with_arcs, bare}

-- a row that is marked
abbrev pub kept_row : ClauseRow → ClauseRow
kept_row row = record row { kept = true }

-- the clauses with these numbers are marked
abbrev pub mark_all : (numbers : List ℕ) → List ClauseRow → List ClauseRow
mark_all [] rows = rows
mark_all (n ∷ ns) rows = mark_all ns (slice_set rows (n - 1) (kept_row (slice_index_or rows (n - 1) blank_row)))

-- the first so many rows are unmarked
abbrev pub unmarked : (clauses : ℕ) → List ClauseRow → List ClauseRow
unmarked clauses rows = map bare (take clauses rows) ++ drop clauses rows

-- where the row of the lemma with number n starts in the arc list
abbrev pub row_start : View → (n : ℕ) → ℕ
row_start s n = (n - suc s.inputs) * suc s.variables

-- the arc list with these rows, and zeros elsewhere
abbrev pub arcs_of : View → List Row → List ℕ
arcs_of s [] = replicate (length s.arcs) 0
arcs_of s (row ∷ rows) = paste (arcs_of s rows) (row_start s row.lemma_number) row.antecedents (length row.antecedents)

-- the row of lemma n is written, and its clauses are marked
abbrev pub recorded : View → (n : ℕ) → (row : List ℕ) → View
recorded s n row = with_rows (mark_all row s.rows) (with_arcs (paste s.arcs (row_start s n) row (length row)) s)

-- the same job but for the marks of its clauses and its arcs
pub record Framed (s s' : View) : Type 0 where
  pub but_for : s' ≡ with_rows s'.rows (with_arcs s'.arcs s)
  pub same_rows : map bare s'.rows ≡ map bare s.rows
  pub same_beyond : drop s.clauses s'.rows ≡ drop s.clauses s.rows
  pub same_places : length s'.arcs ≡ length s.arcs
