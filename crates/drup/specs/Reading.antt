-- A box read off lists: a mark for each clause, and for each lemma as many arc places as a row can fill.
use Rattle.std.specs.Prelude.{◌≡◌, ℕ, zero, suc, ◌-◌, ◌*◌, Bool, false, cond, List, [], ◌∷◌, map, length, slice_index, slice_index_or}
use Rattle.std.proofs.Math.Option.{none, some}
use Rattle.cnf.specs.Clauses.{◌∈◌}
use Rattle.drup.specs.Marks.{Marks, lemma_numbers}
use Rattle.drup.specs.Forward.{Machine}
use Rattle.drup.specs.Backward.{Row, Verdict, Report, accepted}
use Rattle.drup.specs.Box.{Box, Checks}

-- the mark of clause n stands at place n - 1; no other number is marked
abbrev pub marks_of : (marks : List Bool) → Marks
marks_of marks zero = false
marks_of marks (suc n) = slice_index_or marks n false

-- the first number, if it is not 0, and what follows it
abbrev pub unless_zero : ℕ → (following : List ℕ) → List ℕ
unless_zero zero following = []
unless_zero (suc n) following = suc n ∷ following

-- the numbers from a place on up to the first 0, at most so many
abbrev pub numbers_at : (arcs : List ℕ) → (place most : ℕ) → List ℕ
numbers_at arcs place zero = []
numbers_at arcs place (suc most) = unless_zero (slice_index arcs place) (numbers_at arcs (suc place) most)

-- the row of the lemma with number n: the j-th lemma's row starts at place (j - 1) * (V + 1)
abbrev pub row_at : Machine → (arcs : List ℕ) → (n : ℕ) → Row
row_at m arcs n = record {
  lemma_number = n;
  antecedents = numbers_at arcs ((n - suc (length m.inputs)) * suc m.variables) (suc m.variables);
}

-- the marks, and the rows of the marked lemmas, lowest number first
abbrev pub verdict_at : Machine → (marks : List Bool) → (arcs : List ℕ) → Verdict
verdict_at m marks arcs =
    record { kept = marks_of marks; rows = map (row_at m arcs) (lemma_numbers (marks_of marks) m.inputs m.steps []) }

-- a job's box: only a judged job has a verdict
abbrev pub box_of : Machine → (judged : Bool) → (marks : List Bool) → (arcs : List ℕ) → Box
box_of m judged marks arcs = record { machine = m; verdict = cond judged (some (verdict_at m marks arcs)) none }

-- marks and rows are all that a verdict is: the verdict of an accepting check is read off any lists that have its marks
-- and, each at its place, its rows
abbrev pub VerdictsAreRead : Type 0
VerdictsAreRead =
    (m : Machine) (v : Verdict) (r : Report) (marks : List Bool) (arcs : List ℕ) → Checks m (accepted v r)
    → marks_of marks ≡ v.kept
    → ((row : Row) → row ∈ v.rows → (row_at m arcs row.lemma_number).antecedents ≡ row.antecedents)
    → verdict_at m marks arcs ≡ v
