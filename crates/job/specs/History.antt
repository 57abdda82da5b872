-- The machine and the box that a job's lists stand for.
use Rattle.std.specs.Prelude.{ℕ, zero, suc, List, [], ◌∷◌, slice_index_or}
use Rattle.cnf.specs.Clauses.{Clause}
use Rattle.drup.specs.History.{Step, learned, struck}
use Rattle.drup.specs.Forward.{Machine}
use Rattle.drup.specs.Box.{Box}
use Rattle.drup.specs.Reading.{box_of}
use Rattle.job.specs.declared.rows.StepRow.{StepRow}
use Rattle.job.specs.declared.rows.StepRow.TheVariants.{Lemma, Strike}
use Rattle.job.specs.View.{View, blank_step, text_in, texts, marks}

-- the first k clauses, newest first
abbrev pub down_from : (text : ℕ → Clause) → (k : ℕ) → List Clause
down_from text zero = []
down_from text (suc k) = text (suc k) ∷ down_from text k

-- the step that a row stands for
abbrev pub step_of : (text : ℕ → Clause) → StepRow → Step
step_of text (Lemma n) = learned (text n)
step_of text (Strike n) = struck n

-- the first k steps, newest first
abbrev pub steps_from : (text : ℕ → Clause) → List StepRow → (k : ℕ) → List Step
steps_from text steps zero = []
steps_from text steps (suc k) = step_of text (slice_index_or steps k blank_step) ∷ steps_from text steps k

-- the input clauses of a job, newest first
abbrev pub inputs_of : View → List Clause
inputs_of s = down_from (text_in (texts s)) s.inputs

-- its first k steps, newest first: those before the step k + 1
abbrev pub before : View → (k : ℕ) → List Step
before s k = steps_from (text_in (texts s)) s.steps k

-- all its steps
abbrev pub steps_of : View → List Step
steps_of s = before s s.taken

-- the machine that was told the same
abbrev pub machine_of : View → Machine
machine_of s = record {
  variables = s.variables;
  clause_places = s.places;
  literal_places = s.room;
  inputs = inputs_of s;
  steps = steps_of s;
}

-- its box
abbrev pub box_in : View → Box
box_in s = box_of (machine_of s) s.judged (marks s) s.arcs
