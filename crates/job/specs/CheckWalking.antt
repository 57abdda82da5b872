-- The way back over the steps.
use Rattle.std.specs.Prelude.{◌≡◌, ℕ, suc, ◌+◌, ◌-◌, ◌*◌, ◌<◌, ◌≤◌, min, Bool, true, false, List, [], length, replicate, Some, None, Option, Ok, Err, Result, slice_index_or}
use Rattle.drup.specs.Marks.{lone}
use Rattle.drup.specs.Backward.{Row, Verdict, arcs, report, accepted, fails}
use Rattle.drup.specs.Box.{last, Checks}
use Rattle.drup.specs.Reading.{marks_of}
use Rattle.engine.specs.Meaning.{Meaning, with_mark, most}
use Rattle.job.specs.declared.rows.StepRow.{StepRow}
use Rattle.job.specs.declared.rows.StepRow.TheVariants.{Lemma, Strike}
use Rattle.job.specs.declared.jobs.reports.Tally.{Tally}
use Rattle.job.specs.View.{View, blank_row, marks}
use Rattle.job.specs.History.{inputs_of, steps_of, machine_of}
use Rattle.job.specs.CheckLists.{row_start, arcs_of}
use Rattle.job.specs.CheckShowing.{Shows, Holds}
use Rattle.job.specs.CheckJudging.{Passed, Failed}

-- a tally of no lemma
abbrev pub nothing : Tally
nothing = record { lemmas = 0; arcs = 0 }

-- two tallies together
abbrev pub added : (t more : Tally) → Tally
added t more = record { lemmas = t.lemmas + more.lemmas; arcs = t.arcs + more.arcs }

-- two tallies that can be added: a job has at most 8192 steps, and a row at most 513 numbers
abbrev pub Addable : (t more : Tally) → Type 0
Addable t more = (t.lemmas + more.lemmas ≤ 8192) × (t.arcs + more.arcs ≤ 8192 * 513)

-- what the trial of a kept lemma counts, if it passed
abbrev pub Tried : View → Meaning → (n : ℕ) → Option Tally → View → Meaning → Type 0
Tried s m n (Some more) s' m' = (more.lemmas ≡ 1) × Passed s m n more.arcs s' m'
Tried s m n None s' m' = Failed s m n s' m'

-- a lemma that was turned off: one that is kept is tried
abbrev pub BackLemma : View → Meaning → (n : ℕ) → (kept : Bool) → Option Tally → View → Meaning → Type 0
BackLemma s m n true r s' m' = Tried s m n r s' m'
BackLemma s m n false r s' m' = (r ≡ Some nothing) × (s' ≡ s) × (m' ≡ m)

-- one step back
abbrev pub Back : View → Meaning → StepRow → Option Tally → View → Meaning → Type 0
Back s m (Strike n) r s' m' = (r ≡ Some nothing) × (s' ≡ s) × (m' ≡ with_mark n true m)
Back s m (Lemma n) r s' m' = BackLemma s (with_mark n false m) n (slice_index_or s.rows (n - 1) blank_row).kept r s' m'

-- each lemma has a place for its row
abbrev pub Roomy : View → Type 0
Roomy s = (n : ℕ) → s.inputs < n → n ≤ s.clauses → row_start s n + suc s.variables ≤ length s.arcs

-- before the way back: only the empty lemma is marked, the arcs are all 0, and the engine shows the whole history
pub record Ready (s : View) (m : Meaning) : Type 0 where
  pub kept : marks_of (marks s) ≡ lone (last (machine_of s))
  pub no_arcs : s.arcs ≡ replicate (length s.arcs) 0
  pub rooms : Roomy s
  pub holds : Holds m s
  pub shows : Shows m (inputs_of s) (steps_of s)
  pub uncounted : m.answers ≡ 0

-- what the lists say once all steps are passed
abbrev pub verdict_in : View → List Row → Verdict
verdict_in s rows = record { kept = marks_of (marks s); rows = rows }

-- every kept lemma passed
pub record Judges (s s' : View) (m' : Meaning) (t' : Tally) : Type 0 where
  pub rows : List Row
  pub count : ℕ
  pub checks : Checks (machine_of s) (accepted (verdict_in s' rows) (report (inputs_of s) (verdict_in s' rows) count))
  pub arc_list : s'.arcs ≡ arcs_of s rows
  pub counted : m'.answers ≡ min count most
  pub holds : Holds m' s
  pub shows : Shows m' (inputs_of s) []
  pub all_lemmas : t'.lemmas ≡ length rows
  pub all_arcs : t'.arcs ≡ arcs rows

-- the lemma at a step did not pass
pub record TurnsDown (s : View) (step : ℕ) (m' : Meaning) : Type 0 where
  pub count : ℕ
  pub checks : Checks (machine_of s) (fails step count)
  pub counted : m'.answers ≡ min count most
  pub holds : Holds m' s
  pub level : length m'.on ≡ length m'.texts

-- what the way back gives: a count of the lemmas that passed, or the step of one that did not
abbrev pub Walked : View → Result Tally ℕ → View → Meaning → Type 0
Walked s (Ok t') s' m' = Judges s s' m' t'
Walked s (Err step) s' m' = TurnsDown s step m'
