-- What a check does to a job, to its box and to the engine.
use Rattle.std.specs.Prelude.{◌≡◌, ℕ, Bool, true, false, cond, [], ◌∷◌, length, replicate, Ok, Err, Result, ◌==◌}
use Rattle.drup.specs.History.{ended}
use Rattle.drup.specs.Backward.{accepted, fails}
use Rattle.drup.specs.Backward.{Report as Told}
use Rattle.drup.specs.Box.{Lent, Event, Checks, checked, unchecked}
use Rattle.drup.specs.Reading.{verdict_at}
use Rattle.engine.specs.Meaning.{Meaning}
use Rattle.job.specs.declared.faults.JobFault.{JobFault}
use Rattle.job.specs.declared.faults.JobFault.TheVariants.{Fails}
use Rattle.job.specs.declared.jobs.reports.Report.{Report}
use Rattle.job.specs.Faults.{number_of, place_of}
use Rattle.job.specs.View.{View, texts, marks, with_rows, with_arcs, with_judged}
use Rattle.job.specs.History.{steps_of, machine_of}
use Rattle.job.specs.CheckLists.{mark_all, unmarked, arcs_of, Framed}
use Rattle.job.specs.CheckShowing.{Shut}
use Rattle.job.specs.CheckFrame.{Large}
use Rattle.job.specs.CheckWalking.{Roomy}

-- only the empty lemma is marked, and the arcs are 0
abbrev pub begun : View → View
begun s = with_rows (mark_all (s.clauses ∷ []) (unmarked s.clauses s.rows)) (with_arcs (replicate (length s.arcs) 0) s)

-- no clause is marked, and the arcs are 0
abbrev pub wiped : View → View
wiped s = with_rows (unmarked s.clauses s.rows) (with_arcs (replicate (length s.arcs) 0) s)

-- what a check that is not refused can rest on
pub record Allowed (s : View) (m : Meaning) : Type 0 where
  pub is_ended : ended (steps_of s) ≡ true
  pub shut : Shut m
  pub large : Large s m
  pub rooms : Roomy s

-- what was lent
abbrev pub lent_by : View → Meaning → Lent
lent_by s m = record { clause_limit = m.text_limit; literal_limit = m.literal_limit; trial_open = m.opened; arc_places = length s.arcs }

-- a report in the model's words
abbrev pub told : Report → Told
told r = record { input_count = r.inputs; lemma_count = r.lemmas; arc_count = r.arcs; answer_count = r.answers }

-- what a check was, by its answer and by what it left
abbrev pub event_of : Lent → Result Report JobFault → View → Meaning → Event
event_of lent (Ok r) s' m' = checked lent (accepted (verdict_at (machine_of s') (marks s') s'.arcs) (told r))
event_of lent (Err fault) s' m' =
    cond (number_of fault == 14) (checked lent (fails (place_of fault) m'.answers)) (unchecked lent (number_of fault))

-- a check on lists that are not judged yet: it accepts, and the arc list has the rows of the kept lemmas, each at its
-- place, and zeros elsewhere
pub record Accepts (s : View) (r : Report) (s' : View) : Type 0 where
  pub framed : Framed s s'
  pub checks : Checks (machine_of s) (accepted (verdict_at (machine_of s) (marks s') s'.arcs) (told r))
  pub arc_list : s'.arcs ≡ arcs_of s (verdict_at (machine_of s) (marks s') s'.arcs).rows

-- or a lemma does not pass, and no mark and no arc is left
abbrev pub Comes : View → Result Report JobFault → View → Meaning → Type 0
Comes s (Ok r) s' m' = Accepts s r s' × (r.answers ≡ m'.answers)
Comes s (Err fault) s' m' = (s' ≡ wiped s) × ((step : ℕ) × (fault ≡ Fails step) × Checks (machine_of s) (fails step m'.answers))

-- the engine ends with the job's texts, none on, and no trial
pub record Idle (s : View) (m' : Meaning) : Type 0 where
  pub its_texts : m'.texts ≡ texts s
  pub none_on : m'.on ≡ replicate s.clauses false
  pub no_trail : m'.trail ≡ []
  pub shut : Shut m'

-- what a refused check leaves: one that begins and fails leaves no mark, no arc and a job that is not judged; another
-- leaves all as it was
abbrev pub LeavesRefused : (fails : Bool) → View → Meaning → View → Meaning → Type 0
LeavesRefused true s m s' m' = (s' ≡ with_judged false (wiped s)) × Idle s m'
LeavesRefused false s m s' m' = (s' ≡ s) × (m' ≡ m)

-- what a check leaves of the job and of the engine: where it accepts, all but marks and arcs stays, and the job is judged
abbrev pub Leaves : View → Meaning → Result Report JobFault → View → Meaning → Type 0
Leaves s m (Ok r) s' m' =
    Framed (with_judged true s) s'
    × (s'.arcs ≡ arcs_of s (verdict_at (machine_of s') (marks s') s'.arcs).rows)
    × (r.answers ≡ m'.answers)
    × Idle s m'
Leaves s m (Err fault) s' m' = LeavesRefused (number_of fault == 14) s m s' m'
