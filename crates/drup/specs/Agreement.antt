-- What the box owes to the forward check.
use Rattle.std.specs.Prelude.{◌≡◌, ℕ, suc, ◌<◌, ◌≤◌, true, List, [], ◌∷◌, ◌++◌, map, length}
use Rattle.std.proofs.Math.Option.{some}
use Rattle.cnf.specs.Literals.{complement}
use Rattle.cnf.specs.Clauses.{Clause, ◌∈◌, Unsatisfiable}
use Rattle.cnf.specs.Propagation.{Lean, Passes}
use Rattle.drup.specs.History.{Step, table, next_number, text, Live, LiveClause, LearnedAfter}
use Rattle.drup.specs.Marks.{sieved, kept_lemmas, lemma_numbers}
use Rattle.drup.specs.Forward.{Machine, opened, Call, clause, lemma, refused, fed, Accepts, NoneRefused}
use Rattle.drup.specs.Backward.{Row, Verdict, arcs, Report, Outcome, accepted, fails}
use Rattle.drup.specs.Box.{Box, Lent, arcs_needed, check_refused, last, Event, called, unchecked, checked, Happens, Run, calls}

-- the kept input clauses
abbrev pub core : Machine → Verdict → List Clause
core m v = sieved v.kept m.inputs

-- the kept lemmas
abbrev pub trimmed_proof : Machine → Verdict → List Clause
trimmed_proof m v = kept_lemmas v.kept m.inputs m.steps

-- the core and then the trimmed proof, as calls, newest first
abbrev pub trimmed : Machine → Verdict → List Call
trimmed m v = map lemma (trimmed_proof m v) ++ map clause (core m v)

-- a new machine with the same variables and places
abbrev pub renewed : Machine → Machine
renewed m = opened m.variables m.clause_places m.literal_places

-- a clause leads to the empty lemma if it is that lemma or stands in the row of one that does
pub data Leads (empty : ℕ) (rows : List Row) : ℕ → Type 0 where
  is_empty : {n : ℕ} → n ≡ empty → Leads empty rows n
  antecedent :
      {n : ℕ} (row : Row) → row ∈ rows → n ∈ row.antecedents → Leads empty rows row.lemma_number → Leads empty rows n

-- a row of the lemma c, learned behind these steps: in its order a derivation from clauses live there by which c passes,
-- with no idle entry, at most one longer than there are variables
pub record Derives (variables : ℕ) (inputs : List Clause) (earlier : List Step) (c : Clause) (row : Row) : Type 0 where
  pub its_number : row.lemma_number ≡ next_number inputs earlier
  pub short : length row.antecedents ≤ suc variables
  pub live : (n : ℕ) → n ∈ row.antecedents → Live inputs earlier n
  pub lean : Lean (LiveClause inputs earlier) (map complement c) (map (text (table inputs earlier)) row.antecedents)

-- the row of some lemma of the job
abbrev pub RightRow : Machine → Row → Type 0
RightRow m row =
    (c : Clause) × (earlier : List Step) × LearnedAfter earlier c m.steps × Derives m.variables m.inputs earlier c row

-- the one row that a verdict has for a kept lemma
pub record RowOf (variables : ℕ) (inputs : List Clause) (v : Verdict) (earlier : List Step) (c : Clause) : Type 0 where
  pub row : Row
  pub recorded : row ∈ v.rows
  pub the_only : (other : Row) → other ∈ v.rows → other.lemma_number ≡ row.lemma_number → other ≡ row
  pub all_kept : (n : ℕ) → n ∈ row.antecedents → v.kept n ≡ true
  pub derives : Derives variables inputs earlier c row

-- what a verdict on a machine is worth
pub record Certified (m : Machine) (v : Verdict) : Type 0 where
  -- the core is drawn from the inputs, and no assignment satisfies it
  pub drawn : (c : Clause) → c ∈ core m v → c ∈ m.inputs
  pub unsatisfiable : Unsatisfiable (core m v)
  -- a new machine takes the core and the trimmed proof, and accepts
  pub none_refused : NoneRefused (renewed m) (trimmed m v)
  pub accepted_again : Accepts (fed (renewed m) (trimmed m v))
  -- only numbers of clauses are kept, and each leads to the empty lemma
  pub all_numbers : (n : ℕ) → v.kept n ≡ true → (1 ≤ n) × (n ≤ last m)
  pub all_lead : (n : ℕ) → v.kept n ≡ true → Leads (last m) v.rows n
  -- the rows are those of the kept lemmas, one for each, lowest number first
  pub rows_right : (row : Row) → row ∈ v.rows → RightRow m row
  pub rows_kept : (row : Row) → row ∈ v.rows → v.kept row.lemma_number ≡ true
  pub every_row :
      (c : Clause) (earlier : List Step) → LearnedAfter earlier c m.steps
      → v.kept (next_number m.inputs earlier) ≡ true → RowOf m.variables m.inputs v earlier c
  pub rows_in_order : map (λ row. row.lemma_number) v.rows ≡ lemma_numbers v.kept m.inputs m.steps []

-- what an accepting check reports is so; it was answered at least as often as there are arcs, and at most once for each
-- arc place that it needed
pub record Reported (m : Machine) (v : Verdict) (r : Report) : Type 0 where
  pub inputs_kept : r.input_count ≡ length (core m v)
  pub lemmas_kept : r.lemma_count ≡ length (trimmed_proof m v)
  pub arcs_drawn : r.arc_count ≡ arcs v.rows
  pub arcs_answered : r.arc_count ≤ r.answer_count
  pub answers_few : r.answer_count ≤ arcs_needed m

-- the lemma at a step was kept by the rule, since right rows of later lemmas, one for each, lead from it to the empty
-- lemma; and it does not pass. There were more answers than arcs
pub record FailsAt (m : Machine) (step answers : ℕ) : Type 0 where
  pub unproved : Clause
  pub earlier : List Step
  pub stands : LearnedAfter earlier unproved m.steps
  pub at_step : step ≡ suc (length earlier)
  pub rows : List Row
  pub rows_right : (row : Row) → row ∈ rows → RightRow m row
  pub rows_later : (row : Row) → row ∈ rows → next_number m.inputs earlier < row.lemma_number
  pub one_each : (a b : Row) → a ∈ rows → b ∈ rows → a.lemma_number ≡ b.lemma_number → a ≡ b
  pub leads : Leads (last m) rows (next_number m.inputs earlier)
  pub passes_not : Passes (LiveClause m.inputs earlier) unproved → ⊥
  pub arcs_answered : arcs rows < answers
  pub answers_few : answers ≤ arcs_needed m

-- what the latest event says of the forward machine as it stood before it: both turn a call down by the same number, a
-- report is so, and where a check fails, it fails rightly and the forward check does not accept
abbrev pub Answered : (forward : Machine) → Event → Type 0
Answered forward (called call n) = n ≡ refused forward call
Answered forward (unchecked lent n) = n ≡ check_refused forward lent
Answered forward (checked lent (accepted v r)) = Reported forward v r
Answered forward (checked lent (fails step answers)) = FailsAt forward step answers × (Accepts forward → ⊥)

-- the latest event, after the calls before it
abbrev pub LatestAnswered : (new : Machine) → List Event → Type 0
LatestAnswered new [] = Unit {0}
LatestAnswered new (event ∷ earlier) = Answered (fed new (calls earlier)) event

-- a box after these events, beside a forward machine that was fed just the arguments of their calls
pub record Agrees (new : Machine) (events : List Event) (box : Box) : Type 0 where
  pub same : box.machine ≡ fed new (calls events)
  pub verdict_stands : (v : Verdict) → box.verdict ≡ some v → Certified (fed new (calls events)) v
  pub latest_answered : LatestAnswered new events

-- the box agrees with the forward check after every event of every run: what led to an event is a run too
abbrev pub Agreement : Type 0
Agreement =
    (variables clause_places literal_places : ℕ) (events : List Event) (box : Box)
    → Run (opened variables clause_places literal_places) events box
    → Agrees (opened variables clause_places literal_places) events box

-- a check that is not turned down comes to an outcome, and where the forward check accepts, to a verdict
abbrev pub EveryCheckEnds : Type 0
EveryCheckEnds =
    (variables clause_places literal_places : ℕ) (events : List Event) (box : Box) (lent : Lent)
    → Run (opened variables clause_places literal_places) events box
    → check_refused box.machine lent ≡ 0
    → ((outcome : Outcome) × (next : Box) × Happens box (checked lent outcome) next)
    × (Accepts (fed (opened variables clause_places literal_places) (calls events))
    → (v : Verdict) × (r : Report) × (next : Box) × Happens box (checked lent (accepted v r)) next)
