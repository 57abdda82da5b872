-- Calls replayed on a new job: the run of the box that they make.
use Rattle.std.specs.Prelude.{◌≡◌, ℕ, List, [], ◌∷◌, length, Ok, Err, Result, slice_index_or}
use Rattle.cnf.specs.declared.literals.Literal.{Literal}
use Rattle.cnf.specs.Arranging.{Arrangement, arrangement}
use Rattle.cnf.specs.Faults.{place_of as clause_place}
use Rattle.drup.specs.Forward.{Machine, opened, Call, clause, lemma, strike, withdraw}
use Rattle.drup.specs.Backward.{accepted, fails}
use Rattle.drup.specs.Box.{Box, Event, called, unchecked, checked, Happens, Run}
use Rattle.drup.specs.Agreement.{Agrees}
use Rattle.job.specs.declared.faults.JobFault.{JobFault}
use Rattle.job.specs.declared.rows.ClauseRow.{ClauseRow}
use Rattle.job.specs.declared.rows.StepRow.{StepRow}
use Rattle.job.specs.declared.jobs.orders.Order.{Order}
use Rattle.job.specs.declared.jobs.orders.Order.TheVariants.{Clause, Lemma, Strike, Withdraw, Check}
use Rattle.job.specs.View.{View}
use Rattle.job.specs.History.{box_in}
use Rattle.job.specs.Calls.{refusal, refusal_place}

-- what a read past the end of the orders would give
abbrev pub blank_order : Order
blank_order = Withdraw

-- an event is this call
abbrev pub IsCall : Call → Event → Type 0
IsCall call (called c n) = c ≡ call
IsCall call (unchecked lent n) = ⊥
IsCall call (checked lent outcome) = ⊥

-- an event is a check
abbrev pub IsCheck : Event → Type 0
IsCheck (called c n) = ⊥
IsCheck (unchecked lent n) = Unit {0}
IsCheck (checked lent outcome) = Unit {0}

-- an event is what was ordered
abbrev pub IsOrdered : Order → Event → Type 0
IsOrdered (Clause literals) event = IsCall (clause literals.now) event
IsOrdered (Lemma literals) event = IsCall (lemma literals.now) event
IsOrdered (Strike literals) event = IsCall (strike literals.now) event
IsOrdered Withdraw event = IsCall withdraw event
IsOrdered Check event = IsCheck event

-- the number by which an event was refused, 0 if it was not
abbrev pub number_in : Event → ℕ
number_in (called call n) = n
number_in (unchecked lent n) = n
number_in (checked lent (accepted v r)) = 0
number_in (checked lent (fails step answers)) = 14

-- the literal at fault, 0 if there is none
abbrev pub fault_place : Arrangement → ℕ
fault_place (Ok c) = 0
fault_place (Err fault) = clause_place fault

-- the place that comes with the refusal of an event: the literal at fault, or the step whose lemma does not pass
abbrev pub place_in : (variables : ℕ) → Event → ℕ
place_in variables (called (clause ls) n) = fault_place (arrangement variables ls)
place_in variables (called (lemma ls) n) = fault_place (arrangement variables ls)
place_in variables (called (strike ls) n) = fault_place (arrangement variables ls)
place_in variables (called withdraw n) = 0
place_in variables (unchecked lent n) = 0
place_in variables (checked lent (accepted v r)) = 0
place_in variables (checked lent (fails step answers)) = step

-- an answer tells of the refusal of an event
abbrev pub Tells : (variables : ℕ) → Event → Result (Unit {0}) JobFault → Type 0
Tells variables event r = (refusal r ≡ number_in event) × (refusal_place r ≡ place_in variables event)

-- what came of an order
pub record Came (s : View) (order : Order) (r : Result (Unit {0}) JobFault) (s' : View) : Type 0 where
  pub event : Event
  pub ordered : IsOrdered order event
  pub happened : Happens (box_in s) event (box_in s')
  pub tells : Tells s.variables event r

-- events, newest first, are what was ordered, the first order first
abbrev pub AllOrdered : List Order → List Event → Type 0
AllOrdered orders [] = Unit {0}
AllOrdered orders (event ∷ earlier) = IsOrdered (slice_index_or orders (length earlier) blank_order) event × AllOrdered orders earlier

-- an answer tells of the refusal of the latest event
abbrev pub TellsLatest : (variables : ℕ) → List Event → Result (Unit {0}) JobFault → Type 0
TellsLatest variables [] r = r ≡ Ok tt
TellsLatest variables (event ∷ earlier) r = Tells variables event r

-- after so many orders
pub record Played (new : Machine) (orders : List Order) (count : ℕ) (r : Result (Unit {0}) JobFault) (s : View) : Type 0 where
  pub events : List Event
  pub all : length events ≡ count
  pub ordered : AllOrdered orders events
  pub run : Run new events (box_in s)
  pub tells : TellsLatest new.variables events r

-- a run that agrees with the forward check after each event
abbrev pub AgreesThroughout : (new : Machine) → List Event → Box → Type 0
AgreesThroughout new [] box = Agrees new [] box
AgreesThroughout new (event ∷ earlier) box =
    Agrees new (event ∷ earlier) box × ((before : Box) × AgreesThroughout new earlier before × Happens before event box)

-- a new machine with the numbers of a job
abbrev pub new_machine : View → Machine
new_machine s = opened s.variables s.places s.room

-- all orders, on a job that began like this, left the job in these lists
pub record Replays (new : View) (orders : List Order) (r : Result (Unit {0}) JobFault) (rows : List ClauseRow) (steps : List StepRow) (lits : List Literal) (arcs : List ℕ) : Type 0 where
  pub after : View
  pub its_rows : rows ≡ after.rows
  pub its_steps : steps ≡ after.steps
  pub its_lits : lits ≡ after.lits
  pub its_arcs : arcs ≡ after.arcs
  pub played : Played (new_machine new) orders (length orders) r after
  pub agrees : AgreesThroughout (new_machine new) played.events (box_in after)
