-- The box: a machine with perhaps a verdict, what can happen to it, and its runs.
use Rattle.std.specs.Prelude.{◌≡◌, ℕ, suc, ◌*◌, Bool, not, ◌||◌, List, [], ◌∷◌, length, ◌≢◌, nat_lt}
use Rattle.std.proofs.Math.Option.{Option, none, some}
use Rattle.cnf.specs.Clauses.{literals}
use Rattle.drup.specs.History.{Step, ended, lemmas}
use Rattle.drup.specs.Marks.{lone}
use Rattle.drup.specs.Forward.{Machine, clauses, Call, Rule, rule, first_broken, refused, after, unless}
use Rattle.drup.specs.Backward.{Verdict, Outcome, accepted, fails, Backward}

-- what was told, and the verdict of a job that is judged
pub record Box : Type 0 where
  pub machine : Machine
  pub verdict : Option Verdict

-- what a check is lent: an engine with its limits, perhaps with an open trial, and the places of the arc list
pub record Lent : Type 0 where
  pub clause_limit : ℕ
  pub literal_limit : ℕ
  pub trial_open : Bool
  pub arc_places : ℕ

-- the arc places that a check needs: for each lemma as many as its row can fill
abbrev pub arcs_needed : Machine → ℕ
arcs_needed m = lemmas m.steps * suc m.variables

-- the engine or the arc list is too small
abbrev pub too_small : Machine → Lent → Bool
too_small m lent =
    (nat_lt lent.clause_limit (length (clauses m)) || nat_lt lent.literal_limit (literals (clauses m)))
    || nat_lt lent.arc_places (arcs_needed m)

-- the rules of a check, in their order. 13: no empty lemma; 6: too small; 19: a trial is open
abbrev pub check_rules : Machine → Lent → List Rule
check_rules m lent = rule 13 (not (ended m.steps)) ∷ rule 6 (too_small m lent) ∷ rule 19 lent.trial_open ∷ []

-- the number by which a check is turned down before it begins, 0 if it is not
abbrev pub check_refused : Machine → Lent → ℕ
check_refused m lent = first_broken (check_rules m lent)

-- the highest number, which the empty lemma at the end has
abbrev pub last : Machine → ℕ
last m = length (clauses m)

-- what is kept as a check begins: the empty lemma
abbrev pub empty_kept : Machine → Verdict
empty_kept m = record { kept = lone (last m); rows = [] }

-- a check comes to an outcome
abbrev pub Checks : Machine → Outcome → Type 0
Checks m outcome = Backward m.inputs m.steps (empty_kept m) 0 outcome

-- a check on its way stands before these steps: whatever it comes to from here, it comes to as a whole
abbrev pub Stands : Machine → List Step → (so_far : Verdict) → (count : ℕ) → Type 0
Stands m steps so_far count = (outcome : Outcome) → Backward m.inputs steps so_far count outcome → Checks m outcome

-- what can happen to a box
pub data Event : Type 0 where
  -- a call, and the number by which the box turned it down, 0 if it did not
  called : Call → (refusal : ℕ) → Event
  -- a check that was turned down by this number before it began
  unchecked : Lent → (refusal : ℕ) → Event
  -- a check that came to an outcome
  checked : Lent → Outcome → Event

-- the verdict that an outcome leaves
abbrev pub verdict_of : Outcome → Option Verdict
verdict_of (accepted v r) = some v
verdict_of (fails step answers) = none

-- an event takes a box to the next: an accepted call ends the verdict, and what is turned down changes nothing
abbrev pub Happens : Box → Event → Box → Type 0
Happens box (called call n) next =
    (n ≡ refused box.machine call)
    × (next ≡ unless n (record { machine = after box.machine call; verdict = none }) box)
Happens box (unchecked lent n) next = (n ≡ check_refused box.machine lent) × (n ≢ 0) × (next ≡ box)
Happens box (checked lent outcome) next =
    (check_refused box.machine lent ≡ 0)
    × Checks box.machine outcome
    × (next ≡ record { machine = box.machine; verdict = verdict_of outcome })

-- a run from a newly opened box, its events newest first
abbrev pub Run : (new : Machine) → List Event → Box → Type 0
Run new [] box = box ≡ record { machine = new; verdict = none }
Run new (event ∷ earlier) box = (before : Box) × Run new earlier before × Happens before event box

-- the calls of a run, with nothing of what the box answered
abbrev pub calls : List Event → List Call
calls [] = []
calls (called call n ∷ earlier) = call ∷ calls earlier
calls (unchecked lent n ∷ earlier) = calls earlier
calls (checked lent outcome ∷ earlier) = calls earlier
