-- How a job is opened.
use Rattle.std.specs.Prelude.{ℕ, ◌*◌, Bool, false, cond, ◌||◌, List, length, is_ok, Ok, Err, Result, ◌==◌, nat_lt}
use Rattle.std.proofs.Math.Option.{none}
use Rattle.cnf.specs.declared.literals.Literal.{Literal}
use Rattle.drup.specs.Forward.{opened}
use Rattle.drup.specs.Box.{Box}
use Rattle.job.specs.declared.faults.JobFault.{JobFault}
use Rattle.job.specs.declared.faults.JobFault.TheVariants.{TooSmall, Limits}
use Rattle.job.specs.declared.jobs.opening.Size.{Size}
use Rattle.job.specs.declared.rows.ClauseRow.{ClauseRow}
use Rattle.job.specs.declared.rows.StepRow.{StepRow}
use Rattle.job.specs.View.{View}

-- a job has at most 512 variables, 1 to 4096 clause places and at most 32768 literal places
abbrev pub out_of_range : Size → Bool
out_of_range size = nat_lt 512 size.variables || (size.places == 0 || (nat_lt 4096 size.places || nat_lt 32768 size.room))

-- there are fewer records or literals than places, or fewer than two steps to a clause place
abbrev pub too_short : Size → List ClauseRow → List StepRow → List Literal → Bool
too_short size rows steps lits = nat_lt (length rows) size.places || (nat_lt (length steps) (2 * size.places) || nat_lt (length lits) size.room)

-- whether a job can be opened over these lists
abbrev pub fitting : Size → List ClauseRow → List StepRow → List Literal → Result (Unit {0}) JobFault
fitting size rows steps lits = cond (out_of_range size) (Err Limits) (cond (too_short size rows steps lits) (Err TooSmall) (Ok tt))

-- the size of a job as it is opened: one that does not fit has no variable and no place
abbrev pub opened_size : Size → List ClauseRow → List StepRow → List Literal → Size
opened_size size rows steps lits = cond (is_ok (fitting size rows steps lits)) size (record { variables = 0; places = 0; room = 0 })

-- a job as it is opened, with nothing in it
abbrev pub opened_over : Size → List ClauseRow → List StepRow → List Literal → (arcs : List ℕ) → View
opened_over size rows steps lits arcs =
    let its = opened_size size rows steps lits in
    record {
      variables = its.variables;
      places = its.places;
      room = its.room;
      rows = rows;
      steps = steps;
      lits = lits;
      arcs = arcs;
      inputs = 0;
      clauses = 0;
      taken = 0;
      used = 0;
      judged = false;
    }

-- a box that was told nothing, and is not judged
abbrev pub new_box : (variables places room : ℕ) → Box
new_box variables places room = record { machine = opened variables places room; verdict = none }
