-- A job as a view.
use Rattle.std.specs.Prelude.{◌≡◌}
use Rattle.job.specs.declared.jobs.Job.{Job}
use Rattle.job.specs.View.{View}

-- what a job holds
abbrev pub view : Job → View
view j = record {
  variables = j.size.variables;
  places = j.size.places;
  room = j.size.room;
  rows = j.records.now;
  steps = j.steps.now;
  lits = j.literals.now;
  arcs = j.arcs.now;
  inputs = j.inputs;
  clauses = j.clauses;
  taken = j.taken;
  used = j.used;
  judged = j.judged;
}

-- the four references are still those that were lent
abbrev pub SameLent : Job → Job → Type 0
SameLent i j =
    (j.records.ghost_name ≡ i.records.ghost_name)
    × (j.steps.ghost_name ≡ i.steps.ghost_name)
    × (j.literals.ghost_name ≡ i.literals.ghost_name)
    × (j.arcs.ghost_name ≡ i.arcs.ghost_name)

-- a job over the same references that now holds this
pub record Becomes (i : Job) (s : View) (j : Job) : Type 0 where
  pub lent : SameLent i j
  pub after : view j ≡ s
