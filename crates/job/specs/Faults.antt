-- The number, the layer and the place of a job's refusal.
use Rattle.std.specs.Prelude.{ℕ}
use Rattle.cnf.specs.declared.faults.Layer.{Layer}
use Rattle.cnf.specs.declared.faults.Layer.TheVariants.{Job}
use Rattle.cnf.specs.Faults.{number_of as clause_number, layer_of as clause_layer, place_of as clause_place}
use Rattle.job.specs.declared.faults.JobFault.{JobFault}
use Rattle.job.specs.declared.faults.JobFault.TheVariants.{Clause, TooSmall, Limits, Begun, Ended, Full, NoneLive, NoStep, NotEnded, Fails, NotJudged, TrialOpen}

abbrev pub number_of : JobFault → ℕ
number_of (Clause fault) = clause_number fault
number_of TooSmall = 6
number_of Limits = 7
number_of Begun = 8
number_of Ended = 9
number_of Full = 10
number_of NoneLive = 11
number_of NoStep = 12
number_of NotEnded = 13
number_of (Fails step) = 14
number_of NotJudged = 15
number_of TrialOpen = 19

abbrev pub layer_of : JobFault → Layer
layer_of (Clause fault) = clause_layer fault
layer_of TooSmall = Job
layer_of Limits = Job
layer_of Begun = Job
layer_of Ended = Job
layer_of Full = Job
layer_of NoneLive = Job
layer_of NoStep = Job
layer_of NotEnded = Job
layer_of (Fails step) = Job
layer_of NotJudged = Job
layer_of TrialOpen = Job

abbrev pub place_of : JobFault → ℕ
place_of (Clause fault) = clause_place fault
place_of TooSmall = 0
place_of Limits = 0
place_of Begun = 0
place_of Ended = 0
place_of Full = 0
place_of NoneLive = 0
place_of NoStep = 0
place_of NotEnded = 0
place_of (Fails step) = step
place_of NotJudged = 0
place_of TrialOpen = 0
