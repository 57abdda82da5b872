-- The number, the layer and the place of an engine's refusal.
use Rattle.std.specs.Prelude.{ℕ}
use Rattle.cnf.specs.declared.faults.Layer.{Layer}
use Rattle.cnf.specs.declared.faults.Layer.TheVariants.{Engine}
use Rattle.cnf.specs.Faults.{number_of as clause_number, place_of as clause_place}
use Rattle.engine.specs.declared.faults.EngineFault.{EngineFault}
use Rattle.engine.specs.declared.faults.EngineFault.TheVariants.{Clause, ListTooShort, LimitOutOfRange, Full, NoSuchText, AlreadyOn, NotOn, HasValue, TrialOpen, NoTrial}

abbrev pub number_of : EngineFault → ℕ
number_of (Clause fault) = clause_number fault
number_of ListTooShort = 6
number_of LimitOutOfRange = 7
number_of Full = 10
number_of NoSuchText = 16
number_of AlreadyOn = 17
number_of NotOn = 17
number_of HasValue = 18
number_of TrialOpen = 19
number_of NoTrial = 19

-- an engine's own refusals are all its own
abbrev pub layer_of : EngineFault → Layer
layer_of fault = Engine

abbrev pub place_of : EngineFault → ℕ
place_of (Clause fault) = clause_place fault
place_of ListTooShort = 0
place_of LimitOutOfRange = 0
place_of Full = 0
place_of NoSuchText = 0
place_of AlreadyOn = 0
place_of NotOn = 0
place_of HasValue = 0
place_of TrialOpen = 0
place_of NoTrial = 0
