-- The number, the layer and the place of a writer's refusal.
use Rattle.std.specs.Prelude.{ℕ}
use Rattle.cnf.specs.declared.faults.Layer.{Layer}
use Rattle.cnf.specs.declared.faults.Layer.TheVariants.{Job}
use Rattle.lines.specs.declared.faults.WriteFault.{WriteFault}
use Rattle.lines.specs.declared.faults.WriteFault.TheVariants.{NoRoom}

-- a text that finds no room is refused under the number 6
abbrev pub number_of : WriteFault → ℕ
number_of NoRoom = 6

-- the room is the job's
abbrev pub layer_of : WriteFault → Layer
layer_of NoRoom = Job

-- no byte is at fault
abbrev pub place_of : WriteFault → ℕ
place_of NoRoom = 0
