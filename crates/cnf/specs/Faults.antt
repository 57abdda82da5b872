-- The number, the layer and the place of a clause's refusal.
use Rattle.std.specs.Prelude.{ℕ}
use Rattle.cnf.specs.declared.faults.Layer.{Layer}
use Rattle.cnf.specs.declared.faults.Layer.TheVariants.{Clause}
use Rattle.cnf.specs.declared.faults.ClauseFault.{ClauseFault}
use Rattle.cnf.specs.declared.faults.ClauseFault.TheVariants.{OutOfRange, Repeated}

abbrev pub number_of : ClauseFault → ℕ
number_of (OutOfRange place) = 4
number_of (Repeated place) = 5

abbrev pub layer_of : ClauseFault → Layer
layer_of fault = Clause

abbrev pub place_of : ClauseFault → ℕ
place_of (OutOfRange place) = place
place_of (Repeated place) = place
