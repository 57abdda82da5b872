-- The number, the layer and the place of a text's refusal.
use Rattle.std.specs.Prelude.{ℕ}
use Rattle.cnf.specs.declared.faults.Layer.{Layer}
use Rattle.cnf.specs.declared.faults.Layer.TheVariants.{Text, Job}
use Rattle.cnf.specs.Faults.{number_of as clause_number, layer_of as clause_layer, place_of as clause_place}
use Rattle.text.specs.declared.faults.TextFault.{TextFault}
use Rattle.text.specs.declared.faults.TextFault.TheVariants.{Word, Count, Unfinished, Clause, Variables}

abbrev pub number_of : TextFault → ℕ
number_of (Word place) = 1
number_of (Count place) = 2
number_of (Unfinished place) = 3
number_of (Clause fault) = clause_number fault
number_of Variables = 7

abbrev pub layer_of : TextFault → Layer
layer_of (Word place) = Text
layer_of (Count place) = Text
layer_of (Unfinished place) = Text
layer_of (Clause fault) = clause_layer fault
layer_of Variables = Job

abbrev pub place_of : TextFault → ℕ
place_of (Word place) = place
place_of (Count place) = place
place_of (Unfinished place) = place
place_of (Clause fault) = clause_place fault
place_of Variables = 0
