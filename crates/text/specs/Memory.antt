-- A formula in memory.
use Rattle.std.specs.Prelude.{◌≡◌, List, ◌++◌, map, Ok, Err, vec_items, Result}
use Rattle.cnf.specs.Clauses.{Clause}
use Rattle.text.specs.declared.memory.Formula.{Formula}
use Rattle.text.specs.declared.memory.ReadFault.{ReadFault}
use Rattle.text.specs.declared.memory.ReadFault.TheVariants.{Text, Memory}
use Rattle.text.specs.Formulas.{Formula', Read}

-- the formula that stands in memory
abbrev pub formula_in : Formula → Formula'
formula_in f = record { highest = f.variables; all = map vec_items (vec_items f.clauses) }

-- clauses ahead of those that are read
abbrev pub with_clauses : List Clause → Read → Read
with_clauses cs (Ok f) = Ok (record { highest = f.highest; all = cs ++ f.all })
with_clauses cs (Err fault) = Err fault

-- what is read is the formula or the fault, unless memory is wanting
abbrev pub ReadsAs : Read → Result Formula ReadFault → Type 0
ReadsAs read (Ok f) = read ≡ Ok (formula_in f)
ReadsAs read (Err (Text fault)) = read ≡ Err fault
ReadsAs read (Err Memory) = Unit {0}
