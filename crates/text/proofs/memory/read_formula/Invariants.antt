use Rattle.std.proofs.Common.{◌≡◌, map, length, vec_items}
use Rattle.text.specs.Formulas.{reads, formula_of}
use Rattle.text.specs.Readers.{state_of, words_left, extent_of}
use Rattle.text.specs.Memory.{with_clauses}
use Rattle.text.proofs.memory.read_formula.Given as goal

abbrev pub invariant-loop-clauses : goal.invariant-loop-clauses
invariant-loop-clauses l =
    with_clauses (map vec_items (vec_items l.clauses)) (reads (extent_of l.reader) (state_of l.reader) (words_left l.reader)) ≡ formula_of l.text

abbrev pub decreases-loop-clauses : goal.decreases-loop-clauses
decreases-loop-clauses l = length (words_left l.reader)
