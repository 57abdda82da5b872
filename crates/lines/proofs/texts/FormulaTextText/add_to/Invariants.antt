use Rattle.std.proofs.Common.{take, vec_items}
use Rattle.std.specs.List.{flat_map}
use Rattle.lines.specs.Pages.{Adds}
use Rattle.lines.specs.Texts.{clause_line}
use Rattle.lines.proofs.texts.FormulaTextText.add_to.Given as goal

abbrev pub invariant-loop-clause : goal.invariant-loop-clause
invariant-loop-clause l = Adds l.initial.page (flat_map (λ v. clause_line (vec_items v)) (take l.clause-index l.clause-items)) l.page
