use Rattle.text.specs.Memory.{formula_in}
use Rattle.text.proofs.Round.{printed_again}
use Rattle.text.proofs.standard.print_standard.Goals as goal

pub returns-in_ok-write_formula-in-Ok-clause-again : goal.returns-in_ok-write_formula-in-Ok-clause-again
returns-in_ok-write_formula-in-Ok-clause-again c =
    let told = c.in_ok-write_formula-in-Ok.ensures in
    printed_again c.args.text.now (formula_in c.in-Ok.formula) c.in_ok-write_formula-in-Ok.field-0 c.write_formula.new.out c.in-Ok.ensures told.back
