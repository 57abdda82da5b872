use Rattle.text.proofs.Readings.{formula_standard}
use Rattle.text.proofs.laws.formulas_are_read_in_standard_form.Goals as goal

pub returns : goal.returns
returns c = formula_standard
