use Rattle.std.proofs.Common.{◌^◌, ◌<◌, length, vec_items, arith, rules}
use Rattle.std.proofs.lemmas.List.{length-map}
use Rattle.text.specs.Memory.{formula_in}
use Rattle.text.proofs.Round.{written_back}
use Rattle.text.proofs.standard.write_formula.Goals as goal

pub returns-clause-back : goal.returns-clause-back
returns-clause-back c =
    let f = formula_in c.args.formula.now in
    let fits : length f.all < 2 ^ 64 =
    omega (arith, length-map (vec_items c.args.formula.now.clauses) vec_items, c.deref.ensures.len, c.deref.type_inv.0) in
    written_back f c.args.out.now c.write_formula.result c.write_formula.new.out fits (search rules)
