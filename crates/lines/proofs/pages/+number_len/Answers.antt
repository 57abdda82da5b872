use Rattle.std.proofs.Common.{◌/◌, sym, arith}
use Rattle.std.proofs.lemmas.Fmt.{length-decimal-le}
use Rattle.itoa.proofs.Decimal.{length_one, length_two, length_pair, length_step_wide}
use Rattle.lines.proofs.pages.+number_len.Goals as goal

pub overflow_add-result : goal.overflow_add-result
overflow_add-result t c = search (arith, length-decimal-le 20 (c.args.n / 10) (omega arith) (omega arith) (omega arith))

pub returns-then-n-lt10 : goal.returns-then-n-lt10
returns-then-n-lt10 t c = sym (length_one c.args.n (omega arith))

pub returns-then-n-lt100 : goal.returns-then-n-lt100
returns-then-n-lt100 t c = sym (length_two c.args.n (omega arith) (omega arith))

pub returns-then-n-lt1000 : goal.returns-then-n-lt1000
returns-then-n-lt1000 t c =
    let n = c.args.n in
    omega (arith, length_pair n (omega arith) (omega arith), length_one (n / 100) (omega arith))

pub returns-else-n-lt1000 : goal.returns-else-n-lt1000
returns-else-n-lt1000 t c = omega (arith, length_step_wide c.args.n (omega arith) (omega arith))
