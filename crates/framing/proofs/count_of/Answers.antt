use Rattle.std.proofs.Common.{◌≡◌, leb, sym, rules}
use Rattle.std.specs.Bool.{then_some}
use Rattle.framing.proofs.Numbers.{says, says_none}
use Rattle.framing.proofs.count_of.Goals as goal

pub returns-then-not-is_unsigned : goal.returns-then-not-is_unsigned
returns-then-not-is_unsigned c = says_none c.args.line.now (sym c.if-not-is_unsigned.ensures)

pub returns : goal.returns
returns c =
    let line = c.args.line.now in
    let count = c.value16-count.result in
    let ran : c.then_some.result ≡ then_some (leb count 32768) count = search rules in
    rw ran (says line count (sym c.if-not-is_unsigned.ensures) c.value16-count.ensures)
