use Rattle.std.proofs.Common.{◌≡◌, ◌∙◌, rules}
use Rattle.std.specs.List.{fold}
use Rattle.words.proofs.Values.{held_on, held}
use Rattle.words.proofs.numbers.value64.Goals as goal

pub returns : goal.returns
returns c =
    let ran : c.fold.result ≡ fold (held_on 18446744073709551615) 0 c.args.digits.now = search rules in
    ran ∙ held 18446744073709551615 0 c.args.digits.now
