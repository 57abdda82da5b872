use Rattle.std.proofs.Common.{◌≡◌, ◌-◌, length, take, drop, arith, rules, tests}
use Rattle.std.specs.List.{position}
use Rattle.std.proofs.lemmas.Iterator.{YieldsList-from_slice}
use Rattle.std.proofs.lemmas.Iterator.Search.{position_from_yields_List}
use Rattle.std.proofs.lemmas.List.Sums.{prefix_len-le-length}
use Rattle.std.proofs.lemmas.Grind.{common_steps}
use Rattle.words.specs.Lexis.{blank, inner}
use Rattle.words.proofs.lexis.run.Goals as goal

pub returns-clause-place : goal.returns-clause-place
returns-clause-place c =
    let text = c.args.text.now in
    let at = c.args.at in
    let rest = drop at text in
    let found : c.position.result ≡ position blank (take (length text - at) rest) = position_from_yields_List _ _ _ _ c.position.ensures.ran (YieldsList-from_slice _ c.iter.ensures.rest) (λ x b q k. search (rules, tests)) in
    grind (arith, common_steps, found, prefix_len-le-length inner rest)
