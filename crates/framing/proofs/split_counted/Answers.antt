use Rattle.std.proofs.Common.{◌++◌, length, take, decimal, sym, ap, ◌∙◌, arith, rules, tests}
use Rattle.std.proofs.lemmas.Iterator.{YieldsList-from_slice}
use Rattle.std.proofs.lemmas.Iterator.Search.{position_from_yields_List}
use Rattle.std.proofs.lemmas.List.{take-append-drop}
use Rattle.framing.proofs.Splitting.{feed, line_ends, no_line, no_count, behind_is, too_short, counts_of}
use Rattle.framing.proofs.split_counted.Goals as goal

pub returns-in_err-end : goal.returns-in_err-end
returns-in_err-end c =
    let input = c.args.input.now in
    let found = position_from_yields_List feed _ _ c.position.result c.position.ensures.ran (YieldsList-from_slice input c.iter.ensures.rest) (λ x b q k. search (rules, tests)) in
    rw c.from_residual.ensures (no_line input (sym found ∙ c.in_err-end.was))

pub returns-in_err-count : goal.returns-in_err-count
returns-in_err-count c =
    let input = c.args.input.now in
    let found = position_from_yields_List feed _ _ c.position.result c.position.ensures.ran (YieldsList-from_slice input c.iter.ensures.rest) (λ x b q k. search (rules, tests)) in
    let ends = line_ends input c.in_ok-end.end (sym found ∙ c.in_ok-end.was) in
    rw c.from_residual-in_err-count.ensures (no_count input c.in_ok-end.end ends.0 c.in_err-count.ensures)

pub returns-in_err-text : goal.returns-in_err-text
returns-in_err-text c =
    let input = c.args.input.now in
    let found = position_from_yields_List feed _ _ c.position.result c.position.ensures.ran (YieldsList-from_slice input c.iter.ensures.rest) (λ x b q k. search (rules, tests)) in
    let ends = line_ends input c.in_ok-end.end (sym found ∙ c.in_ok-end.was) in
    let said = c.in_ok-count.ensures in
    let behind = behind_is input c.in_ok-end.end ends.0 in
    rw c.from_residual-in_err-text.ensures (too_short input c.in_ok-end.end c.in_ok-count.count ends.0 said.0 said.1 (omega (arith, c.in_err-text.ensures.cases, ap length behind)))

pub returns : goal.returns
returns c =
    let input = c.args.input.now in
    let found = position_from_yields_List feed _ _ c.position.result c.position.ensures.ran (YieldsList-from_slice input c.iter.ensures.rest) (λ x b q k. search (rules, tests)) in
    let ends = line_ends input c.in_ok-end.end (sym found ∙ c.in_ok-end.was) in
    let said = c.in_ok-count.ensures in
    let behind = behind_is input c.in_ok-end.end ends.0 in
    let cut = c.in_ok-text.ensures.cases in
    counts_of input c.in_ok-text.text.now c.in_ok-text.rest.now (record {
      few = omega (arith, said.0, cut.3);
      longer = omega (arith, ends);
      line = sym (ap (λ k. take k input) ends.0) ∙ said.1 ∙ ap decimal (sym cut.3);
      behind = sym behind ∙ sym (take-append-drop c.in_ok-count.count _) ∙ (λ i. sym cut.1 i ++ sym cut.2 i);
    })
