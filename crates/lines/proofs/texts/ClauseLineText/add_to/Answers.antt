use Rattle.std.proofs.Common.{get_or, take, codes, sym, ap, ◌∙◌, arith}
use Rattle.std.specs.List.{flat_map}
use Rattle.std.proofs.lemmas.Bool.{eqb-true}
use Rattle.std.proofs.lemmas.List.{append_assoc, length-append, take_all}
use Rattle.std.proofs.lemmas.List.Folds.{length-flat_map-take}
use Rattle.lines.specs.Texts.{literal_text, literal_word}
use Rattle.lines.proofs.Additions.{adds_then, adds_as, adds_full}
use Rattle.lines.proofs.Joins.{none, joined_push}
use Rattle.lines.proofs.texts.ClauseLineText.add_to.Goals as goal

pub loop-literal-preserved : goal.loop-literal-preserved
loop-literal-preserved c =
    let xs = c.args.self.now.0.now in
    let i = c.loop-literal.literal-index in
    adds_as (sym (joined_push literal_word xs i none c.loop-literal-test.true)) (adds_then c.loop-literal.invariant c.add_word.ensures)

pub returns : goal.returns
returns c =
    let all = ap (flat_map literal_word) (take_all c.loop-literal.literal-index c.args.self.now.0.now c.loop-literal-test.false) in
    adds_then (adds_as all c.loop-literal.invariant) c.add.ensures

pub returns-then-is_full : goal.returns-then-is_full
returns-then-is_full c =
    let xs = c.args.self.now.0.now in
    let i = c.loop-literal.literal-index in
    let some = length-flat_map-take literal_word xs i none c.loop-literal-test.true in
    let more = length-append (flat_map literal_word xs) (codes "0\n") in
    let full = eqb-true _ _ (sym c.is_full.ensures.full ∙ c.if-is_full.true) in
    adds_full (omega (arith, c.is_full.ensures.past)) full (omega arith) c.loop-literal.invariant
