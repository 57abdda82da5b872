use Rattle.std.proofs.Common.{length, get_or, take, vec_items, codes, sym, ap, ◌∙◌, arith}
use Rattle.std.specs.List.{flat_map}
use Rattle.std.proofs.lemmas.Bool.{eqb-true}
use Rattle.std.proofs.lemmas.List.{length-append, take_all}
use Rattle.std.proofs.lemmas.List.Folds.{length-flat_map-take}
use Rattle.lines.specs.Texts.{literal_word, clause_line, heading_line}
use Rattle.lines.proofs.Additions.{adds_then, adds_as, adds_full}
use Rattle.lines.proofs.Joins.{joined_read, formula_of}
use Rattle.lines.proofs.texts.FormulaTextText.add_to.Goals as goal

pub loop-clause-preserved : goal.loop-clause-preserved
loop-clause-preserved c =
    let line = ap clause_line c.deref.ensures.value in
    let more = joined_read (λ v. clause_line (vec_items v)) c.args.self.now.clauses.now c.loop-clause.clause-index c.clause-item.result _ c.loop-clause-test.true c.clause-item.is line in
    adds_as (sym more) (adds_then c.loop-clause.invariant c.add_to-in-loop-clause.ensures)

pub returns-then-is_full : goal.returns-then-is_full
returns-then-is_full c =
    let text = c.args.self.now in
    let xs = text.clauses.now in
    let i = c.loop-clause.clause-index in
    let x = c.clause-item.result in
    let ahead = flat_map (λ v. clause_line (vec_items v)) (take i xs) in
    let some = length-flat_map-take (λ v. clause_line (vec_items v)) xs i x c.loop-clause-test.true in
    let line = length-append (flat_map literal_word (vec_items (get_or xs i x))) (codes "0\n") in
    let heading = c.heading.ensures ∙ ap (λ v. heading_line v (length xs)) c.from.ensures in
    let more = length-append (heading_line text.variables (length xs)) ahead in
    let all = length-append (heading_line text.variables (length xs)) (flat_map (λ v. clause_line (vec_items v)) xs) in
    let full = eqb-true _ _ (sym c.is_full.ensures.full ∙ c.if-is_full.true) in
    adds_as (sym (formula_of text.variables vec_items xs)) (adds_full (omega (arith, c.is_full.ensures.past)) full (omega arith) (adds_then (adds_as heading c.add_to.ensures) c.loop-clause.invariant))

pub returns : goal.returns
returns c =
    let text = c.args.self.now in
    let all = ap (flat_map (λ v. clause_line (vec_items v))) (take_all c.loop-clause.clause-index text.clauses.now c.loop-clause-test.false) in
    let heading = c.heading.ensures ∙ ap (λ v. heading_line v (length text.clauses.now)) c.from.ensures in
    adds_as (sym (formula_of text.variables vec_items text.clauses.now)) (adds_then (adds_as heading c.add_to.ensures) (adds_as all c.loop-clause.invariant))
