use Rattle.std.proofs.Common.{List, [], ◌∷◌, ◌++◌, ℕ, sym, ap, arith}
use Rattle.std.proofs.lemmas.Fmt.{decimal_digit}
use Rattle.lines.proofs.Additions.{adds_then, adds_as}
use Rattle.lines.proofs.texts.add_word.Goals as goal

pub returns-then-literal : goal.returns-then-literal
returns-then-literal c =
    let l = c.args.literal in
    rw (c.if-literal.true) (adds_as (ap (λ (ds : List ℕ). 45 ∷ (ds ++ 32 ∷ [])) (sym (decimal_digit l.variable (omega arith)))) c.add.ensures)

pub returns-then-literal-lt10 : goal.returns-then-literal-lt10
returns-then-literal-lt10 c =
    let l = c.args.literal in
    rw (c.if-literal.false) (adds_as (ap (λ (ds : List ℕ). ds ++ 32 ∷ []) (sym (decimal_digit l.variable (omega arith)))) c.add-then-literal-lt10.ensures)

pub returns : goal.returns
returns c = adds_then c.add_to.ensures c.add_if.ensures
