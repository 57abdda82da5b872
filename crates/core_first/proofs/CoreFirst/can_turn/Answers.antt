use Rattle.std.proofs.Common.{◌-◌, sym, ap}
use Rattle.std.proofs.lemmas.Result.{err_from_is_err_and}
use Rattle.engine.specs.Limits.{judged}
use Rattle.engine.proofs.Refusing.{unless_fault, unless_none}
use Rattle.core_first.specs.CoreSides.{core_meaning}
use Rattle.core_first.proofs.CoreFirst.can_turn.Goals as goal

pub returns-in_err-place : goal.returns-in_err-place
returns-in_err-place g c =
    let s = c.args.self.now in
    let m = core_meaning g.P.Engine.meaning g.R.Engine.meaning s.sides s.books.room s.books.session in
    let p = err_from_is_err_and c.from_residual.result c.from_residual.ensures.1 in
    rw (p.1, p.2) (ap judged (sym (unless_fault _ (c.args.number - 1) _ (c.in_err-place.ensures m.texts m.on s.whole.text_count))))

pub returns : goal.returns
returns g c =
    let s = c.args.self.now in
    let m = core_meaning g.P.Engine.meaning g.R.Engine.meaning s.sides s.books.room s.books.session in
    ap judged (sym (unless_none _ (c.args.number - 1) _ (c.in_ok-place.ensures m.texts m.on s.whole.text_count)))
