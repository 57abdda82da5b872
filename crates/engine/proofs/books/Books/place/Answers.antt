use Rattle.std.proofs.Common.{◌-◌, Option, sym, ap, ◌∙◌}
use Rattle.std.proofs.lemmas.Bool.{cond-false}
use Rattle.std.proofs.lemmas.Result.{err_from_is_err_and}
use Rattle.engine.specs.declared.faults.EngineFault.{EngineFault}
use Rattle.engine.specs.Limits.{unless}
use Rattle.engine.specs.Books.{in_books}
use Rattle.engine.proofs.Refusing.{shut_refuses, shut_passes, placed_is}
use Rattle.engine.proofs.books.Books.place.Goals as goal

pub returns-in_err-ensure_shut : goal.returns-in_err-ensure_shut
returns-in_err-ensure_shut c texts marks counted =
    let m = in_books c.args.self.now texts marks in
    let p = err_from_is_err_and c.from_residual.result c.from_residual.ensures.1 in
    rw (p.1, p.2)
    (sym (ap (λ (o : Option EngineFault). unless o (c.args.number - 1)) (shut_refuses m _ _ (c.in_err-ensure_shut.ensures m))))

pub returns : goal.returns
returns c texts marks counted =
    let n = c.args.number in
    let m = in_books c.args.self.now texts marks in
    let shut = shut_passes m (c.in_ok-ensure_shut.ensures m) in
    c.place.ensures ∙ placed_is m _ n counted ∙ ap (λ (o : Option EngineFault). unless o (n - 1)) (sym (cond-false m.opened _ _ shut))
