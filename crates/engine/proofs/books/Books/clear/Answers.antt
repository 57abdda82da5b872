use Rattle.std.proofs.Common.{refl, ap, ◌∙◌}
use Rattle.std.proofs.lemmas.Result.{err_from_is_err_and}
use Rattle.engine.specs.declared.limits.Limits.{Limits}
use Rattle.engine.specs.Books.{in_books}
use Rattle.engine.proofs.Refusing.{alike, judged_fault, judged_none, shut_passes}
use Rattle.engine.proofs.books.Books.clear.Goals as goal

pub returns-in_err-ensure_shut-clause-clears : goal.returns-in_err-ensure_shut-clause-clears
returns-in_err-ensure_shut-clause-clears c texts marks =
    let p = err_from_is_err_and c.from_residual.result c.from_residual.ensures.1 in
    rw (p.1, p.2) (judged_fault _ _ (c.in_err-ensure_shut.ensures (in_books c.args.self.now texts marks)), refl)

pub returns-clause-clears : goal.returns-clause-clears
returns-clause-clears c texts marks =
    let m = in_books c.args.self.now texts marks in
    let none = c.in_ok-ensure_shut.ensures m in
    let closed = c.restart.ensures.kept.1 ∙ shut_passes m none in
    let limits = c.clear.ensures.limits in (
      judged_none _ none,
      alike refl refl (c.restart.new.self.at_rest closed) closed c.restart.ensures.answers
          (ap (λ (l : Limits). l.texts) limits) (ap (λ (l : Limits). l.literals) limits),
      c.clear.ensures.empty,
    )
