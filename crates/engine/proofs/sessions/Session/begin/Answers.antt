use Rattle.std.proofs.Common.{true, List, refl, ap}
use Rattle.std.proofs.lemmas.Result.{err_from_is_err_and}
use Rattle.cnf.specs.declared.literals.Forced.{Forced}
use Rattle.engine.specs.Meaning.{with_trail, with_opened}
use Rattle.engine.specs.Sessions.{in_session}
use Rattle.engine.proofs.Refusing.{judged_fault, judged_none, shut_passes}
use Rattle.engine.proofs.sessions.Session.begin.Goals as goal

pub returns-in_err-ensure_shut : goal.returns-in_err-ensure_shut
returns-in_err-ensure_shut c m =
    let p = err_from_is_err_and c.from_residual.result c.from_residual.ensures.1 in
    rw (p.1, p.2) (judged_fault _ _ (c.in_err-ensure_shut.ensures m), refl)

pub returns : goal.returns
returns c m =
    let none = c.in_ok-ensure_shut.ensures m in
    let was = in_session c.args.self.now m in
    (judged_none _ none, ap (λ (t : List Forced). with_trail t (with_opened true was)) (c.args.self.now.at_rest (shut_passes was none)))
