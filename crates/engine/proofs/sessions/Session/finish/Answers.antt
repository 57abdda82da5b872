use Rattle.std.proofs.Common.{false, List, refl, ap}
use Rattle.std.proofs.lemmas.Result.{err_from_is_err_and}
use Rattle.cnf.specs.declared.literals.Forced.{Forced}
use Rattle.engine.specs.Meaning.{with_trail, with_opened}
use Rattle.engine.specs.Sessions.{in_session}
use Rattle.engine.proofs.Refusing.{judged_fault, judged_none}
use Rattle.engine.proofs.sessions.Session.finish.Goals as goal

pub returns-in_err-ensure_open : goal.returns-in_err-ensure_open
returns-in_err-ensure_open c m =
    let p = err_from_is_err_and c.from_residual.result c.from_residual.ensures.1 in
    rw (p.1, p.2) (judged_fault _ _ (c.in_err-ensure_open.ensures m), refl)

pub returns : goal.returns
returns c m = (
  judged_none _ (c.in_ok-ensure_open.ensures m),
  ap (λ (t : List Forced). with_trail t (with_opened false (in_session c.args.self.now m))) c.clear.ensures,
)
