use Rattle.std.proofs.lemmas.Result.{err_from_is_err_and}
use Rattle.engine.specs.Sessions.{in_session}
use Rattle.engine.proofs.Keeping.{closed_trial}
use Rattle.core_first.specs.CoreSides.{at_rest}
use Rattle.core_first.proofs.CoreWhole.{goes_on}
use Rattle.core_first.proofs.serving.CoreFirstEngine.begin.Goals as goal

pub invariant_of-self : goal.invariant_of-self
invariant_of-self g c =
    let s = c.args.self.now in
    let h = at_rest g.P.Engine.meaning g.R.Engine.meaning s.sides s.books.room in
    record { whole = (goes_on s.books.session s.whole s.sides c.begin.new.self (c.in_err-begin.ensures h).1 s.whole.backed).1 }

pub returns-in_err-begin : goal.returns-in_err-begin
returns-in_err-begin g c =
    let s = c.args.self.now in
    let h = at_rest g.P.Engine.meaning g.R.Engine.meaning s.sides s.books.room in
    let p = err_from_is_err_and c.from_residual.result c.from_residual.ensures.1 in
    record { does = rw (p.1, p.2) (c.in_err-begin.ensures h) }

pub invariant_of-self-2 : goal.invariant_of-self-2
invariant_of-self-2 g c =
    let s = c.args.self.now in
    let h = at_rest g.P.Engine.meaning g.R.Engine.meaning s.sides s.books.room in
    let q = c.in_ok-begin.ensures h in
    record { whole = (goes_on s.books.session s.whole c.begin-2.new.self c.begin.new.self q.1 (c.begin-2.ensures.carries _ (closed_trial (in_session s.books.session h) q.0) s.whole.backed)).1 }

pub returns : goal.returns
returns g c =
    let s = c.args.self.now in
    let h = at_rest g.P.Engine.meaning g.R.Engine.meaning s.sides s.books.room in
    let q = c.in_ok-begin.ensures h in
    record { does = (q.0, (goes_on s.books.session s.whole c.begin-2.new.self c.begin.new.self q.1 (c.begin-2.ensures.carries _ (closed_trial (in_session s.books.session h) q.0) s.whole.backed)).0) }
