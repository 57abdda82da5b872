use Rattle.std.proofs.Common.{refl}
use Rattle.std.proofs.lemmas.Result.{err_from_is_err_and}
use Rattle.engine.specs.Sessions.{in_session}
use Rattle.engine.proofs.Keeping.{open_trial}
use Rattle.engine.proofs.Parts.{answer_joins}
use Rattle.engine.proofs.Refusing.{judged_fault, judged_none}
use Rattle.core_first.specs.CoreSides.{at_rest}
use Rattle.core_first.specs.CoreLaws.{core_laws}
use Rattle.core_first.proofs.CoreWhole.{goes_on}
use Rattle.core_first.proofs.serving.CoreFirstEngine.next.Goals as goal

pub returns-in_err-ensure_open-clause-does : goal.returns-in_err-ensure_open-clause-does
returns-in_err-ensure_open-clause-does g c =
    let s = c.args.self.now in
    let p = err_from_is_err_and c.from_residual.result c.from_residual.ensures.1 in
    rw (p.1, p.2) (judged_fault _ _ (c.in_err-ensure_open.ensures (at_rest g.P.Engine.meaning g.R.Engine.meaning s.sides s.books.room)), refl)

pub note-requires-clause-open : goal.note-requires-clause-open
note-requires-clause-open g c =
    let s = c.args.self.now in
    let h = at_rest g.P.Engine.meaning g.R.Engine.meaning s.sides s.books.room in
    open_trial (in_session s.books.session h) (judged_none _ (c.in_ok-ensure_open.ensures h))

pub note-requires-clause-joins : goal.note-requires-clause-joins
note-requires-clause-joins g c =
    let s = c.args.self.now in
    let h = at_rest g.P.Engine.meaning g.R.Engine.meaning s.sides s.books.room in
    let m = in_session s.books.session h in
    let none = judged_none _ (c.in_ok-ensure_open.ensures h) in
    let q = c.next-answer.ensures.answers m (open_trial m none) s.whole.backed in
    answer_joins m (core_laws g.P.Engine.meaning g.R.Engine.meaning g.P.Engine.laws s.sides s.books.room s.books.session s.whole) c.next-answer.result q.0

pub invariant_of-self : goal.invariant_of-self
invariant_of-self g c =
    let s = c.args.self.now in
    let h = at_rest g.P.Engine.meaning g.R.Engine.meaning s.sides s.books.room in
    let m = in_session s.books.session h in
    let none = judged_none _ (c.in_ok-ensure_open.ensures h) in
    let q = c.next-answer.ensures.answers m (open_trial m none) s.whole.backed in
    record { whole = (goes_on s.books.session s.whole c.next-answer.new.self c.note.new.self (c.note.ensures h) q.1).1 }

pub returns-clause-does : goal.returns-clause-does
returns-clause-does g c =
    let s = c.args.self.now in
    let h = at_rest g.P.Engine.meaning g.R.Engine.meaning s.sides s.books.room in
    let m = in_session s.books.session h in
    let none = judged_none _ (c.in_ok-ensure_open.ensures h) in
    let q = c.next-answer.ensures.answers m (open_trial m none) s.whole.backed in
    (none, q.0, (goes_on s.books.session s.whole c.next-answer.new.self c.note.new.self (c.note.ensures h) q.1).0)
