use Rattle.std.proofs.Common.{◌≡◌, not, length, Ok, sym, refl, ap, ◌∙◌}
use Rattle.std.proofs.lemmas.Result.{err_from_is_err_and}
use Rattle.cnf.specs.Clauses.{Clause}
use Rattle.cnf.specs.Arranging.{arranged, arrangement}
use Rattle.engine.specs.Meaning.{highest}
use Rattle.engine.specs.Sessions.{in_session}
use Rattle.engine.proofs.Refusing.{put_faulty, put_full, put_done, arranges, shut_refuses, shut_passes, no_room_is}
use Rattle.core_first.specs.CoreSides.{at_rest}
use Rattle.core_first.proofs.CoreWhole.{one_more}
use Rattle.core_first.proofs.serving.CoreFirstEngine.put.Goals as goal

pub returns-in_err-ensure_shut : goal.returns-in_err-ensure_shut
returns-in_err-ensure_shut g c =
    let s = c.args.self.now in
    let h = at_rest g.P.Engine.meaning g.R.Engine.meaning s.sides s.books.room in
    let p = err_from_is_err_and c.from_residual.result c.from_residual.ensures.1 in
    record { does = rw (p.1, p.2) (shut_refuses (in_session s.books.session h) _ _ (c.in_err-ensure_shut.ensures h), refl) }

pub returns-in_err-text : goal.returns-in_err-text
returns-in_err-text g c =
    let s = c.args.self.now in
    let h = at_rest g.P.Engine.meaning g.R.Engine.meaning s.sides s.books.room in
    let shut = shut_passes (in_session s.books.session h) (c.in_ok-ensure_shut.ensures h) in
    let p = err_from_is_err_and c.from_residual-in_err-text.result c.from_residual-in_err-text.ensures.1 in
    record { does = rw (p.1, p.2) (put_faulty (in_session s.books.session h) c.args.literals.now _ shut (sym c.arrange-draft.ensures.outcome ∙ sym c.in_err-text.ensures), refl) }

pub returns-then-not-has : goal.returns-then-not-has
returns-then-not-has g c =
    let s = c.args.self.now in
    let h = at_rest g.P.Engine.meaning g.R.Engine.meaning s.sides s.books.room in
    let m = in_session s.books.session h in
    let ls = c.args.literals.now in
    let text = c.in_ok-text.text.now in
    let shut = shut_passes m (c.in_ok-ensure_shut.ensures h) in
    let clause : arrangement highest ls ≡ Ok text = sym c.arrange-draft.ensures.outcome ∙ sym c.in_ok-text.ensures in
    let room = no_room_is m _ _ (length text) s.whole.text_count s.whole.literal_count ∙ sym (ap not c.if-not-has.ensures) in
    record { does = (put_full m ls text shut clause room, refl) }

pub invariant_of-self : goal.invariant_of-self
invariant_of-self g c =
    let s = c.args.self.now in
    let h = at_rest g.P.Engine.meaning g.R.Engine.meaning s.sides s.books.room in
    let m = in_session s.books.session h in
    let ls = c.args.literals.now in
    let text = c.in_ok-text.text.now in
    let shut = shut_passes m (c.in_ok-ensure_shut.ensures h) in
    let clause : arrangement highest ls ≡ Ok text = sym c.arrange-draft.ensures.outcome ∙ sym c.in_ok-text.ensures in
    let room = no_room_is m _ _ (length text) s.whole.text_count s.whole.literal_count ∙ sym (ap not c.if-not-has.ensures) in
    let free = put_done m ls text shut clause room in
    let q = one_more s.books.session s.whole c.put.new.self c.take.new.self (arranged ls) (length text) (c.put.ensures.carries m free s.whole.backed) (ap (λ (d : Clause). length d) (arranges ls text clause).2) c.take.ensures.limits c.take.ensures.more in
    record { whole = q.1 }

pub returns : goal.returns
returns g c =
    let s = c.args.self.now in
    let h = at_rest g.P.Engine.meaning g.R.Engine.meaning s.sides s.books.room in
    let m = in_session s.books.session h in
    let ls = c.args.literals.now in
    let text = c.in_ok-text.text.now in
    let shut = shut_passes m (c.in_ok-ensure_shut.ensures h) in
    let clause : arrangement highest ls ≡ Ok text = sym c.arrange-draft.ensures.outcome ∙ sym c.in_ok-text.ensures in
    let room = no_room_is m _ _ (length text) s.whole.text_count s.whole.literal_count ∙ sym (ap not c.if-not-has.ensures) in
    let free = put_done m ls text shut clause room in
    let q = one_more s.books.session s.whole c.put.new.self c.take.new.self (arranged ls) (length text) (c.put.ensures.carries m free s.whole.backed) (ap (λ (d : Clause). length d) (arranges ls text clause).2) c.take.ensures.limits c.take.ensures.more in
    record { does = (free, q.0) }
