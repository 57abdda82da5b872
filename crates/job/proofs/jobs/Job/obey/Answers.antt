use Rattle.std.proofs.Common.{refl, ap, ◌∙◌}
use Rattle.drup.specs.Forward.{clause, lemma, strike, withdraw}
use Rattle.drup.specs.Box.{called}
use Rattle.job.specs.declared.jobs.orders.Order.TheVariants.{Clause, Lemma, Strike, Withdraw, Check}
use Rattle.job.specs.History.{box_in}
use Rattle.job.specs.Seen.{view}
use Rattle.job.specs.Calls.{refusal, refusal_place}
use Rattle.job.specs.Checking.{lent_by, event_of}
use Rattle.job.proofs.Replayed.{came, event_check, event_number, place_clause, place_lemma, place_strike, place_withdraw, place_check}
use Rattle.job.proofs.jobs.Job.obey.Goals as goal

pub returns-in-Clause : goal.returns-in-Clause
returns-in-Clause g c =
    let s = view c.args.self.now in
    let ls = c.in-Clause.literals in
    record {
      lent = c.clause.ensures.becomes.lent;
      came = came s (view c.clause.new.self) c.args.order (Clause ls) c.clause.result c.done.result (called (clause ls.now) (refusal c.clause.result)) c.in-Clause.is refl
          c.clause.ensures.happens c.done.ensures refl (ap refusal_place c.clause.ensures.answer ∙ place_clause s ls.now);
    }

pub returns-in-Lemma : goal.returns-in-Lemma
returns-in-Lemma g c =
    let s = view c.args.self.now in
    let ls = c.in-Lemma.literals in
    record {
      lent = c.lemma.ensures.becomes.lent;
      came = came s (view c.lemma.new.self) c.args.order (Lemma ls) c.lemma.result c.done-in-Lemma.result (called (lemma ls.now) (refusal c.lemma.result)) c.in-Lemma.is refl
          c.lemma.ensures.happens c.done-in-Lemma.ensures refl (ap refusal_place c.lemma.ensures.answer ∙ place_lemma s ls.now);
    }

pub returns-in-Strike : goal.returns-in-Strike
returns-in-Strike g c =
    let s = view c.args.self.now in
    let ls = c.in-Strike.literals in
    record {
      lent = c.strike.ensures.becomes.lent;
      came = came s (view c.strike.new.self) c.args.order (Strike ls) c.strike.result c.done-in-Strike.result (called (strike ls.now) (refusal c.strike.result)) c.in-Strike.is refl
          c.strike.ensures.happens c.done-in-Strike.ensures refl (ap refusal_place c.strike.ensures.answer ∙ place_strike s ls.now);
    }

pub returns-in-Withdraw : goal.returns-in-Withdraw
returns-in-Withdraw g c =
    let s = view c.args.self.now in
    record {
      lent = c.withdraw.ensures.becomes.lent;
      came = came s (view c.withdraw.new.self) c.args.order Withdraw c.withdraw.result c.done-in-Withdraw.result (called withdraw (refusal c.withdraw.result)) c.in-Withdraw.is refl
          c.withdraw.ensures.happens c.done-in-Withdraw.ensures refl (ap refusal_place c.withdraw.ensures.answer ∙ place_withdraw s);
    }

pub returns-in-Check : goal.returns-in-Check
returns-in-Check g c =
    let s = view c.args.self.now in
    let s' = view c.check.new.self in
    let lent = lent_by s (g.E.Engine.meaning c.args.engine.now) in
    let m' = g.E.Engine.meaning c.check.new.engine in
    record {
      lent = c.check.ensures.lent;
      came = came s s' c.args.order Check c.check.result c.done-in-Check.result (event_of lent c.check.result s' m') c.in-Check.is (event_check lent s' m' c.check.result)
          c.check.ensures.happens c.done-in-Check.ensures (event_number lent s' m' c.check.result) (place_check s.variables (box_in s) (box_in s') lent s' m' c.check.result c.check.ensures.happens);
    }
