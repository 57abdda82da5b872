use Rattle.std.proofs.Common.{◌≡◌, true, Ok, Result, sym, ap, ◌∙◌, subst, arith}
use Rattle.job.specs.declared.faults.JobFault.{JobFault}
use Rattle.job.specs.declared.rows.StepRow.{StepRow}
use Rattle.job.specs.declared.rows.StepRow.TheVariants.{Lemma, Strike}
use Rattle.job.specs.Seen.{view}
use Rattle.job.specs.Calls.{FoundLast, without, withdraw_answer, last_step}
use Rattle.job.proofs.Keeping.{sound}
use Rattle.job.proofs.Withdrawals.{last_clause, number_positive, sound_without_lemma, struck_place, struck_number, sound_without_strike}
use Rattle.job.proofs.Answering.{withdraw_done}
use Rattle.job.proofs.Happening.{withdraw_happens}
use Rattle.job.proofs.jobs.Job.withdraw.Goals as goal

pub forget-requires : goal.forget-requires
forget-requires c =
    let j = c.args.self.now in
    let n = c.in-Lemma.n in
    let found = subst (FoundLast (view j)) c.in_ok-step.ensures.ok_part c.last.ensures in
    let is : last_step (view j) ≡ Lemma n = sym found.1 ∙ c.in-Lemma.is in
    let last = last_clause (view j) (sound j) found.0 n is in
    let low = number_positive (view j) (sound j) found.0 n is in
    record { number = (low, omega arith); some = omega (arith, found.0); sound = sound_without_lemma (view j) (sound j) found.0 n is }

pub revive-requires : goal.revive-requires
revive-requires c =
    let j = c.args.self.now in
    let n = c.in-Strike.n in
    let found = subst (FoundLast (view j)) c.in_ok-step.ensures.ok_part c.last.ensures in
    let is : last_step (view j) ≡ Strike n = sym found.1 ∙ c.in-Strike.is in
    let place = struck_place (view j) (sound j) found.0 n is in
    let low = struck_number (view j) (sound j) found.0 n is in
    record { number = (low, omega arith); some = omega (arith, found.0); sound = sound_without_strike (view j) (sound j) found.0 n is }

pub returns-in-Lemma : goal.returns-in-Lemma
returns-in-Lemma c =
    let j = c.args.self.now in
    let found = subst (FoundLast (view j)) c.in_ok-step.ensures.ok_part c.last.ensures in
    let is : last_step (view j) ≡ Lemma c.in-Lemma.n = sym found.1 ∙ c.in-Lemma.is in
    let r : Result StepRow JobFault = Ok (Lemma c.in-Lemma.n) in
    let answer : r ≡ withdraw_answer (view j) =
    ap (λ (row : StepRow). Ok row) (sym is) ∙ withdraw_done (view j) (λ e. omega (arith, found.0, e)) in
    let after : view c.forget.new.self ≡ without true (view j) (last_step (view j)) =
    c.forget.ensures.after ∙ ap (without true (view j)) (sym is) in
    record {
      becomes = record { lent = c.forget.ensures.lent; after = after };
      answer = answer;
      happens = withdraw_happens (view j) (sound j) r (view c.forget.new.self) answer after;
    }

pub returns-in-Strike : goal.returns-in-Strike
returns-in-Strike c =
    let j = c.args.self.now in
    let found = subst (FoundLast (view j)) c.in_ok-step.ensures.ok_part c.last.ensures in
    let is : last_step (view j) ≡ Strike c.in-Strike.n = sym found.1 ∙ c.in-Strike.is in
    let r : Result StepRow JobFault = Ok (Strike c.in-Strike.n) in
    let answer : r ≡ withdraw_answer (view j) =
    ap (λ (row : StepRow). Ok row) (sym is) ∙ withdraw_done (view j) (λ e. omega (arith, found.0, e)) in
    let after : view c.revive.new.self ≡ without true (view j) (last_step (view j)) =
    c.revive.ensures.after ∙ ap (without true (view j)) (sym is) in
    record {
      becomes = record { lent = c.revive.ensures.lent; after = after };
      answer = answer;
      happens = withdraw_happens (view j) (sound j) r (view c.revive.new.self) answer after;
    }
