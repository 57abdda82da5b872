use Rattle.std.proofs.Common.{◌≡◌, ℕ, Bool, true, false, Ok, Err, Result, is_ok, sym, refl, ap, ◌∙◌, subst, arith, rules}
use Rattle.cnf.specs.Arranging.{arranged}
use Rattle.cnf.specs.Drafts.{outcome}
use Rattle.job.specs.declared.faults.JobFault.{JobFault}
use Rattle.job.specs.declared.faults.JobFault.TheVariants.{Ended, NoneLive}
use Rattle.job.specs.Seen.{view}
use Rattle.job.specs.Calls.{copy_in, FoundCopy, strike_answer, with_strike}
use Rattle.job.proofs.Keeping.{sound}
use Rattle.job.proofs.Standing.{copy_is_live}
use Rattle.job.proofs.Answering.{makes, strike_ended, strike_none_live, strike_found}
use Rattle.job.proofs.Strikes.{its_place, strike_bound, sound_strike}
use Rattle.job.proofs.Happening.{strike_happens}
use Rattle.job.proofs.jobs.Job.strike.Goals as goal

pub returns-then-is_ended : goal.returns-then-is_ended
returns-then-is_ended c =
    let j = c.args.self.now in
    let s = view j in
    let ls = c.args.literals.now in
    let x = c.in_ok-clause.clause.now in
    let m = makes s.variables ls x (outcome c.arrange-draft.result) j.range.0 c.in_ok-clause.ensures c.arrange-draft.ensures.outcome in
    let r : Result ℕ JobFault = Err Ended in
    let answer : r ≡ strike_answer s ls = strike_ended s ls x m.is (sym c.if-is_ended.ensures) in
    record { becomes = record { lent = (refl, refl, refl, refl); after = refl }; answer = answer; happens = strike_happens s (sound j) ls r s answer refl }

pub returns-in_err-n : goal.returns-in_err-n
returns-in_err-n c =
    let j = c.args.self.now in
    let s = view j in
    let ls = c.args.literals.now in
    let x = c.in_ok-clause.clause.now in
    let m = makes s.variables ls x (outcome c.arrange-draft.result) j.range.0 c.in_ok-clause.ensures c.arrange-draft.ensures.outcome in
    let none = subst (FoundCopy s x) c.in_err-n.ensures.ok_part c.live_copy.ensures in
    let r = c.from_residual-in_err-n.result in
    let refused : r ≡ Err NoneLive = search rules in
    let answer : r ≡ strike_answer s ls = refused ∙ strike_none_live s ls x m.is (sym c.if-is_ended.ensures) none in
    let fails : is_ok r ≡ false = ap (λ (a : Result ℕ JobFault). is_ok a) refused in
    let after : s ≡ with_strike (is_ok r) s (copy_in s (arranged ls)) = ap (λ (b : Bool). with_strike b s (copy_in s (arranged ls))) (sym fails) in
    record { becomes = record { lent = (refl, refl, refl, refl); after = after }; answer = answer; happens = strike_happens s (sound j) ls r s answer after }

pub put_strike-requires : goal.put_strike-requires
put_strike-requires c =
    let j = c.args.self.now in
    let s = view j in
    let n = c.in_ok-n.n in
    let x = c.in_ok-clause.clause.now in
    let f = subst (FoundCopy s x) c.in_ok-n.ensures.ok_part c.live_copy.ensures in
    let live = copy_is_live s (sound j) x n f.0 f.1 in
    let place = its_place s (sound j) n live in
    record {
      number = (f.1, omega (arith, f.1));
      place = strike_bound s (sound j) n live;
      sound = sound_strike s (sound j) n live (sym c.if-is_ended.ensures);
    }

pub returns : goal.returns
returns c =
    let j = c.args.self.now in
    let s = view j in
    let n = c.in_ok-n.n in
    let ls = c.args.literals.now in
    let x = c.in_ok-clause.clause.now in
    let m = makes s.variables ls x (outcome c.arrange-draft.result) j.range.0 c.in_ok-clause.ensures c.arrange-draft.ensures.outcome in
    let f = subst (FoundCopy s x) c.in_ok-n.ensures.ok_part c.live_copy.ensures in
    let r : Result ℕ JobFault = Ok n in
    let answer : r ≡ strike_answer s ls = strike_found s ls x m.is n (sym c.if-is_ended.ensures) f.0 f.1 in
    let after : view c.put_strike.new.self ≡ with_strike true s (copy_in s (arranged ls)) =
    c.put_strike.ensures.after ∙ ap (with_strike true s) (f.0 ∙ ap (copy_in s) m.same) in
    record {
      becomes = record { lent = c.put_strike.ensures.lent; after = after };
      answer = answer;
      happens = strike_happens s (sound j) ls r (view c.put_strike.new.self) answer after;
    }
