use Rattle.std.proofs.Common.{◌≡◌, ℕ, true, length, Ok, Err, Result, sym, refl, ap, ◌∙◌, subst, arith, rules}
use Rattle.cnf.specs.Arranging.{arranged}
use Rattle.cnf.specs.Drafts.{outcome}
use Rattle.job.specs.declared.faults.JobFault.{JobFault}
use Rattle.job.specs.declared.faults.JobFault.TheVariants.{Begun, Full}
use Rattle.job.specs.View.{View}
use Rattle.job.specs.Seen.{view}
use Rattle.job.specs.Sound.{Sound}
use Rattle.job.specs.Calls.{clause_answer, counting_input, with_input}
use Rattle.job.proofs.Keeping.{sound}
use Rattle.job.proofs.Entries.{sound_input}
use Rattle.job.proofs.Answering.{makes, room_for, clause_begun, clause_full, clause_entered}
use Rattle.job.proofs.Happening.{clause_happens}
use Rattle.job.proofs.jobs.Job.clause.Goals as goal

pub returns-then-self-gt0 : goal.returns-then-self-gt0
returns-then-self-gt0 c =
    let j = c.args.self.now in
    let s = view j in
    let ls = c.args.literals.now in
    let x = c.in_ok-clause.clause.now in
    let m = makes s.variables ls x (outcome c.arrange-draft.result) j.range.0 c.in_ok-clause.ensures c.arrange-draft.ensures.outcome in
    let r : Result ℕ JobFault = Err Begun in
    let answer : r ≡ clause_answer s ls = clause_begun s ls x m.is (omega arith) in
    record { becomes = record { lent = (refl, refl, refl, refl); after = refl }; answer = answer; happens = clause_happens s (sound j) ls r s answer refl }

pub returns-then-is_full : goal.returns-then-is_full
returns-then-is_full c =
    let j = c.args.self.now in
    let s = view j in
    let ls = c.args.literals.now in
    let x = c.in_ok-clause.clause.now in
    let m = makes s.variables ls x (outcome c.arrange-draft.result) j.range.0 c.in_ok-clause.ensures c.arrange-draft.ensures.outcome in
    let r : Result ℕ JobFault = Err Full in
    let answer : r ≡ clause_answer s ls = clause_full s ls x m.is (omega arith) (sym c.if-is_full.ensures) in
    record { becomes = record { lent = (refl, refl, refl, refl); after = refl }; answer = answer; happens = clause_happens s (sound j) ls r s answer refl }

pub count_input-requires : goal.count_input-requires
count_input-requires c =
    let j = c.args.self.now in
    let s = view j in
    let ls = c.args.literals.now in
    let x = c.in_ok-clause.clause.now in
    let m = makes s.variables ls x (outcome c.arrange-draft.result) j.range.0 c.in_ok-clause.ensures c.arrange-draft.ensures.outcome in
    let room = room_for s (length x) j.counts.3 (sym c.if-is_full.ensures) in
    let none : s.taken ≡ 0 = omega arith in
    let stored = c.store.ensures.after in
    let clauses = ap (λ (t : View). t.clauses) stored in
    let places = ap (λ (t : View). t.places) stored in
    let used = ap (λ (t : View). t.used) stored in
    let most = ap (λ (t : View). t.room) stored in
    record {
      room = (omega (arith, room.0), omega (arith, room.1));
      sound = subst Sound (sym (ap (λ (t : View). counting_input t (length x)) stored)) (sound_input s (sound j) x none room.0 room.1 m.rises);
    }

pub returns : goal.returns
returns c =
    let j = c.args.self.now in
    let s = view j in
    let ls = c.args.literals.now in
    let x = c.in_ok-clause.clause.now in
    let m = makes s.variables ls x (outcome c.arrange-draft.result) j.range.0 c.in_ok-clause.ensures c.arrange-draft.ensures.outcome in
    let after : view c.count_input.new.self ≡ with_input true s (arranged ls) =
    c.count_input.ensures.after ∙ ap (λ (t : View). counting_input t (length x)) c.store.ensures.after ∙ ap (with_input true s) m.same in
    let r : Result ℕ JobFault = Ok c.count_input.new.self.clauses in
    let answer : r ≡ clause_answer s ls =
    ap (λ (t : View). Ok t.clauses) after ∙ clause_entered s ls x m.is (omega arith) (sym c.if-is_full.ensures) in
    record {
      becomes = record { lent = search rules; after = after };
      answer = answer;
      happens = clause_happens s (sound j) ls r (view c.count_input.new.self) answer after;
    }
