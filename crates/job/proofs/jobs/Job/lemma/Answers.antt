use Rattle.std.proofs.Common.{◌≡◌, ℕ, true, length, Ok, Err, Result, sym, refl, ap, ◌∙◌, subst, arith, rules}
use Rattle.cnf.specs.Arranging.{arranged}
use Rattle.cnf.specs.Drafts.{outcome}
use Rattle.job.specs.declared.faults.JobFault.{JobFault}
use Rattle.job.specs.declared.faults.JobFault.TheVariants.{Ended, Full}
use Rattle.job.specs.View.{View}
use Rattle.job.specs.Seen.{view}
use Rattle.job.specs.Sound.{Sound}
use Rattle.job.specs.Calls.{lemma_answer, counting_lemma, with_lemma}
use Rattle.job.proofs.Keeping.{sound}
use Rattle.job.proofs.Entries.{step_bound, sound_lemma}
use Rattle.job.proofs.Answering.{makes, room_for, lemma_ended, lemma_full, lemma_entered}
use Rattle.job.proofs.Happening.{lemma_happens}
use Rattle.job.proofs.jobs.Job.lemma.Goals as goal

pub returns-then-is_ended : goal.returns-then-is_ended
returns-then-is_ended c =
    let j = c.args.self.now in
    let s = view j in
    let ls = c.args.literals.now in
    let x = c.in_ok-clause.clause.now in
    let m = makes s.variables ls x (outcome c.arrange-draft.result) j.range.0 c.in_ok-clause.ensures c.arrange-draft.ensures.outcome in
    let r : Result ℕ JobFault = Err Ended in
    let answer : r ≡ lemma_answer s ls = lemma_ended s ls x m.is (sym c.if-is_ended.ensures) in
    record { becomes = record { lent = (refl, refl, refl, refl); after = refl }; answer = answer; happens = lemma_happens s (sound j) ls r s answer refl }

pub returns-then-is_full : goal.returns-then-is_full
returns-then-is_full c =
    let j = c.args.self.now in
    let s = view j in
    let ls = c.args.literals.now in
    let x = c.in_ok-clause.clause.now in
    let m = makes s.variables ls x (outcome c.arrange-draft.result) j.range.0 c.in_ok-clause.ensures c.arrange-draft.ensures.outcome in
    let r : Result ℕ JobFault = Err Full in
    let answer : r ≡ lemma_answer s ls = lemma_full s ls x m.is (sym c.if-is_ended.ensures) (sym c.if-is_full.ensures) in
    record { becomes = record { lent = (refl, refl, refl, refl); after = refl }; answer = answer; happens = lemma_happens s (sound j) ls r s answer refl }

pub count_lemma-requires : goal.count_lemma-requires
count_lemma-requires c =
    let j = c.args.self.now in
    let s = view j in
    let ls = c.args.literals.now in
    let x = c.in_ok-clause.clause.now in
    let m = makes s.variables ls x (outcome c.arrange-draft.result) j.range.0 c.in_ok-clause.ensures c.arrange-draft.ensures.outcome in
    let room = room_for s (length x) j.counts.3 (sym c.if-is_full.ensures) in
    let bound = step_bound s (sound j) x room.0 room.1 in
    let stored = c.store.ensures.after in
    let clauses = ap (λ (t : View). t.clauses) stored in
    let places = ap (λ (t : View). t.places) stored in
    let used = ap (λ (t : View). t.used) stored in
    let most = ap (λ (t : View). t.room) stored in
    let taken = ap (λ (t : View). t.taken) stored in
    record {
      room = (omega (arith, room.0), omega (arith, room.1));
      place = omega arith;
      sound = subst Sound (sym (ap (λ (t : View). counting_lemma t (length x)) stored)) (sound_lemma s (sound j) x room.0 room.1 (sym c.if-is_ended.ensures) m.rises);
    }

pub returns : goal.returns
returns c =
    let j = c.args.self.now in
    let s = view j in
    let ls = c.args.literals.now in
    let x = c.in_ok-clause.clause.now in
    let m = makes s.variables ls x (outcome c.arrange-draft.result) j.range.0 c.in_ok-clause.ensures c.arrange-draft.ensures.outcome in
    let after : view c.count_lemma.new.self ≡ with_lemma true s (arranged ls) =
    c.count_lemma.ensures.after ∙ ap (λ (t : View). counting_lemma t (length x)) c.store.ensures.after ∙ ap (with_lemma true s) m.same in
    let r : Result ℕ JobFault = Ok c.count_lemma.new.self.clauses in
    let answer : r ≡ lemma_answer s ls =
    ap (λ (t : View). Ok t.clauses) after ∙ lemma_entered s ls x m.is (sym c.if-is_ended.ensures) (sym c.if-is_full.ensures) in
    record {
      becomes = record { lent = search rules; after = after };
      answer = answer;
      happens = lemma_happens s (sound j) ls r (view c.count_lemma.new.self) answer after;
    }
