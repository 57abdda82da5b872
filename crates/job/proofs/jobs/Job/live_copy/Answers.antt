use Rattle.std.proofs.Common.{◌≡◌, true, false, rules, tests}
use Rattle.job.specs.View.{text_in, texts}
use Rattle.job.specs.Seen.{view}
use Rattle.job.specs.History.{steps_of}
use Rattle.job.proofs.Numbers.{runs_down, last_number}
use Rattle.job.proofs.Copies.{is_copy, copy_found}
use Rattle.job.proofs.jobs.Job.live_copy.Goals as goal

pub returns : goal.returns
returns c =
    let s = view c.args.self.now in
    let clause = c.args.clause.now in
    let text = text_in (texts s) in
    let steps = steps_of s in
    copy_found clause text steps s.clauses c.find.result
    (last_number _ _ s.clauses c.find.result (λ n. is_copy clause text steps n ≡ true) (λ n. is_copy clause text steps n ≡ false)
    (search (rules, runs_down)) c.find.ensures.runs
    (λ x r q k. search (rules, tests)) (λ x k. search (rules, tests)) (λ x k. search (rules, tests)))
