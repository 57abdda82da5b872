use Rattle.std.proofs.Common.{ℕ, [], ◌∷◌, map, length, sym, ap, ◌∙◌, subst}
use Rattle.cnf.specs.Literals.{complement}
use Rattle.cnf.specs.Clauses.{◌∈◌}
use Rattle.drup.specs.Backward.{gathered, asked}
use Rattle.drup.proofs.Trials.{row_alive}
use Rattle.engine.specs.Meaning.{Meaning, On, text_of}
use Rattle.trial.specs.Noted.{latest}
use Rattle.trial.specs.Trying.{EndsRight}
use Rattle.job.specs.View.{text_in, texts}
use Rattle.job.specs.Seen.{view}
use Rattle.job.specs.CheckLists.{recorded}
use Rattle.job.proofs.Keeping.{sound}
use Rattle.job.proofs.CheckFit.{fit}
use Rattle.job.proofs.CheckJudgement.{all_known, few_answers, holds_after}
use Rattle.job.proofs.jobs.Job.judge.Goals as goal

pub record_row-requires : goal.record_row-requires
record_row-requires g c =
    let j = c.args.self.now in
    let s = view j in
    let o = fit s (sound j) in
    let m = g.E.Engine.meaning c.args.engine.now in
    let m' = g.E.Engine.meaning c.try_number-conflict.new.engine in
    let answers = latest c.try_number-conflict.result.answers in
    let at = c.in_ok-conflict.field-0 in
    let assumed = map complement (text_in (texts s) c.args.n) in
    let r = subst (EndsRight m assumed answers) c.in_ok-conflict.was c.try_number-conflict.ensures.right in
    let e = c.try_number-conflict.ensures.does in
    record {
      holds = holds_after m m' s (asked answers) e c.requires.holds;
      room = c.requires.room;
      numbered = c.requires.holds.numbered at r.live;
      known = all_known m s c.requires.holds o assumed answers r.right (g.E.Engine.laws c.args.engine.now);
      few = few_answers m s c.requires.holds o assumed answers r.right;
      live = subst (λ (x : Meaning). (k : ℕ) → k ∈ gathered (text_of x) answers (at ∷ []) → On x k) (sym e)
          (row_alive (text_of m) (text_of m) (On m) assumed answers at r);
    }

pub returns : goal.returns
returns g c =
    let s = view c.args.self.now in
    let m = g.E.Engine.meaning c.args.engine.now in
    let assumed = map complement (text_in (texts s) c.args.n) in
    let answers = latest c.try_number-conflict.result.answers in
    let at = c.in_ok-conflict.field-0 in
    let e = c.try_number-conflict.ensures.does in
    record {
      lent = c.record_row.ensures.becomes.lent;
      judged = record {
        answers = answers;
        at = at;
        conflict = subst (EndsRight m assumed answers) c.in_ok-conflict.was c.try_number-conflict.ensures.right;
        lists = c.record_row.ensures.becomes.after ∙ ap (λ (x : Meaning). recorded s c.args.n (gathered (text_of x) answers (at ∷ []))) e;
        engine = c.record_row.ensures.does ∙ e;
        counts = c.record_row.ensures.length ∙ ap (λ (x : Meaning). length (gathered (text_of x) answers (at ∷ []))) e;
      };
    }
