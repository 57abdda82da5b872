use Rattle.std.proofs.Common.{◌-◌, eqb, ◌∷◌, length, sym, ap, ◌∙◌}
use Rattle.cnf.specs.Clauses.{Clause}
use Rattle.drup.specs.History.{ended}
use Rattle.job.specs.declared.rows.StepRow.{StepRow}
use Rattle.job.specs.View.{text_in, texts}
use Rattle.job.specs.Seen.{view}
use Rattle.job.specs.History.{step_of, before}
use Rattle.job.proofs.Keeping.{sound}
use Rattle.job.proofs.Copies.{ended_lemma}
use Rattle.job.proofs.Withdrawals.{steps_split}
use Rattle.job.proofs.jobs.Job.is_ended.Goals as goal

pub returns-in-Some-Lemma : goal.returns-in-Some-Lemma
returns-in-Some-Lemma c =
    let j = c.args.self.now in
    let s = view j in
    let last = c.in-Some-Lemma.ensures in
    c.is_empty.ensures
    ∙ ap (λ (x : Clause). eqb (length x) 0) c.text.ensures
    ∙ ended_lemma (text_in (texts s) c.in-Some-Lemma.n) (before s (s.taken - 1))
    ∙ ap (λ (row : StepRow). ended (step_of (text_in (texts s)) row ∷ before s (s.taken - 1))) (sym c.in-Some-Lemma.field-0-is ∙ last.1)
    ∙ ap ended (sym (steps_split s (sound j) last.0))
