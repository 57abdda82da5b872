use Rattle.std.proofs.Common.{◌≡◌, length, sym, refl, ap, ◌∙◌, subst}
use Rattle.engine.specs.Meaning.{Meaning}
use Rattle.job.specs.Seen.{view}
use Rattle.job.specs.CheckWalking.{Walked}
use Rattle.job.proofs.Keeping.{sound}
use Rattle.job.proofs.CheckFit.{fit}
use Rattle.job.proofs.CheckFraming.{clauses_framed, framed_twice, wiped_framed}
use Rattle.job.proofs.CheckOutcomes.{accepts, turns_down}
use Rattle.job.proofs.CheckWhole.{framed_first, rooms_first, ended_first, ready, walked_holds, idle_after}
use Rattle.job.proofs.jobs.Job.run.Goals as goal

pub walk-walked-requires : goal.walk-walked-requires
walk-walked-requires g c =
    let j = c.args.self.now in
    let j₁ = c.begin.new.self in
    record {
      ready = ready (view j) (fit (view j) (sound j)) (g.E.Engine.meaning c.args.engine.now) c.requires.allowed (view j₁) (fit (view j₁) (sound j₁)) c.begin.ensures.after (g.E.Engine.meaning c.start.new.engine) c.start.ensures.does;
    }

pub darken-requires : goal.darken-requires
darken-requires g c =
    let j₁ = c.begin.new.self in
    let s₁ = view j₁ in
    let s₂ = view c.walk-walked.new.self in
    let m₂ = g.E.Engine.meaning c.walk-walked.new.engine in
    let h = walked_holds s₁ c.walk-walked.result s₂ m₂ c.walk-walked.ensures.walked in
    let k = clauses_framed s₁ s₂ c.walk-walked.ensures.framed in
    let l : length m₂.texts ≡ s₁.clauses = ap length h.0.same ∙ (fit s₁ (sound j₁)).all_texts in
    record {
      shut = h.0.shut;
      texts = l ∙ sym k;
      level = h.1 ∙ l ∙ sym k;
    }

pub returns-in-Err : goal.returns-in-Err
returns-in-Err g c =
    let j = c.args.self.now in
    let j₁ = c.begin.new.self in
    let s = view j in
    let s₁ = view j₁ in
    let s₂ = view c.walk-walked.new.self in
    let m = g.E.Engine.meaning c.args.engine.now in
    let m₂ = g.E.Engine.meaning c.walk-walked.new.engine in
    let m₃ = g.E.Engine.meaning c.darken.new.engine in
    let o₁ = fit s₁ (sound j₁) in
    let f₁ = framed_first s (fit s (sound j)) m c.requires.allowed s₁ o₁ c.begin.ensures.after in
    let f₂ = framed_twice s s₁ s₂ f₁ c.walk-walked.ensures.framed in
    let h = walked_holds s₁ c.walk-walked.result s₂ m₂ c.walk-walked.ensures.walked in
    let q = ap (λ (x : Meaning). x.answers) c.darken.ensures.does in
    let l₁ = c.begin.ensures.lent in
    let l₂ = c.walk-walked.ensures.lent in
    let l₃ = c.clear.ensures.lent in
    let t = turns_down s s₁ f₁ o₁ m₂ m₃ q c.in-Err.step (subst (λ r. Walked s₁ r s₂ m₂) c.in-Err.is c.walk-walked.ensures.walked) in
    record {
      lent = (l₃.0 ∙ l₂.0 ∙ l₁.0, l₃.1 ∙ l₂.1 ∙ l₁.1, l₃.2 ∙ l₂.2 ∙ l₁.2, l₃.3 ∙ l₂.3 ∙ l₁.3);
      comes = (
        c.clear.ensures.after ∙ wiped_framed s s₂ f₂,
        (c.in-Err.step, refl, t),
      );
      idle = idle_after s s₁ m₂ m₃ f₁ h.0 s₂.clauses (clauses_framed s s₂ f₂) c.darken.ensures.does;
    }

pub returns-in-Ok : goal.returns-in-Ok
returns-in-Ok g c =
    let j = c.args.self.now in
    let j₁ = c.begin.new.self in
    let s = view j in
    let s₁ = view j₁ in
    let s₂ = view c.walk-walked.new.self in
    let m = g.E.Engine.meaning c.args.engine.now in
    let m₂ = g.E.Engine.meaning c.walk-walked.new.engine in
    let m₃ = g.E.Engine.meaning c.darken.new.engine in
    let o = fit s (sound j) in
    let o₁ = fit s₁ (sound j₁) in
    let a = c.requires.allowed in
    let e = c.begin.ensures.after in
    let f₁ = framed_first s o m a s₁ o₁ e in
    let f₂ = framed_twice s s₁ s₂ f₁ c.walk-walked.ensures.framed in
    let h = walked_holds s₁ c.walk-walked.result s₂ m₂ c.walk-walked.ensures.walked in
    let q = ap (λ (x : Meaning). x.answers) c.darken.ensures.does in
    let l₁ = c.begin.ensures.lent in
    let l₂ = c.walk-walked.ensures.lent in
    record {
      lent = (l₂.0 ∙ l₁.0, l₂.1 ∙ l₁.1, l₂.2 ∙ l₁.2, l₂.3 ∙ l₁.3);
      comes = (
        accepts s s₁ f₁ o₁ m₂ m₃ q s₂ c.in-Ok.tally _ (ended_first s o m a s₁ o₁ e) (rooms_first s o m a s₁ o₁ e) c.walk-walked.ensures.framed
            (subst (λ r. Walked s₁ r s₂ m₂) c.in-Ok.is c.walk-walked.ensures.walked)
            c.kept_inputs.ensures refl refl c.answers.ensures,
        c.answers.ensures,
      );
      idle = idle_after s s₁ m₂ m₃ f₁ h.0 s₂.clauses (clauses_framed s s₂ f₂) c.darken.ensures.does;
    }
