use Rattle.std.proofs.Common.{◌≡◌, ◌-◌, ◌+◌, ◌*◌, Bool, ◌||◌, ltb, length, sym, ap, ◌∙◌}
use Rattle.std.proofs.lemmas.Bool.{lt-ltb, le-ltb}
use Rattle.job.specs.Seen.{view}
use Rattle.job.proofs.Keeping.{sound}
use Rattle.job.proofs.CheckFit.{fit}
use Rattle.job.proofs.CheckRules.{short_is}
use Rattle.job.proofs.jobs.Job.is_short.Goals.{then-text_limit-self, else-text_limit-self, Joined-text_limit-self}
use Rattle.job.proofs.jobs.Job.is_short.Given.{Over}
use Rattle.job.proofs.jobs.Job.is_short.Goals as goal

-- whether the engine is too small
engine_short : (g : Over) (c : Joined-text_limit-self g)
    → c.if-text_limit-self.value ≡ (ltb (g.E.Engine.meaning c.args.engine.now).text_limit c.args.self.now.clauses || ltb (g.E.Engine.meaning c.args.engine.now).literal_limit c.args.self.now.used)
engine_short g c =
    let j = c.args.self.now in
    let m = g.E.Engine.meaning c.args.engine.now in
    let limit = ap (λ k. ltb k j.clauses) c.text_limit.ensures in
    elim c.if-text_limit-self.branch [
      | then-text_limit-self w ↦
          let e = lt-ltb c.text_limit.result j.clauses w.if-text_limit-self.true in
          w.value-is ∙ e ∙ sym (ap (λ (b : Bool). b || ltb m.literal_limit j.used) (sym limit ∙ e))
      | else-text_limit-self w ↦
          w.value-is ∙ ap (λ k. ltb k j.used) w.literal_limit.ensures
          ∙ sym (ap (λ (b : Bool). b || ltb m.literal_limit j.used) (sym limit ∙ le-ltb c.text_limit.result j.clauses w.if-text_limit-self.false))
    ]

pub returns-then-literal_limit-self : goal.returns-then-literal_limit-self
returns-then-literal_limit-self g c =
    let j = c.args.self.now in
    let few = engine_short g (goal.at.returns-then-literal_limit-self g c).Joined-text_limit-self in
    c.if-literal_limit-self.true
    ∙ sym (short_is (view j) (fit (view j) (sound j)) (g.E.Engine.meaning c.args.engine.now) ∙ ap (λ (b : Bool). b || ltb (length j.arcs.now) ((j.clauses - j.inputs) * (j.size.variables + 1))) (sym few ∙ c.if-literal_limit-self.true))

pub returns-else-literal_limit-self : goal.returns-else-literal_limit-self
returns-else-literal_limit-self g c =
    let j = c.args.self.now in
    let few = engine_short g (goal.at.returns-else-literal_limit-self g c).Joined-text_limit-self in
    sym (short_is (view j) (fit (view j) (sound j)) (g.E.Engine.meaning c.args.engine.now) ∙ ap (λ (b : Bool). b || ltb (length j.arcs.now) ((j.clauses - j.inputs) * (j.size.variables + 1))) (sym few ∙ c.if-literal_limit-self.false))
