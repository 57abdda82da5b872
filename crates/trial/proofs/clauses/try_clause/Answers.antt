use Rattle.std.proofs.Common.{sym, ◌∙◌, subst}
use Rattle.cnf.specs.Arranging.{Arrangement, ClauseOf}
use Rattle.engine.specs.Meaning.{highest}
use Rattle.engine.proofs.Consistent.{clause_consistent}
use Rattle.trial.specs.Noted.{latest}
use Rattle.trial.proofs.Deciding.{tried}
use Rattle.trial.proofs.clauses.try_clause.Goals as goal

pub try_lemma-requires-clause-consistent : goal.try_lemma-requires-clause-consistent
try_lemma-requires-clause-consistent g c =
    let is = subst (λ (a : Arrangement). ClauseOf highest c.args.literals.now a) (sym c.in_ok-clause.ensures) c.arrange-draft.ensures.clause in
    clause_consistent c.in_ok-clause.clause.now is.0

pub returns : goal.returns
returns g c =
    rw c.is_some.ensures
    (tried (g.E.Engine.meaning c.args.engine.now) (g.E.Engine.laws c.args.engine.now) (sym c.is_open.ensures ∙ c.if-is_open.false)
    c.args.literals.now c.in_ok-clause.clause.now (sym (c.in_ok-clause.ensures ∙ c.arrange-draft.ensures.outcome))
    (latest c.try_lemma.result.answers) c.try_lemma.result.conflict (g.E.Engine.meaning c.try_lemma.new.engine)
    c.try_lemma.ensures.right c.try_lemma.ensures.does c.try_lemma.ensures.few)
