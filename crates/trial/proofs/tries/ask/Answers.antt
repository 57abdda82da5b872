use Rattle.std.proofs.Common.{List, length, sym, ap, ◌∙◌, subst, arith}
use Rattle.std.proofs.lemmas.List.{length_push}
use Rattle.cnf.specs.declared.literals.Forced.{Forced}
use Rattle.engine.specs.Trails.{entries_of}
use Rattle.trial.proofs.Asking.{Asked, goes_on, room, in_conflict, in_nothing}
use Rattle.trial.proofs.tries.ask.Goals as goal

pub returns-in-Conflict-clause-right : goal.returns-in-Conflict-clause-right
returns-in-Conflict-clause-right g c = in_conflict c.loop-number.invariant c.in-Conflict.number c.in-Conflict.ensures.says

pub returns-in-Nothing-clause-right : goal.returns-in-Nothing-clause-right
returns-in-Nothing-clause-right g c = in_nothing c.loop-number.invariant c.in-Nothing.ensures.says

pub push-requires : goal.push-requires
push-requires g c = room c.loop-number.invariant c.in-Forced.forced c.in-Forced.ensures.says c.in-Forced.ensures.does (g.E.Engine.laws c.next.new.engine)

pub loop-number-smaller : goal.loop-number-smaller
loop-number-smaller g c =
    let h = room c.loop-number.invariant c.in-Forced.forced c.in-Forced.ensures.says c.in-Forced.ensures.does (g.E.Engine.laws c.next.new.engine) in
    let e = ap length c.push.ensures ∙ length_push (entries_of c.loop-number.answers) c.in-Forced.forced in
    omega arith

pub loop-number-preserved : goal.loop-number-preserved
loop-number-preserved g c =
    subst (λ (t : List Forced). Asked (g.E.Engine.meaning c.args.engine.now) t (g.E.Engine.meaning c.next.new.engine)) (sym c.push.ensures)
    (goes_on c.loop-number.invariant c.in-Forced.forced c.in-Forced.ensures.says c.in-Forced.ensures.does)
