use Rattle.std.proofs.Common.{sym, ap, ◌∙◌, subst}
use Rattle.std.proofs.lemmas.List.{map_push}
use Rattle.cnf.specs.declared.literals.Forced.{Forced}
use Rattle.engine.specs.declared.answers.Answer.{Answer}
use Rattle.engine.specs.Meaning.{values_of, Consistent}
use Rattle.engine.specs.Trails.{entries_of, AnswerJoins}
use Rattle.engine.proofs.Consistent.{consistent_push, trail_room}
use Rattle.engine.proofs.sessions.Session.note.Goals as goal

pub push-requires : goal.push-requires
push-requires c =
    let trail = c.args.self.now.trail in
    let k = subst (λ (a : Answer). AnswerJoins a (values_of (entries_of trail))) c.in-Forced.is c.requires.joins in
    trail_room (entries_of trail) c.in-Forced.forced.literal c.args.self.now.consistent k.0 k.1

pub invariant_of-self-clause-consistent : goal.invariant_of-self-clause-consistent
invariant_of-self-clause-consistent c =
    let trail = c.args.self.now.trail in
    let k = subst (λ (a : Answer). AnswerJoins a (values_of (entries_of trail))) c.in-Forced.is c.requires.joins in
    let longer = ap values_of c.push.ensures ∙ map_push (λ (e : Forced). e.literal) (entries_of trail) c.in-Forced.forced in
    subst Consistent (sym longer) (consistent_push (values_of (entries_of trail)) c.in-Forced.forced.literal c.args.self.now.consistent k.0 k.1)
