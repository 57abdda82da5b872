use Rattle.std.proofs.Common.{sym, ◌∙◌}
use Rattle.trial.proofs.Gathering.{clause_within, latest_known, gather_past, gather_in}
use Rattle.trial.proofs.rows.row_of.Goals as goal

pub add_clause-requires : goal.add_clause-requires
add_clause-requires g c = clause_within c.clause.ensures c.requires.within c.requires.numbered

pub enters-requires : goal.enters-requires
enters-requires g c = (latest_known c.loop-forced.invariant c.in-Some.forced.now _ c.in-Some.ensures.steps).1

pub clause-requires-then-enters : goal.clause-requires-then-enters
clause-requires-then-enters g c = (latest_known c.loop-forced.invariant c.in-Some.forced.now _ c.in-Some.ensures.steps).0

pub add_clause-requires-then-enters : goal.add_clause-requires-then-enters
add_clause-requires-then-enters g c =
    clause_within c.clause-then-enters.ensures c.requires.within
    (latest_known c.loop-forced.invariant c.in-Some.forced.now _ c.in-Some.ensures.steps).0

pub loop-forced-preserved-then-enters : goal.loop-forced-preserved-then-enters
loop-forced-preserved-then-enters g c =
    gather_in c.loop-forced.invariant c.in-Some.forced.now _ c.in-Some.ensures.steps (sym c.enters.ensures ∙ c.if-enters.true)
    c.push-then-enters.ensures.items c.clause-then-enters.ensures c.add_clause-then-enters.ensures

pub loop-forced-preserved : goal.loop-forced-preserved
loop-forced-preserved g c = gather_past c.loop-forced.invariant c.in-Some.forced.now _ c.in-Some.ensures.steps (sym c.enters.ensures ∙ c.if-enters.false)
