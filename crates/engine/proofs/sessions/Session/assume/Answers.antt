use Rattle.std.proofs.Common.{List, refl, sym, ap, ◌∙◌, subst}
use Rattle.std.proofs.lemmas.List.{map_push}
use Rattle.std.proofs.lemmas.Bool.{both_ways}
use Rattle.std.proofs.lemmas.Result.{err_from_is_err_and}
use Rattle.cnf.specs.declared.literals.Forced.{Forced}
use Rattle.cnf.specs.Arranging.{names}
use Rattle.engine.specs.Meaning.{values_of, Consistent, entry, empty}
use Rattle.engine.specs.Trails.{entries_of}
use Rattle.engine.specs.Sessions.{in_session}
use Rattle.engine.proofs.Consistent.{consistent_push, trail_room}
use Rattle.engine.proofs.Refusing.{trial_refuses, trial_passes, assume_outside}
use Rattle.engine.proofs.sessions.Session.assume.Goals as goal

pub returns-in_err-ensure_open : goal.returns-in_err-ensure_open
returns-in_err-ensure_open c m =
    let p = err_from_is_err_and c.from_residual.result c.from_residual.ensures.1 in
    rw (p.1, p.2) (trial_refuses (in_session c.args.self.now m) _ _ (c.in_err-ensure_open.ensures m), refl)

pub returns-then-is_outside : goal.returns-then-is_outside
returns-then-is_outside c m =
    let was = in_session c.args.self.now m in
    (assume_outside was c.args.literal (trial_passes was (c.in_ok-ensure_open.ensures m)) (sym c.is_outside.ensures ∙ c.if-is_outside.true), refl)

pub push-requires : goal.push-requires
push-requires c =
    let inside = sym c.is_outside.ensures ∙ c.if-is_outside.false in
    let fresh = ap (λ (es : List Forced). names c.args.literal.variable (values_of es)) (sym c.entries.ensures) ∙ sym c.has_value.ensures ∙ c.if-has_value.false in
    trail_room (entries_of c.args.self.now.trail) c.args.literal c.args.self.now.consistent inside fresh

pub invariant_of-self-clause-consistent : goal.invariant_of-self-clause-consistent
invariant_of-self-clause-consistent c =
    let trail = c.args.self.now.trail in
    let inside = sym c.is_outside.ensures ∙ c.if-is_outside.false in
    let fresh = ap (λ (es : List Forced). names c.args.literal.variable (values_of es)) (sym c.entries.ensures) ∙ sym c.has_value.ensures ∙ c.if-has_value.false in
    let longer = ap values_of c.push.ensures ∙ map_push (λ (e : Forced). e.literal) (entries_of trail) (entry c.args.literal 0) in
    subst Consistent (sym longer) (consistent_push (values_of (entries_of trail)) c.args.literal c.args.self.now.consistent inside fresh)

pub invariant_of-self-clause-at_rest : goal.invariant_of-self-clause-at_rest
invariant_of-self-clause-at_rest c shut =
    let was = in_session c.args.self.now (empty 0 0) in
    absurd (both_ways was.opened shut (trial_passes was (c.in_ok-ensure_open.ensures (empty 0 0))))
