use Rattle.std.proofs.Common.{◌≡◌, ℕ, suc, ◌-◌, Err, sym, refl, ◌∙◌, subst, add-one, arith, rules}
use Rattle.job.specs.Seen.{view}
use Rattle.job.specs.CheckWalking.{nothing, Walked}
use Rattle.job.proofs.Keeping.{sound}
use Rattle.job.proofs.CheckFit.{fit}
use Rattle.job.proofs.CheckFraming.{holds_framed, rooms_framed, taken_framed}
use Rattle.job.proofs.CheckOnward.{Going, going_first, going_on, going_fails, going_next, shows_there, can_add}
use Rattle.job.proofs.jobs.Job.walk.Goals as goal

pub loop-i-init : goal.loop-i-init
loop-i-init g c =
    let s = view c.args.self.now in
    let m = g.E.Engine.meaning c.args.engine.now in
    let none : c.default-tally.result ≡ nothing = search rules in
    ((refl, refl, refl, refl), subst (Going s s.taken s m) (sym none) (going_first s m c.requires.ready))

pub back-requires : goal.back-requires
back-requires g c =
    let j = c.args.self.now in
    let s₀ = view j in
    let o = fit s₀ (sound j) in
    let s = view c.loop-i.self in
    let m = g.E.Engine.meaning c.loop-i.engine in
    let k = c.loop-i.i - 1 in
    let e : c.loop-i.i ≡ suc k = omega arith in
    let go = c.loop-i.invariant.1 in
    let t = taken_framed s₀ s go.framed in
    record {
      holds = holds_framed s₀ s go.framed m go.holds;
      rooms = rooms_framed s₀ s go.framed c.requires.ready.rooms;
      step = omega arith;
      shows = shows_there s₀ o c.loop-i.i k e s m c.loop-i.tally go;
    }

pub add-requires : goal.add-requires
add-requires g c =
    let j = c.args.self.now in
    let s₀ = view j in
    let o = fit s₀ (sound j) in
    let s = view c.loop-i.self in
    let m = g.E.Engine.meaning c.loop-i.engine in
    let k = c.loop-i.i - 1 in
    let e : c.loop-i.i ≡ suc k = omega arith in
    can_add s₀ o k (view c.back.new.self) (g.E.Engine.meaning c.back.new.engine) c.loop-i.tally c.in-Some.more
    (going_on s₀ o c.requires.ready.rooms k (omega arith) s m c.loop-i.tally (going_next s₀ o c.loop-i.i k e s m c.loop-i.tally c.loop-i.invariant.1)
    (view c.back.new.self) (g.E.Engine.meaning c.back.new.engine) c.in-Some.more c.in-Some.ensures.goes)

pub loop-i-preserved : goal.loop-i-preserved
loop-i-preserved g c =
    let j = c.args.self.now in
    let s₀ = view j in
    let o = fit s₀ (sound j) in
    let s = view c.loop-i.self in
    let m = g.E.Engine.meaning c.loop-i.engine in
    let k = c.loop-i.i - 1 in
    let e : c.loop-i.i ≡ suc k = omega arith in
    let b = c.back.ensures.lent in
    let a = c.loop-i.invariant.0 in (
      (b.0 ∙ a.0, b.1 ∙ a.1, b.2 ∙ a.2, b.3 ∙ a.3),
      subst (Going s₀ k (view c.back.new.self) (g.E.Engine.meaning c.back.new.engine)) (sym c.add.ensures)
          (going_on s₀ o c.requires.ready.rooms k (omega arith) s m c.loop-i.tally (going_next s₀ o c.loop-i.i k e s m c.loop-i.tally c.loop-i.invariant.1)
          (view c.back.new.self) (g.E.Engine.meaning c.back.new.engine) c.in-Some.more c.in-Some.ensures.goes),
    )

pub returns-in_default : goal.returns-in_default
returns-in_default g c =
    let j = c.args.self.now in
    let s₀ = view j in
    let o = fit s₀ (sound j) in
    let s = view c.loop-i.self in
    let m = g.E.Engine.meaning c.loop-i.engine in
    let k = c.loop-i.i - 1 in
    let e : c.loop-i.i ≡ suc k = omega arith in
    let b = c.back.ensures.lent in
    let a = c.loop-i.invariant.0 in
    let f = going_fails s₀ o c.requires.ready.rooms k (omega arith) s m c.loop-i.tally (going_next s₀ o c.loop-i.i k e s m c.loop-i.tally c.loop-i.invariant.1)
    (view c.back.new.self) (g.E.Engine.meaning c.back.new.engine) c.in_default.ensures.goes in
    record {
      lent = (b.0 ∙ a.0, b.1 ∙ a.1, b.2 ∙ a.2, b.3 ∙ a.3);
      framed = f.0;
      walked = subst (λ (r : ℕ). Walked s₀ (Err r) (view c.back.new.self) (g.E.Engine.meaning c.back.new.engine)) (sym (add-one k)) f.1;
    }
