use Rattle.std.proofs.Common.{◌-◌, sym, ap, ◌∙◌, subst, arith}
use Rattle.std.proofs.lemmas.List.{take_all}
use Rattle.job.specs.View.{texts}
use Rattle.job.specs.Seen.{view}
use Rattle.job.specs.CheckFrame.{filled, Large}
use Rattle.job.proofs.Keeping.{sound}
use Rattle.job.proofs.CheckFit.{fit}
use Rattle.job.proofs.CheckSurround.{put_allowed, put_more}
use Rattle.job.proofs.jobs.Job.fill.Goals as goal

pub put-requires : goal.put-requires
put-requires g c =
    let s = view c.args.self.now in
    let m = g.E.Engine.meaning c.clear.new.engine in
    let large = subst (Large s) (sym c.clear.ensures.does) c.requires.large in
    record { allowed = put_allowed s (fit s (sound c.args.self.now)) m large (c.loop-n.n - 1) (omega arith) _ c.text.result.now c.loop-n.invariant c.loop-n.n (omega arith) c.text.ensures }

pub loop-n-preserved : goal.loop-n-preserved
loop-n-preserved g c =
    let s = view c.args.self.now in
    let m = g.E.Engine.meaning c.clear.new.engine in
    let large = subst (Large s) (sym c.clear.ensures.does) c.requires.large in
    put_more s (fit s (sound c.args.self.now)) m large (c.loop-n.n - 1) (omega arith) _ c.text.result.now c.loop-n.invariant c.loop-n.n (omega arith) c.text.ensures
    _ (omega arith) _ c.put.ensures.does

pub returns-2 : goal.returns-2
returns-2 g c =
    let s = view c.args.self.now in
    let o = fit s (sound c.args.self.now) in
    let m = g.E.Engine.meaning c.clear.new.engine in
    let large = subst (Large s) (sym c.clear.ensures.does) c.requires.large in
    let l = o.all_texts in
    record {
      does = put_more s o m large (c.loop-n.n - 1) (omega arith) _ c.text.result.now c.loop-n.invariant c.loop-n.n (omega arith) c.text.ensures
          c.loop-n.n (omega arith) _ c.put.ensures.does
          ∙ ap (λ t. filled t m) (take_all c.loop-n.n (texts s) (omega arith))
          ∙ ap (filled (texts s)) c.clear.ensures.does;
    }
