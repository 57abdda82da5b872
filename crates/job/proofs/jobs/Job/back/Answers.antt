use Rattle.std.proofs.Common.{sym, subst}
use Rattle.engine.specs.Meaning.{Meaning}
use Rattle.job.specs.View.{text_in, texts}
use Rattle.job.specs.History.{inputs_of, before}
use Rattle.job.specs.Seen.{view}
use Rattle.job.specs.CheckShowing.{Shows, Holds}
use Rattle.job.proofs.Keeping.{sound}
use Rattle.job.proofs.CheckFit.{fit}
use Rattle.job.proofs.CheckShown.{off_allowed}
use Rattle.job.proofs.CheckStepping.{as_lemma, its_number, its_range, strikes_there, holds_off}
use Rattle.job.proofs.jobs.Job.back.Goals as goal

pub off-requires : goal.off-requires
off-requires g c =
    let j = c.args.self.now in
    let s = view j in
    let m = g.E.Engine.meaning c.args.engine.now in
    let o = fit s (sound j) in
    let i = c.args.i in
    let n = c.in-Lemma.n in
    record {
      allowed = off_allowed m (inputs_of s) (before s i) n (text_in (texts s) n)
          (subst (Shows m (inputs_of s)) (as_lemma s o i c.requires.step n c.in-Lemma.is) c.requires.shows) (its_number s o i c.requires.step n c.in-Lemma.is)
          c.requires.holds.shut (strikes_there s o i c.requires.step);
    }

pub judge-requires : goal.judge-requires
judge-requires g c =
    let j = c.args.self.now in
    let s = view j in
    let m = g.E.Engine.meaning c.args.engine.now in
    let o = fit s (sound j) in
    let i = c.args.i in
    let n = c.in-Lemma.n in
    let r = its_range s o i c.requires.step n c.in-Lemma.is in
    record {
      holds = subst (λ (x : Meaning). Holds x s) (sym c.off.ensures.does) (holds_off s o i c.requires.step n c.in-Lemma.is m c.requires.holds c.requires.shows);
      room = (r.0, r.1, c.requires.rooms n r.0 r.1);
    }
