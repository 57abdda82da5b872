use Rattle.std.proofs.Common.{length, sym, refl, ap, subst, arith}
use Rattle.std.proofs.lemmas.Slice.{put_mid-paste}
use Rattle.job.specs.View.{with_lits}
use Rattle.job.specs.Seen.{view}
use Rattle.job.specs.Sound.{Sound}
use Rattle.job.proofs.Keeping.{sound, held, sound_laid}
use Rattle.job.proofs.jobs.Job.lay.Goals as goal

pub invariant_of-self : goal.invariant_of-self
invariant_of-self c =
    let j = c.args.self.now in
    let s = view j in
    let ls = c.args.clause.now in
    let laid = put_mid-paste s.used _ s.lits c.copy_from_slice.new.self ls (length ls) c.copy_from_slice.ensures.after (omega (arith, c.requires.1)) refl in
    held _ (subst Sound (ap (λ ls. with_lits ls s) (sym laid)) (sound_laid s ls c.requires.1 (sound j)))
