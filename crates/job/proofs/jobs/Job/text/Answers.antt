use Rattle.std.proofs.Common.{◌+◌, ◌-◌, ◌≤◌, length, get_or, sym, ◌∙◌, arith}
use Rattle.job.specs.View.{blank_row}
use Rattle.job.proofs.Texts.{laid_within, text_at}
use Rattle.job.proofs.jobs.Job.text.Goals as goal

pub text_at-requires : goal.text_at-requires
text_at-requires c =
    let s = c.args.self.now in
    let p = c.args.n - 1 in
    let w = laid_within s.records.now s.clauses s.used s.laid p (omega (arith, c.requires)) in
    let r = s.rooms.2 in
    let u = s.counts.3 in
    let h : (get_or s.records.now p blank_row).start + (get_or s.records.now p blank_row).len ≤ length s.literals.now = omega arith in
    h

pub returns : goal.returns
returns c =
    let s = c.args.self.now in
    let a = s.rooms.0 in
    let b = s.counts.1 in
    c.text_at.ensures ∙ sym (text_at s.records.now s.literals.now s.clauses (omega arith) c.args.n c.requires.0 c.requires.1)
