use Rattle.std.proofs.Common.{◌+◌, ◌-◌, ◌*◌, [], ◌∷◌, length, ap, ◌∙◌, arith}
use Rattle.drup.specs.Backward.{gathered}
use Rattle.engine.specs.Meaning.{text_of}
use Rattle.trial.specs.Noted.{latest}
use Rattle.job.specs.View.{View}
use Rattle.job.specs.Seen.{view}
use Rattle.job.proofs.CheckJudgement.{place_same, its_row, row_fits, row_on, recorded_is}
use Rattle.job.proofs.jobs.Job.record_row.Goals as goal

pub lay_row-requires : goal.lay_row-requires
lay_row-requires g c =
    let s = view c.args.self.now in
    row_fits (g.E.Engine.meaning c.args.engine.now) s c.requires.holds (latest c.args.answers.now) c.args.conflict c.numbers.result.now (c.numbers.ensures ∙ c.row_of-row.ensures)
    c.args.n (((c.args.n - 1) - s.inputs) * (s.variables + 1)) (λ i. ((c.args.n - 1) - s.inputs) * (s.variables + 1)) c.requires.few c.requires.room.2

pub keep-requires : goal.keep-requires
keep-requires g c n x =
    let m = g.E.Engine.meaning c.args.engine.now in
    let s = view c.args.self.now in
    let on = row_on m s c.requires.holds (latest c.args.answers.now) c.args.conflict c.numbers-2.result.now (c.numbers-2.ensures ∙ c.row_of-row.ensures) c.requires.live n x in
    let z = c.requires.holds.numbered n on in
    let e = ap (λ (v : View). v.clauses) c.lay_row.ensures.after in
    (z.0, omega (arith, z.1))

pub prefer_all-requires : goal.prefer_all-requires
prefer_all-requires g c = record {
  idle = c.requires.holds.shut;
  on = row_on (g.E.Engine.meaning c.args.engine.now) (view c.args.self.now) c.requires.holds (latest c.args.answers.now) c.args.conflict c.numbers-3.result.now (c.numbers-3.ensures ∙ c.row_of-row.ensures) c.requires.live;
}

pub returns : goal.returns
returns g c =
    let m = g.E.Engine.meaning c.args.engine.now in
    let s = view c.args.self.now in
    let answers = latest c.args.answers.now in
    let at = c.args.conflict in
    let row = gathered (text_of m) answers (at ∷ []) in
    let a = c.lay_row.ensures.lent in
    let b = c.keep.ensures.lent in
    record {
      becomes = record {
        lent = (b.0 ∙ a.0, b.1 ∙ a.1, b.2 ∙ a.2, b.3 ∙ a.3);
        after = recorded_is s (view c.lay_row.new.self) (view c.keep.new.self) c.args.n (((c.args.n - 1) - s.inputs) * (s.variables + 1)) c.numbers.result.now c.numbers-2.result.now row
            (its_row m s c.requires.holds answers at c.numbers.result.now (c.numbers.ensures ∙ c.row_of-row.ensures))
            (its_row m s c.requires.holds answers at c.numbers-2.result.now (c.numbers-2.ensures ∙ c.row_of-row.ensures))
            (place_same c.args.n s.inputs s.variables) c.lay_row.ensures.after c.keep.ensures.after;
      };
      length = ap length (its_row m s c.requires.holds answers at c.numbers-4.result.now (c.numbers-4.ensures ∙ c.row_of-row.ensures));
      does = c.prefer_all.ensures.does;
    }
