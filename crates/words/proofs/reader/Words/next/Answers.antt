use Rattle.std.proofs.Common.{refl, ap, ◌∙◌}
use Rattle.words.specs.Reading.{left, extent}
use Rattle.words.proofs.Nexts.{next_found, rest_found}
use Rattle.words.proofs.reader.Words.next.Goals as goal

pub returns : goal.returns
unfolding left extent
returns c =
    let r = c.args.self.now in
    let p = c.skip-place.result in
    let begins = c.skip-place.ensures.place in
    let ends = c.run-end.ensures.place in
    record {
      word = ap (λ w. record { word = w; place = p }) c.classed-word.ensures ∙ next_found r.text.now r.at r.ok p c.run-end.result begins ends;
      rest = rest_found r.text.now r.at r.ok p c.run-end.result begins ends;
      extent = refl;
    }
