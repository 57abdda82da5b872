use Rattle.std.proofs.Common.{get_or, replicate, ap, ◌∙◌}
use Rattle.trial.specs.declared.seen.Signs.{Signs}
use Rattle.trial.specs.Seeing.{no_signs, has_sign}
use Rattle.trial.proofs.Seeing.{nothing_seen}
use Rattle.trial.proofs.seen.Seen.new.Goals as goal

pub returns : goal.returns
returns c l =
    let none = c.default.ensures in
    ap (λ (signs : Signs). has_sign (get_or (replicate 513 signs) l.variable no_signs) l) (λ i. record { positive = none.0 i; negative = none.1 i }) ∙ nothing_seen 513 l
