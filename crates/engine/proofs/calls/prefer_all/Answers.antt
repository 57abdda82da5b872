use Rattle.std.proofs.Common.{get_or, ap, ◌∙◌}
use Rattle.engine.specs.Meaning.{Meaning, no_off}
use Rattle.engine.proofs.Keeping.{get_or_in}
use Rattle.engine.proofs.Allowed.{on_allowed}
use Rattle.engine.proofs.calls.prefer_all.Goals as goal

pub prefer-requires : goal.prefer-requires
prefer-requires g c =
    let numbers = c.args.numbers.now in
    let n = get_or numbers c.loop-number.number-index 0 in
    record {
      allowed =
          ap (λ (m : Meaning). no_off m n) c.loop-number.invariant
          ∙ on_allowed (g.E.Engine.meaning c.args.engine.now) (g.E.Engine.laws c.args.engine.now) n c.requires.idle
          (c.requires.on n (get_or_in numbers c.loop-number.number-index 0 c.loop-number-test.true));
    }
