use Rattle.std.proofs.Common.{rules, tests, ◌∙◌}
use Rattle.engine.specs.Lowest.{FalseAt}
use Rattle.scanning.specs.Seen.{scan_meaning}
use Rattle.scanning.proofs.Numbers.{first_number}
use Rattle.scanning.proofs.Reading.{first_false}
use Rattle.scanning.proofs.Scanning.lowest_false.Goals as goal

pub returns : goal.returns
returns c =
    let s = c.args.self.now in
    let m = scan_meaning s in
    first_false s c.find.result
    (first_number c.new.result _ s.books.room.texts c.find.result (FalseAt m) (λ k. FalseAt m k → ⊥)
    c.new.ensures.start (c.new.ensures.end ∙ c.texts.ensures) c.new.ensures.exhausted c.find.ensures.runs
    (λ x r q k. search (rules, tests)) (λ x k. search (rules, tests)) (λ x k. search (rules, tests)))
