use Rattle.std.proofs.Common.{◌≡◌, rules, tests, ◌∙◌}
use Rattle.cnf.specs.declared.literals.Literal.{Literal}
use Rattle.cnf.specs.declared.literals.Forced.{Forced}
use Rattle.engine.specs.Lowest.{ForcesAt}
use Rattle.scanning.specs.Seen.{scan_meaning}
use Rattle.scanning.proofs.Numbers.{first_mapped}
use Rattle.scanning.proofs.Reading.{first_forcing}
use Rattle.scanning.proofs.Scanning.lowest_forcing.Goals as goal

pub returns : goal.returns
returns c =
    let s = c.args.self.now in
    let m = scan_meaning s in
    first_forcing s c.find_map.result
    (first_mapped c.new.result _ s.books.room.texts c.find_map.result (λ n (f : Forced). (f.number ≡ n) × ForcesAt m n f.literal) (λ n. (l : Literal) → ForcesAt m n l → ⊥)
    c.new.ensures.start (c.new.ensures.end ∙ c.texts.ensures) c.new.ensures.exhausted c.find_map.ensures.runs
    (λ x r q k. search (rules, tests)) (λ x y k. search (rules, tests)) (λ x k. search (rules, tests)))
