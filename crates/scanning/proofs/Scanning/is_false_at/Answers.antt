use Rattle.std.proofs.Common.{rules, tests}
use Rattle.scanning.specs.Seen.{scan_meaning}
use Rattle.scanning.proofs.Reading.{false_look}
use Rattle.scanning.proofs.Scanning.is_false_at.Goals as goal

pub returns : goal.returns
returns c = false_look (scan_meaning c.args.self.now) c.args.number c.text_on.result c.is_some_and.result c.text_on.ensures c.is_some_and.ensures (λ text k. search (rules, tests))
