use Rattle.scanning.specs.Seen.{scan_meaning}
use Rattle.scanning.proofs.serving.ScanningEngine.begin.Goals as goal

pub returns : goal.returns
returns c = record { does = c.begin.ensures (scan_meaning c.args.self.now) }
