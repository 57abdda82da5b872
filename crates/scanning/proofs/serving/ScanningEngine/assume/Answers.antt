use Rattle.scanning.specs.Seen.{scan_meaning}
use Rattle.scanning.proofs.serving.ScanningEngine.assume.Goals as goal

pub returns : goal.returns
returns c = record { does = c.assume.ensures (scan_meaning c.args.self.now) }
