use Rattle.scanning.specs.Seen.{scan_meaning}
use Rattle.scanning.proofs.serving.ScanningEngine.finish.Goals as goal

pub returns : goal.returns
returns c = record { does = c.finish.ensures (scan_meaning c.args.self.now) }
