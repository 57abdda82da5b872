use Rattle.std.proofs.Common.{sym}
use Rattle.scanning.specs.Laws.{texts_length}
use Rattle.scanning.specs.Seen.{scan_meaning}
use Rattle.scanning.proofs.Scanning.place.Goals as goal

pub returns : goal.returns
returns c =
    let s = c.args.self.now in
    let m = scan_meaning s in
    c.place.ensures m.texts m.on (sym (texts_length s))
