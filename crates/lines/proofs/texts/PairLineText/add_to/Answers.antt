use Rattle.lines.proofs.Additions.{adds_then}
use Rattle.lines.proofs.texts.PairLineText.add_to.Goals as goal

pub returns : goal.returns
returns c = adds_then (adds_then (adds_then (adds_then c.add.ensures c.add_to.ensures) c.add-2.ensures) c.add_to-2.ensures) c.add-3.ensures
