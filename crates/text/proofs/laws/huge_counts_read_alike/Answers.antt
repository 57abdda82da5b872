use Rattle.text.proofs.Counts.{huge_counts}
use Rattle.text.proofs.laws.huge_counts_read_alike.Goals as goal

pub returns : goal.returns
returns c = huge_counts
