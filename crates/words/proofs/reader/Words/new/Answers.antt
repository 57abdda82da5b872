use Rattle.std.proofs.Common.{refl}
use Rattle.words.specs.Reading.{left, extent}
use Rattle.words.proofs.Covers.{parts}
use Rattle.words.proofs.reader.Words.new.Goals as goal

pub returns : goal.returns
unfolding left extent
returns c = record { words = refl; extent = refl; parts = parts c.args.text.now }
