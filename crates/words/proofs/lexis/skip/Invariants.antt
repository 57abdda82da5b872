use Rattle.std.proofs.Common.{◌≡◌, ◌+◌, drop}
use Rattle.words.specs.Lexis.{gap, start_at}
use Rattle.words.proofs.lexis.skip.Given as goal

abbrev pub invariant-loop-i : goal.invariant-loop-i
invariant-loop-i l = (l.i + gap l.mode (drop l.i l.b-items) ≡ gap (start_at l.at) (drop l.at l.text))
