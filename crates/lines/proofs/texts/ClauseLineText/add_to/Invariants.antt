use Rattle.std.proofs.Common.{take}
use Rattle.std.specs.List.{flat_map}
use Rattle.lines.specs.Pages.{Adds}
use Rattle.lines.specs.Texts.{literal_word}
use Rattle.lines.proofs.texts.ClauseLineText.add_to.Given as goal

abbrev pub invariant-loop-literal : goal.invariant-loop-literal
invariant-loop-literal l = Adds l.initial.page (flat_map literal_word (take l.literal-index l.literal-items)) l.page
