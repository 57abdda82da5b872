use Rattle.std.proofs.Common.{sym, ◌∙◌}
use Rattle.core_first.proofs.CoreCalls.{asked_forced}
use Rattle.core_first.proofs.asking.ask.Goals as goal

pub returns-in-Forced : goal.returns-in-Forced
returns-in-Forced g c = asked_forced _ _ _ _ (g.A.Engine.laws c.args.first.now) c.next.result c.in-Forced.forced c.assume.result (sym c.unwrap_or-answer.ensures ∙ c.in-Forced.is) c.next.ensures.does c.assume.ensures.does
