use Rattle.std.proofs.Common.{subst, inr}
use Rattle.engine.specs.Meaning.{Says}
use Rattle.core_first.proofs.CoreTogether.{backs}
use Rattle.core_first.proofs.CoreCalls.{ask_first, ask_second}
use Rattle.core_first.proofs.Sides.next.Goals as goal

pub returns-in-Nothing-clause-answers : goal.returns-in-Nothing-clause-answers
returns-in-Nothing-clause-answers g c m o b =
    let s = c.args.self.now in
    let p = g.P.Engine.meaning s.preferred in
    let linked = c.if-not-self.false in
    let a = ask_first p (g.R.Engine.meaning s.rest) m (b.0 linked) o c.ask.result _ _ c.ask.ensures in
    let w = a.2 c.in-Nothing.is in
    let q = ask_second _ _ m w.1 o c.ask-in-Nothing.result _ _ c.ask-in-Nothing.ensures w.0 in
    (q.0, backs linked q.1, (λ _. inr (subst (Says p) c.in-Nothing.is a.0)))
