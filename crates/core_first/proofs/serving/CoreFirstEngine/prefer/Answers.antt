use Rattle.engine.specs.Meaning.{no_off}
use Rattle.engine.proofs.Refusing.{judged_none}
use Rattle.core_first.specs.CoreSides.{core_meaning}
use Rattle.core_first.proofs.CoreWhole.{can_turn, turned}
use Rattle.core_first.proofs.serving.CoreFirstEngine.prefer.Goals as goal

pub invariant_of-self : goal.invariant_of-self
invariant_of-self g c =
    let s = c.args.self.now in
    let m = core_meaning g.P.Engine.meaning g.R.Engine.meaning s.sides s.books.room s.books.session in
    let n = c.args.number in
    let can = can_turn m n (judged_none _ c.in_ok-can_turn.ensures) in
    record { whole = (turned s.books.session s.whole c.prefer.new.self (no_off m n) m.on c.prefer.result (c.prefer.ensures.turns m can.0 can.1 s.whole.backed)).1 }

pub returns : goal.returns
returns g c =
    let s = c.args.self.now in
    let m = core_meaning g.P.Engine.meaning g.R.Engine.meaning s.sides s.books.room s.books.session in
    let n = c.args.number in
    let can = can_turn m n (judged_none _ c.in_ok-can_turn.ensures) in
    record { does = (turned s.books.session s.whole c.prefer.new.self (no_off m n) m.on c.prefer.result (c.prefer.ensures.turns m can.0 can.1 s.whole.backed)).0 }
