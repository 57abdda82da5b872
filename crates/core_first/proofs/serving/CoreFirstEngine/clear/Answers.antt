use Rattle.std.proofs.Common.{ap, subst, sym}
use Rattle.std.proofs.lemmas.Result.{err_from_is_err_and}
use Rattle.engine.specs.declared.books.Books.{Books}
use Rattle.engine.specs.Meaning.{Meaning}
use Rattle.engine.proofs.Keeping.{closed_trial}
use Rattle.core_first.specs.CoreSides.{core_meaning, Whole}
use Rattle.core_first.proofs.CoreWhole.{stands}
use Rattle.core_first.proofs.serving.CoreFirstEngine.clear.Goals as goal

pub invariant_of-self : goal.invariant_of-self
invariant_of-self g c =
    let s = c.args.self.now in
    let m = core_meaning g.P.Engine.meaning g.R.Engine.meaning s.sides s.books.room s.books.session in
    let same = (c.in_err-clear.ensures.clears m.texts m.on).1 in
    record { whole = subst (λ (b : Books). Whole g.P.Engine.meaning g.R.Engine.meaning s.sides b.room (core_meaning g.P.Engine.meaning g.R.Engine.meaning s.sides b.room b.session)) (sym same) s.whole }

pub returns-in_err-clear : goal.returns-in_err-clear
returns-in_err-clear g c =
    let s = c.args.self.now in
    let m = core_meaning g.P.Engine.meaning g.R.Engine.meaning s.sides s.books.room s.books.session in
    let p = err_from_is_err_and c.from_residual.result c.from_residual.ensures.1 in
    let h = c.in_err-clear.ensures.clears m.texts m.on in
    record { does = rw (p.1, p.2) (h.0, ap (λ (b : Books). core_meaning g.P.Engine.meaning g.R.Engine.meaning s.sides b.room b.session) h.1) }

pub invariant_of-self-2 : goal.invariant_of-self-2
invariant_of-self-2 g c =
    let s = c.args.self.now in
    let m = core_meaning g.P.Engine.meaning g.R.Engine.meaning s.sides s.books.room s.books.session in
    let h = c.in_ok-clear.ensures.clears m.texts m.on in
    let b = c.clear.new.self in
    record { whole = (stands g.P.Engine.meaning g.R.Engine.meaning c.clear-2.new.self b.room b.session _ (c.clear-2.ensures.carries m (closed_trial m h.0) s.whole.backed) (ap (λ (x : Meaning). x.trail) h.1) (ap (λ (x : Meaning). x.opened) h.1) (ap (λ (x : Meaning). x.answers) h.1) (ap (λ (x : Meaning). x.text_limit) h.1) (ap (λ (x : Meaning). x.literal_limit) h.1) h.2.0 h.2.1).1 }

pub returns : goal.returns
returns g c =
    let s = c.args.self.now in
    let m = core_meaning g.P.Engine.meaning g.R.Engine.meaning s.sides s.books.room s.books.session in
    let h = c.in_ok-clear.ensures.clears m.texts m.on in
    let b = c.clear.new.self in
    record { does = (h.0, (stands g.P.Engine.meaning g.R.Engine.meaning c.clear-2.new.self b.room b.session _ (c.clear-2.ensures.carries m (closed_trial m h.0) s.whole.backed) (ap (λ (x : Meaning). x.trail) h.1) (ap (λ (x : Meaning). x.opened) h.1) (ap (λ (x : Meaning). x.answers) h.1) (ap (λ (x : Meaning). x.text_limit) h.1) (ap (λ (x : Meaning). x.literal_limit) h.1) h.2.0 h.2.1).0) }
