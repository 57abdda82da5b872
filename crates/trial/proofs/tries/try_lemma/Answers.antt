use Rattle.std.proofs.Common.{ap, ◌∙◌}
use Rattle.drup.specs.Backward.{asked}
use Rattle.engine.specs.Meaning.{with_trail}
use Rattle.engine.specs.Trails.{entries_of}
use Rattle.trial.specs.Noted.{latest}
use Rattle.trial.specs.Trying.{supposed}
use Rattle.trial.proofs.Trying.{found, left, few}
use Rattle.trial.proofs.tries.try_lemma.Goals as goal

pub returns : goal.returns
returns g c =
    let m = g.E.Engine.meaning c.args.engine.now in
    let ls = c.args.lemma.now in
    let during = g.E.Engine.meaning c.suppose.new.engine in
    let answers = c.ask-end.result.answers in
    let k = asked (latest answers) in
    let after = g.E.Engine.meaning c.ask-end.new.engine in
    let d = c.suppose.ensures ∙ ap (with_trail (supposed ls)) c.open-trial.ensures.does in
    record {
      does =
          left m during ls d c.requires.idle ((g.E.Engine.laws c.args.engine.now).at_rest c.requires.idle) k (entries_of answers) after
          (g.E.Engine.meaning c.end.new.engine) c.ask-end.ensures.does c.end.ensures.does;
      right = found m during ls d (latest answers) c.ask-end.result.conflict c.ask-end.ensures.right;
      few = few m during ls d k (entries_of answers) after (g.E.Engine.laws c.ask-end.new.engine) c.ask-end.ensures.does;
    }
