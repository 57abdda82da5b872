use Rattle.job.proofs.CheckSurround.{off_either}
use Rattle.job.proofs.jobs.filling.put_out.Goals as goal

pub returns : goal.returns
returns g c = record {
  does = off_either (g.E.Engine.meaning c.args.engine.now) _ c.args.number c.off.result c.requires.shut c.requires.numbered.0 c.requires.numbered.1 c.off.ensures.does;
}
