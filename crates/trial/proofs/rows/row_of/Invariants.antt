use Rattle.std.proofs.Common.{[], ◌∷◌}
use Rattle.std.specs.Iterator.Adapters.{rev_source}
use Rattle.std.specs.Slice.Iter.{iter_rest}
use Rattle.drup.specs.Backward.{gathered}
use Rattle.engine.specs.Meaning.{text_in}
use Rattle.trial.specs.Noted.{latest}
use Rattle.trial.proofs.Gathering.{Gathers}
use Rattle.trial.proofs.rows.row_of.Given as goal

abbrev pub invariant-loop-forced : goal.invariant-loop-forced
invariant-loop-forced g l =
    Gathers (g.T.Texts.clauses l.texts)
    (gathered (text_in (g.T.Texts.clauses l.texts)) (latest l.answers) (l.conflict ∷ []))
    (iter_rest (rev_source l.forced-iterator)) l.seen l.numbers.items
