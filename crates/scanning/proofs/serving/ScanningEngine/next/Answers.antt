use Rattle.std.proofs.Common.{refl}
use Rattle.std.proofs.lemmas.Result.{err_from_is_err_and}
use Rattle.engine.proofs.Keeping.{open_trial}
use Rattle.engine.proofs.Parts.{answer_joins}
use Rattle.engine.proofs.Refusing.{judged_fault, judged_none}
use Rattle.scanning.specs.Seen.{scan_meaning}
use Rattle.scanning.specs.Laws.{scan_laws}
use Rattle.scanning.proofs.serving.ScanningEngine.next.Goals as goal

pub returns-in_err-ensure_open-clause-does : goal.returns-in_err-ensure_open-clause-does
returns-in_err-ensure_open-clause-does c =
    let p = err_from_is_err_and c.from_residual.result c.from_residual.ensures.1 in
    rw (p.1, p.2) (judged_fault _ _ (c.in_err-ensure_open.ensures (scan_meaning c.args.self.now)), refl)

pub note-requires-clause-open : goal.note-requires-clause-open
note-requires-clause-open c =
    let s = c.args.self.now in
    open_trial (scan_meaning s) (judged_none _ (c.in_ok-ensure_open.ensures (scan_meaning s)))

pub note-requires-clause-joins : goal.note-requires-clause-joins
note-requires-clause-joins c =
    let s = c.args.self.now in
    answer_joins (scan_meaning s) (scan_laws s) c.find-answer.result c.find-answer.ensures.says

pub returns-clause-does : goal.returns-clause-does
returns-clause-does c =
    let s = c.args.self.now in
    (judged_none _ (c.in_ok-ensure_open.ensures (scan_meaning s)), c.find-answer.ensures.says, c.note.ensures (scan_meaning s))
