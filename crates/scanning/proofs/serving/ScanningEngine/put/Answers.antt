use Rattle.std.proofs.Common.{◌≡◌, not, Ok, sym, refl, ap, ◌∙◌}
use Rattle.std.proofs.lemmas.Result.{err_from_is_err_and}
use Rattle.cnf.specs.Clauses.{Clause}
use Rattle.cnf.specs.Arranging.{arrangement}
use Rattle.engine.specs.Meaning.{highest, with_text}
use Rattle.engine.proofs.Refusing.{put_faulty, put_full, put_done, arranges, shut_refuses, shut_passes, no_room_is}
use Rattle.scanning.specs.Seen.{scan_meaning}
use Rattle.scanning.specs.Laws.{texts_length}
use Rattle.scanning.proofs.serving.ScanningEngine.put.Goals as goal

pub returns-in_err-ensure_shut : goal.returns-in_err-ensure_shut
returns-in_err-ensure_shut c =
    let s = c.args.self.now in
    let p = err_from_is_err_and c.from_residual.result c.from_residual.ensures.1 in
    record { does = rw (p.1, p.2) (shut_refuses (scan_meaning s) _ _ (c.in_err-ensure_shut.ensures (scan_meaning s)), refl) }

pub returns-in_err-text : goal.returns-in_err-text
returns-in_err-text c =
    let s = c.args.self.now in
    let shut = shut_passes (scan_meaning s) (c.in_ok-ensure_shut.ensures (scan_meaning s)) in
    let p = err_from_is_err_and c.from_residual-in_err-text.result c.from_residual-in_err-text.ensures.1 in
    record {
      does = rw (p.1, p.2) (put_faulty (scan_meaning s) c.args.literals.now _ shut (sym c.arrange-draft.ensures.outcome ∙ sym c.in_err-text.ensures), refl);
    }

pub returns-then-not-has : goal.returns-then-not-has
returns-then-not-has c =
    let s = c.args.self.now in
    let m = scan_meaning s in
    let ls = c.args.literals.now in
    let text = c.in_ok-text.text.now in
    let shut = shut_passes (scan_meaning s) (c.in_ok-ensure_shut.ensures (scan_meaning s)) in
    let clause : arrangement highest ls ≡ Ok text = sym c.arrange-draft.ensures.outcome ∙ sym c.in_ok-text.ensures in
    record { does = (put_full m ls text shut clause (no_room_is m s.books.room.texts s.books.room.literals _ (sym (texts_length s)) (sym s.counted) ∙ sym (ap not c.if-not-has.ensures)), refl) }

pub returns : goal.returns
returns c =
    let s = c.args.self.now in
    let m = scan_meaning s in
    let ls = c.args.literals.now in
    let text = c.in_ok-text.text.now in
    let shut = shut_passes (scan_meaning s) (c.in_ok-ensure_shut.ensures (scan_meaning s)) in
    let clause : arrangement highest ls ≡ Ok text = sym c.arrange-draft.ensures.outcome ∙ sym c.in_ok-text.ensures in
    record {
      does = (put_done m ls text shut clause (no_room_is m s.books.room.texts s.books.room.literals _ (sym (texts_length s)) (sym s.counted) ∙ sym (ap not c.if-not-has.ensures)), c.store.ensures ∙ ap (λ (d : Clause). with_text d m) (sym (arranges ls text clause).2));
    }
