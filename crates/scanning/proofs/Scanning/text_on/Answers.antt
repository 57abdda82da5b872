use Rattle.std.proofs.Common.{ℕ, sym, ap, ◌∙◌}
use Rattle.std.specs.Result.{result_ok}
use Rattle.std.proofs.lemmas.Bool.{not-false}
use Rattle.scanning.specs.declared.rows.TextRow.{TextRow}
use Rattle.scanning.specs.Store.{blank_row, stored_text}
use Rattle.std.proofs.Common.{get_or}
use Rattle.scanning.proofs.Reading.{place_found, on_is, text_is}
use Rattle.scanning.proofs.Scanning.text_on.Goals as goal

pub returns : goal.returns
returns c =
    let s = c.args.self.now in
    let n = c.args.number in
    let h = place_found s.books.room.texts n c.in_ok-place.place (c.in_ok-place.ensures.value ∙ ap result_ok c.place.ensures) in
    let row = ap (λ (p : ℕ). get_or s.rows.now p blank_row) h.2 in (
      on_is s n h.0 h.1 ∙ sym (ap (λ (r : TextRow). r.on) row) ∙ not-false _ c.if-not-row.false,
      c.text_at.ensures ∙ ap (stored_text s.places.now) row ∙ sym (text_is s n h.0 h.1),
    )
