-- What a scanning engine stands for is well formed.
use Rattle.std.specs.Prelude.{◌≡◌, ℕ, ◌≤◌, take, length}
use Rattle.std.proofs.Common.{sym, ◌∙◌, subst}
use Rattle.std.proofs.Math.Nat.{le_trans}
use Rattle.std.proofs.lemmas.List.{length-map, length-take-le}
use Rattle.engine.specs.Meaning.{WellFormed}
use Rattle.engine.proofs.Parts.{rising_clauses}
use Rattle.scanning.specs.declared.Scanning.{Scanning}
use Rattle.scanning.specs.declared.rows.TextRow.{TextRow}
use Rattle.scanning.specs.Store.{stored_text}
use Rattle.scanning.specs.Seen.{scan_meaning}

-- a text for each row in use
pub texts_length : (s : Scanning) → length (scan_meaning s).texts ≡ s.books.room.texts
texts_length s =
    length-map (take s.books.room.texts s.rows.now) (stored_text s.places.now)
    ∙ length-take-le s.books.room.texts s.rows.now (le_trans s.books.room.few.0 s.served.0)

pub scan_laws : (s : Scanning) → WellFormed (scan_meaning s)
scan_laws s = record {
  clauses = rising_clauses (scan_meaning s).texts s.rising;
  marks = length-map (take s.books.room.texts s.rows.now) (λ (r : TextRow). r.on) ∙ sym (length-map (take s.books.room.texts s.rows.now) (stored_text s.places.now));
  few_texts = subst (λ (n : ℕ). n ≤ s.books.room.limits.texts) (sym (texts_length s)) s.books.room.few.0;
  few_literals = subst (λ (n : ℕ). n ≤ s.books.room.limits.literals) (sym s.counted) s.books.room.few.1;
  consistent = s.books.session.consistent;
  at_rest = s.books.session.at_rest;
  countable = s.books.session.countable;
  small = s.small;
}
