use Rattle.std.proofs.Common.{◌≡◌, ℕ, Ok, Err, Result, sym, ap, ◌∙◌, subst, arith}
use Rattle.std.specs.List.{list_all}
use Rattle.cnf.specs.Clauses.{literals}
use Rattle.cnf.specs.Ascending.{ascending}
use Rattle.engine.specs.declared.books.Books.{Books}
use Rattle.engine.specs.declared.faults.EngineFault.{EngineFault}
use Rattle.engine.specs.declared.limits.Limits.{Limits}
use Rattle.engine.specs.Books.{in_books, BooksClear}
use Rattle.engine.specs.Meaning.{highest, Clears}
use Rattle.scanning.specs.declared.Scanning.{Scanning}
use Rattle.scanning.specs.Store.{texts_in, marks_in, Small, Served, Placed, AllRising}
use Rattle.scanning.specs.Seen.{scan_meaning}
use Rattle.scanning.proofs.serving.ScanningEngine.clear.Goals as goal

module _ (s : Scanning) where
  -- what holds of the rows and the places, with these books
  abbrev Kept : Books → Type 0
  Kept b = Placed s.rows.now b.room.texts b.room.literals × (literals (texts_in s.rows.now s.places.now b.room.texts) ≡ b.room.literals) × AllRising (texts_in s.rows.now s.places.now b.room.texts)

  kept : (r : Result (Unit {0}) EngineFault) (b : Books) → BooksClear (scan_meaning s) s.books r b → Kept b
  kept (Ok x) b h = (
    (λ k below. absurd (omega (arith, below, h.2.0))),
    ap (λ (n : ℕ). literals (texts_in s.rows.now s.places.now n)) h.2.0 ∙ sym h.2.1,
    ap (λ (n : ℕ). list_all (ascending 0 highest) (texts_in s.rows.now s.places.now n)) h.2.0,
  )
  kept (Err e) b h = subst Kept (sym h.1) (s.placed, s.counted, s.rising)

  -- and with books that are cleared, the whole is
  cleared_all : (r : Result (Unit {0}) EngineFault) (b : Books) → BooksClear (scan_meaning s) s.books r b
      → Clears (scan_meaning s) r (in_books b (texts_in s.rows.now s.places.now b.room.texts) (marks_in s.rows.now b.room.texts))
  cleared_all (Ok x) b h = (h.0, ap (λ (n : ℕ). in_books b (texts_in s.rows.now s.places.now n) (marks_in s.rows.now n)) h.2.0 ∙ h.1)
  cleared_all (Err e) b h = (h.0, ap (λ (x : Books). in_books x (texts_in s.rows.now s.places.now x.room.texts) (marks_in s.rows.now x.room.texts)) h.1)

pub invariant_of-self : goal.invariant_of-self
invariant_of-self c =
    let s = c.args.self.now in
    let m = scan_meaning s in
    let limits = sym c.clear.ensures.limits in
    let k = kept s c.clear.result c.clear.new.self (c.clear.ensures.clears m.texts m.on) in
    record {
      small = subst Small limits s.small;
      served = subst (λ (l : Limits). Served l s.rows.now s.places.now) limits s.served;
      placed = k.0;
      counted = k.1;
      rising = k.2;
    }

pub returns : goal.returns
returns c =
    let s = c.args.self.now in
    let m = scan_meaning s in
    record { does = cleared_all s c.clear.result c.clear.new.self (c.clear.ensures.clears m.texts m.on) }
