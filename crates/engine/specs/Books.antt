-- The books of an engine.
use Rattle.std.specs.Prelude.{◌≡◌, Bool, List, [], Some, None, Ok, Err, Result}
use Rattle.cnf.specs.Clauses.{Clause}
use Rattle.engine.specs.declared.books.Books.{Books}
use Rattle.engine.specs.declared.faults.EngineFault.{EngineFault}
use Rattle.engine.specs.Meaning.{Meaning, shut, cleared}
use Rattle.engine.specs.Trails.{entries_of}

-- an engine that keeps these books, with these texts and marks
abbrev pub in_books : Books → List Clause → List Bool → Meaning
in_books b texts marks = record { texts = texts; on = marks; trail = entries_of b.session.trail; opened = b.session.opened; answers = b.session.answers; text_limit = b.room.limits.texts; literal_limit = b.room.limits.literals }

-- books in which nothing is held
abbrev pub NothingHeld : Books → Type 0
NothingHeld b = (b.room.texts ≡ 0) × (b.room.literals ≡ 0)

-- what clearing does to the books of an engine that stands for m: it leaves those of a cleared one, or is refused
abbrev pub BooksClear : Meaning → (before : Books) → Result (Unit {0}) EngineFault → (after : Books) → Type 0
BooksClear m b (Ok x) c = (shut m ≡ None) × (in_books c [] [] ≡ cleared m) × NothingHeld c
BooksClear m b (Err e) c = (shut m ≡ Some e) × (c ≡ b)
