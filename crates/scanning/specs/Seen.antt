-- What a scanning engine stands for.
use Rattle.engine.specs.Meaning.{Meaning}
use Rattle.engine.specs.Books.{in_books}
pub use Rattle.engine.specs.Limits.{no_place, unless}
use Rattle.scanning.specs.declared.Scanning.{Scanning}
use Rattle.scanning.specs.Store.{texts_in, marks_in}

abbrev pub scan_meaning : Scanning → Meaning
scan_meaning s = in_books s.books (texts_in s.rows.now s.places.now s.books.room.texts) (marks_in s.rows.now s.books.room.texts)
