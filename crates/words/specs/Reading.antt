-- What the words of the code say.
use Rattle.std.specs.Prelude.{ℕ, List, length, drop}
use Rattle.words.specs.declared.reader.Word.{Word}
use Rattle.words.specs.declared.reader.Word.TheVariants.{Name, Number, End}
use Rattle.words.specs.declared.reader.Placed.{Placed}
use Rattle.words.specs.declared.reader.Words.{Words}
use Rattle.words.specs.Lexis.{start_at, Shape, name, number, end}
use Rattle.words.specs.Texts.{At, words_from}

-- what a word is
abbrev pub shape_of : Word → Shape
shape_of (Name w) = name w.now
shape_of (Number w) = number w.now
shape_of End = end

-- a word and where it stands
abbrev pub shown : Placed → At
shown p = record { word = shape_of p.word; place = p.place }

-- the words that a reader has still to give
unfoldable pub left : Words → List At
left r = words_from (start_at r.at) r.at (drop r.at r.text.now)

-- the length of its text
unfoldable pub extent : Words → ℕ
extent r = length r.text.now
