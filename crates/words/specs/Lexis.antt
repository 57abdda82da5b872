-- How a text, a list of bytes, falls into words, and which words are numbers.
use Rattle.std.specs.Prelude.{ℕ, ◌+◌, Bool, true, false, cond, not, ◌&&◌, ◌||◌, List, [], ◌∷◌, length, ◌==◌, nat_le, slice_index}
use Rattle.std.specs.Str.{all_ascii_digits}
use Rattle.words.specs.declared.lexis.Mode.{Mode}
use Rattle.words.specs.declared.lexis.Mode.TheVariants.{Fresh, Within, Comment}

-- a space, a tab, a carriage return or a line feed parts words
abbrev pub blank : ℕ → Bool
blank b = b == 32 || (b == 9 || (b == 13 || b == 10))

-- any other byte is part of a word
abbrev pub inner : ℕ → Bool
inner b = not (blank b)

-- whether the byte b is passed over: a blank is, and so is a `c` that begins a line and whatever follows it
abbrev pub passes : Mode → ℕ → Bool
passes Fresh b = b == 99 || blank b
passes Within b = blank b
passes Comment b = true

-- where in a line the byte after b stands, b being passed over: a line feed alone ends a line
abbrev pub after : Mode → ℕ → Mode
after Fresh b = cond (b == 99) Comment (cond (b == 10) Fresh Within)
after Within b = cond (b == 10) Fresh Within
after Comment b = cond (b == 10) Fresh Comment

-- how many bytes are passed over ahead of the next word, or of the end
abbrev pub gap : Mode → List ℕ → ℕ
gap m [] = 0
gap m (b ∷ bs) = cond (passes m b) (1 + gap (after m b) bs) 0

-- byte 0 of a text begins a line; a reader that has read on stands right behind a word
abbrev pub start_at : ℕ → Mode
start_at at = cond (at == 0) Fresh Within

-- digits of which the first is not 0
abbrev pub plain : List ℕ → Bool
plain [] = false
plain (b ∷ bs) = nat_le 49 b && (nat_le b 57 && all_ascii_digits bs)

-- a number without a sign: base ten and no leading zero
abbrev pub natural : List ℕ → Bool
natural [] = false
natural (b ∷ bs) = plain (b ∷ bs) || (b == 48 && length bs == 0)

-- a number: one without a sign, or a minus ahead of digits of which the first is not 0
abbrev pub numeral : List ℕ → Bool
numeral [] = false
numeral (b ∷ bs) = cond (b == 45) (plain bs) (natural (b ∷ bs))

-- the word `0`
abbrev pub is_zero : List ℕ → Bool
is_zero w = length w == 1 && slice_index w 0 == 48

-- what a word is, with its bytes; or the text's end
pub data Shape : Type 0 where
  name : List ℕ → Shape
  number : List ℕ → Shape
  end : Shape

-- what the bytes of a word are; of no bytes it is the end
abbrev pub shape : List ℕ → Shape
shape [] = end
shape (b ∷ bs) = cond (numeral (b ∷ bs)) (number (b ∷ bs)) (name (b ∷ bs))
