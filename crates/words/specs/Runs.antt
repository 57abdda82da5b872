-- What is true of the words of a text, in terms of the text alone.
use Rattle.std.specs.Prelude.{◌≡◌, ℕ, zero, suc, ◌+◌, ◌<◌, ◌≤◌, Bool, true, false, cond, not, ◌&&◌, ◌||◌, List, [], ◌∷◌, length, take, drop, All, ◌==◌, nat_le, nat_lt, slice_index, slice_index_or}
use Rattle.words.specs.Lexis.{inner, Shape, name, number, end, shape}
use Rattle.words.specs.Texts.{At}

-- the bytes of a word
abbrev pub bytes_of : Shape → List ℕ
bytes_of (name w) = w
bytes_of (number w) = w
bytes_of end = []

-- where a word ends
abbrev pub end_of : At → ℕ
end_of a = a.place + length (bytes_of a.word)

-- a word is not empty, has no blank byte, stands in the text at its place, has a blank or the text's end behind it,
-- and is a number just where its bytes are one
pub record Stands (text : List ℕ) (a : At) : Type 0 where
  pub some : 0 < length (bytes_of a.word)
  pub solid : All (λ b. inner b ≡ true) (bytes_of a.word)
  pub there : take (length (bytes_of a.word)) (drop a.place text) ≡ bytes_of a.word
  pub whole : inner (slice_index_or text (end_of a) 32) ≡ false
  pub told : a.word ≡ shape (bytes_of a.word)

-- where the line begins in which the byte i stands: at byte 0, or behind the line feed nearest ahead of it
abbrev pub line_start : List ℕ → ℕ → ℕ
line_start text zero = 0
line_start text (suc i) = cond (slice_index text i == 10) (suc i) (line_start text i)

-- whether the byte i stands in a comment: its line begins with `c`
abbrev pub commented : List ℕ → ℕ → Bool
commented text i = slice_index text (line_start text i) == 99

-- whether the byte i is part of one of the words
abbrev pub covered : List At → ℕ → Bool
covered [] i = false
covered (a ∷ more) i = (nat_le a.place i && nat_lt i (end_of a)) || covered more i

-- each word ends ahead of those that follow
abbrev pub Ordered : List At → Type 0
Ordered [] = Unit {0}
Ordered (a ∷ more) = All (λ b. end_of a ≤ b.place) more × Ordered more

-- the words of a text: each stands there, they come in order, and their bytes are just those that are neither blank
-- nor in a comment
pub record Parts (text : List ℕ) (words : List At) : Type 0 where
  pub stand : All (Stands text) words
  pub order : Ordered words
  pub cover : (i : ℕ) → i < length text → covered words i ≡ (inner (slice_index text i) && not (commented text i))
