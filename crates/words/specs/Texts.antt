-- All the words of a text.
use Rattle.std.specs.Prelude.{ℕ, zero, suc, cond, List, [], ◌∷◌, take}
use Rattle.std.specs.List.{prefix_len}
use Rattle.words.specs.declared.lexis.Mode.{Mode}
use Rattle.words.specs.declared.lexis.Mode.TheVariants.{Fresh, Within}
use Rattle.words.specs.Lexis.{inner, passes, after, Shape, end, shape}

-- a word, or the end, and the byte place where it stands
pub record At : Type 0 where
  pub word : Shape
  pub place : ℕ

-- the longest front that has no blank
abbrev pub front : List ℕ → List ℕ
front bs = take (prefix_len inner bs) bs

-- the words from the place p on, where the first k bytes are the rest of a word that was given: a byte that is not
-- passed over begins a word, which goes on up to the next blank
unfoldable pub words_past : (k : ℕ) → Mode → (p : ℕ) → List ℕ → List At
words_past k m p [] = []
words_past (suc k) m p (b ∷ bs) = words_past k Within (suc p) bs
words_past zero m p (b ∷ bs) =
    cond (passes m b) (words_past 0 (after m b) (suc p) bs)
    (record { word = shape (b ∷ front bs); place = p } ∷ words_past (prefix_len inner bs) Within (suc p) bs)

-- the words from the place p on
unfoldable pub words_from : Mode → (p : ℕ) → List ℕ → List At
words_from m p bs = words_past 0 m p bs

-- the words of a text
abbrev pub words_of : List ℕ → List At
words_of text = words_from Fresh 0 text

-- the first word, or the end of a text of n bytes
abbrev pub next_of : (n : ℕ) → List At → At
next_of n [] = record { word = end; place = n }
next_of n (a ∷ more) = a

-- the words behind the first
abbrev pub rest_of : List At → List At
rest_of [] = []
rest_of (a ∷ more) = more
