-- A counted text: a line with the number of its bytes, and then the text.
use Rattle.std.specs.Prelude.{◌≡◌, ℕ, ◌≤◌, List, ◌∷◌, ◌++◌, length, decimal, ◌≢◌}

-- a line says no number up to 32,768
abbrev pub NoCount : (line : List ℕ) → Type 0
NoCount line = (n : ℕ) → n ≤ 32768 → line ≢ decimal n

-- the input is a line with the number of a text's bytes, ended by one line feed, then the text, and then a rest
pub record Counts (input text rest : List ℕ) : Type 0 where
  pub few : length text ≤ 32768
  pub parts : input ≡ decimal (length text) ++ (10 ∷ (text ++ rest))

-- the input does not begin with a counted text
abbrev pub Uncounted : (input : List ℕ) → Type 0
Uncounted input = (text rest : List ℕ) → Counts input text rest → ⊥
