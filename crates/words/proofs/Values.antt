-- On the number that digits write. Assumes nothing.
use Rattle.std.proofs.Common.{◌≡◌, ℕ, ◌+◌, ◌-◌, ◌*◌, ◌≤◌, min, true, List, [], ◌∷◌, refl, ap, ◌∙◌, arith, rules}
use Rattle.std.specs.List.{fold}
use Rattle.std.specs.Str.{all_ascii_digits}
use Rattle.std.proofs.lemmas.Str.Parse.{IsNumeralModel, numerals_by_fold, tells_all_ascii_digits}
use Rattle.words.specs.Numbers.{read_on, value}

-- the shelf's laws of decimal numerals, at the words of this crate
pub own : IsNumeralModel (λ ds. all_ascii_digits ds ≡ true) value
own = numerals_by_fold _ tells_all_ascii_digits (fold read_on) (search rules)

-- a number that reads on grows
pub grows : (n : ℕ) (ds : List ℕ) → n ≤ fold read_on n ds
grows n [] = omega arith
grows n (c ∷ cs) = omega (arith, grows (n * 10 + (c - 48)) cs)

-- one digit more, each step held down to top
abbrev pub held_on : ℕ → ℕ → ℕ → ℕ
held_on top n c = min (min (n * 10) top + (c - 48)) top

-- a number held down to top reads on as the number does, held down
pub held : (top n : ℕ) (ds : List ℕ) → fold (held_on top) (min n top) ds ≡ min (fold read_on n ds) top
held top n [] = refl
held top n (c ∷ cs) = let same : held_on top (min n top) c ≡ min (read_on n c) top = omega arith in ap (λ k. fold (held_on top) k cs) same ∙ held top (read_on n c) cs
