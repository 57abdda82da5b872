-- Counting answers up to where the count stops.
use Rattle.std.proofs.Common.{◌≡◌, ℕ, suc, ◌+◌, ◌≤◌, min, ap, arith}
use Rattle.engine.specs.Meaning.{Meaning, most, counted, counted_by}

-- a count that is not beyond the most
pub up_none : (a : ℕ) → a ≤ most → a ≡ min (a + 0) most
up_none a h = omega arith

pub up_once : (a k : ℕ) → min (min (a + k) most + 1) most ≡ min (a + suc k) most
up_once a k = omega arith

pub up_twice : (a j k : ℕ) → min (min (a + j) most + k) most ≡ min (a + (j + k)) most
up_twice a j k = omega arith

-- where the limit is not reached, it can be left out
pub up_free : (a k : ℕ) → a + k ≤ most → min (a + k) most ≡ a + k
up_free a k h = omega arith

-- one answer more after so many
pub counted_after : (k : ℕ) (m : Meaning) → counted (counted_by k m) ≡ counted_by (suc k) m
counted_after k m = ap (λ (n : ℕ). record { texts = m.texts; on = m.on; trail = m.trail; opened = m.opened; answers = n; text_limit = m.text_limit; literal_limit = m.literal_limit }) (up_once m.answers k)

-- so many answers and so many more
pub counted_twice : (j k : ℕ) (m : Meaning) → counted_by k (counted_by j m) ≡ counted_by (j + k) m
counted_twice j k m = ap (λ (n : ℕ). record { texts = m.texts; on = m.on; trail = m.trail; opened = m.opened; answers = n; text_limit = m.text_limit; literal_limit = m.literal_limit }) (up_twice m.answers j k)
