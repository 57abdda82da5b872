-- Calls that an engine does not refuse, from what it stands for.
use Rattle.std.proofs.Common.{◌≡◌, ℕ, ◌≤◌, false, length, None}
use Rattle.engine.specs.Meaning.{Meaning, On, is_on, no_text, no_on, no_off, WellFormed}
use Rattle.engine.proofs.Consistent.{number_in}
use Rattle.engine.proofs.Keeping.{on_within}
use Rattle.engine.proofs.Refusing.{on_done, off_done}

module _ (m : Meaning) (n : ℕ) where
  -- a number from 1 on that is not beyond the texts
  pub has_text : 1 ≤ n → n ≤ length m.texts → no_text m n ≡ false
  has_text low high = number_in (length m.texts) n low high

  -- such a text can be turned on, if it is off
  pub off_allowed : 1 ≤ n → n ≤ length m.texts → m.opened ≡ false → is_on m n ≡ false → no_on m n ≡ None
  off_allowed low high o off = on_done m n o (has_text low high) off

-- a text that is on can be turned off, and preferred
pub on_allowed : (m : Meaning) → WellFormed m → (n : ℕ) → m.opened ≡ false → On m n → no_off m n ≡ None
on_allowed m well n o on = let h = on_within m well n on in off_done m n o (has_text m n h.0 h.1) on
