-- What a check does to an engine before and after the way back.
use Rattle.std.specs.Prelude.{◌≡◌, ℕ, ◌<◌, ◌≤◌, false, List, [], length, replicate, is_none, slice_index_or}
use Rattle.cnf.specs.Clauses.{Clause}
use Rattle.engine.specs.Meaning.{Meaning, with_on}
use Rattle.job.specs.View.{View, blank_row}

-- the engine with these texts, none of them on
abbrev pub filled : List Clause → Meaning → Meaning
filled ts m = record { texts = ts; on = replicate (length ts) false; trail = []; opened = false; answers = 0; text_limit = m.text_limit; literal_limit = m.literal_limit }

-- the engine can take the job's clauses
abbrev pub Large : View → Meaning → Type 0
Large s m = (s.clauses ≤ m.text_limit) × (s.used ≤ m.literal_limit)

-- of the first k clauses just those that are not struck are on
pub record Lit (s : View) (m₀ : Meaning) (k : ℕ) (m : Meaning) : Type 0 where
  pub but_for : m ≡ with_on m.on m₀
  pub level : length m.on ≡ s.clauses
  pub below : (j : ℕ) → j < k → slice_index_or m.on j false ≡ is_none (slice_index_or s.rows j blank_row).struck
  pub above : (j : ℕ) → k ≤ j → slice_index_or m.on j false ≡ false

-- the first k marks are off
pub record Dark (clauses : ℕ) (m₀ : Meaning) (k : ℕ) (m : Meaning) : Type 0 where
  pub but_for : m ≡ with_on m.on m₀
  pub level : length m.on ≡ clauses
  pub below : (j : ℕ) → j < k → slice_index_or m.on j false ≡ false
