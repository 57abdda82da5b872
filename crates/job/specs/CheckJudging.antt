-- What the trial of a kept lemma leaves.
use Rattle.std.specs.Prelude.{◌≡◌, ℕ, suc, ◌+◌, ◌<◌, ◌≤◌, List, [], ◌∷◌, map, length, Some, None, Option}
use Rattle.cnf.specs.declared.literals.Forced.{Forced}
use Rattle.cnf.specs.Literals.{complement}
use Rattle.drup.specs.Backward.{ConflictOver, NothingOver, gathered, asked}
use Rattle.engine.specs.Meaning.{Meaning, On, text_of, counted_by}
use Rattle.job.specs.View.{View, text_in, texts}
use Rattle.job.specs.CheckLists.{row_start, recorded}

-- there is a place for the row of lemma n
abbrev pub Room : View → (n : ℕ) → Type 0
Room s n = (s.inputs < n) × (n ≤ s.clauses) × (row_start s n + suc s.variables ≤ length s.arcs)

-- the lemma passed: its row is recorded
pub record Passed (s : View) (m : Meaning) (n : ℕ) (arcs : ℕ) (s' : View) (m' : Meaning) : Type 0 where
  pub answers : List Forced
  pub at : ℕ
  pub conflict : ConflictOver (On m) (text_of m) (map complement (text_in (texts s) n)) answers at
  pub lists : s' ≡ recorded s n (gathered (text_of m) answers (at ∷ []))
  pub engine : m' ≡ counted_by (asked answers) m
  pub counts : arcs ≡ length (gathered (text_of m) answers (at ∷ []))

-- it did not pass
pub record Failed (s : View) (m : Meaning) (n : ℕ) (s' : View) (m' : Meaning) : Type 0 where
  pub answers : List Forced
  pub nothing : NothingOver (On m) (text_of m) (map complement (text_in (texts s) n)) answers
  pub lists : s' ≡ s
  pub engine : m' ≡ counted_by (asked answers) m

-- what a trial gives: the length of the row, if the lemma passed
abbrev pub Judged : View → Meaning → (n : ℕ) → (arcs : Option ℕ) → View → Meaning → Type 0
Judged s m n (Some arcs) s' m' = Passed s m n arcs s' m'
Judged s m n None s' m' = Failed s m n s' m'
