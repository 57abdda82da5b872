-- An engine shows a history: it has its clauses by their numbers, and just the live ones are on.
use Rattle.std.specs.Prelude.{◌≡◌, ℕ, ◌≤◌, false, List, [], length}
use Rattle.cnf.specs.Clauses.{Clause}
use Rattle.drup.specs.History.{Step, table, text, Live}
use Rattle.engine.specs.Meaning.{Meaning, On, text_of}
use Rattle.job.specs.View.{View, texts, Entered}

pub record Shows (m : Meaning) (inputs : List Clause) (steps : List Step) : Type 0 where
  -- a mark for each text, and a text for each clause that was entered, later lemmas perhaps too
  pub level : length m.on ≡ length m.texts
  pub has_all : length (table inputs steps) ≤ length m.texts
  pub same_text : (n : ℕ) → 1 ≤ n → n ≤ length (table inputs steps) → text_of m n ≡ text (table inputs steps) n
  pub live_on : (n : ℕ) → Live inputs steps n → On m n
  pub on_live : (n : ℕ) → On m n → Live inputs steps n

-- no trial is open
abbrev pub Shut : Meaning → Type 0
Shut m = m.opened ≡ false

-- no trial is open, the texts are the job's clauses, and a number that is on has one
pub record Holds (m : Meaning) (s : View) : Type 0 where
  pub shut : Shut m
  pub same : m.texts ≡ texts s
  pub idle : m.trail ≡ []
  pub numbered : (n : ℕ) → On m n → Entered s.clauses n
