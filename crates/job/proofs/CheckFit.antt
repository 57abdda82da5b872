-- What a check needs of a sound job.
use Rattle.std.proofs.Common.{◌≡◌, ℕ, zero, suc, ◌<◌, ◌≤◌, true, not, List, length, get_or, refl, arith, is_none}
use Rattle.cnf.specs.Clauses.{Clause, IsClause, literals}
use Rattle.drup.specs.History.{Step, table, text, next_number, is_struck}
use Rattle.drup.specs.Laws.{StrikesLive}
use Rattle.drup.specs.WellFormed.{WellFormed}
use Rattle.job.specs.declared.rows.StepRow.{StepRow}
use Rattle.job.specs.declared.rows.StepRow.TheVariants.{Lemma, Strike}
use Rattle.job.specs.View.{View, blank_row, blank_step, text_in, texts}
use Rattle.job.specs.History.{down_from, inputs_of, before, steps_of, machine_of}
use Rattle.job.specs.Sound.{Sound, is_next}
use Rattle.job.proofs.Histories.{next_lemma}
use Rattle.job.proofs.Standing.{all_down_from, text_of, all_strikes, row_live, is_clause, all_literals, well_formed}
use Rattle.job.proofs.Texts.{length_texts}

-- a lemma at step k has the number that was next
abbrev pub NamedIn : (inputs : List Clause) → (earlier : List Step) → StepRow → Type 0
NamedIn inputs earlier (Lemma n) = n ≡ next_number inputs earlier
NamedIn inputs earlier (Strike n) = Unit {0}

pub record Fit (s : View) : Type 0 where
  pub range : s.variables ≤ 512
  pub rooms : (s.clauses ≤ length s.rows) × (s.taken ≤ length s.steps) × (s.clauses ≤ 4096) × (s.taken ≤ 8192)
  pub all_in : s.clauses ≡ length (table (inputs_of s) (steps_of s))
  pub all_down : table (inputs_of s) (steps_of s) ≡ down_from (text_in (texts s)) s.clauses
  pub same_text : (n : ℕ) → 1 ≤ n → n ≤ s.clauses → text (table (inputs_of s) (steps_of s)) n ≡ text_in (texts s) n
  pub stored : literals (table (inputs_of s) (steps_of s)) ≡ s.used
  pub all_texts : length (texts s) ≡ s.clauses
  pub clause : (k : ℕ) → 1 ≤ k → k ≤ s.clauses → IsClause s.variables (text_in (texts s) k)
  pub few_inputs : s.inputs ≤ s.clauses
  pub named : (k : ℕ) → k < s.taken → NamedIn (inputs_of s) (before s k) (get_or s.steps k blank_step)
  pub alive : (k : ℕ) → k < s.clauses → is_none (get_or s.rows k blank_row).struck ≡ not (is_struck (suc k) (steps_of s))
  pub strikes : StrikesLive (inputs_of s) (steps_of s)
  pub formed : WellFormed (machine_of s)

pub fit : (s : View) → Sound s → Fit s
fit s o = record {
  range = o.range.0;
  rooms = (
    (let a = o.rooms.0 in let b = o.counts.1 in omega arith),
    (let a = o.rooms.1 in let b = o.counts.2 in omega arith),
    (let a = o.range.1 in let b = o.counts.1 in omega arith),
    (let a = o.range.1 in let b = o.counts.2 in omega arith),
  );
  all_in = o.complete;
  all_down = all_down_from s o;
  same_text = text_of s o;
  stored = all_literals s o;
  all_texts = length_texts s.rows s.lits s.clauses (let a = o.rooms.0 in let b = o.counts.1 in omega arith);
  clause = its_clause;
  few_inputs = o.counts.0;
  named = λ k h. its_name k (get_or s.steps k blank_step) refl (o.numbered k h);
  alive = row_live s o;
  strikes = all_strikes s o;
  formed = well_formed s o;
}
  where
    its_clause : (k : ℕ) → 1 ≤ k → k ≤ s.clauses → IsClause s.variables (text_in (texts s) k)
    its_clause zero low high = absurd (omega arith)
    its_clause (suc k) low high = is_clause s o k (omega arith)

    its_name : (k : ℕ) (row : StepRow) → row ≡ row → is_next (inputs_of s) (before s k) row ≡ true → NamedIn (inputs_of s) (before s k) row
    its_name k (Lemma n) e h = next_lemma (inputs_of s) (before s k) (Lemma n) n h refl
    its_name k (Strike n) e h = tt
