-- What a check leaves of a job.
use Rattle.std.proofs.Common.{◌≡◌, ℕ, zero, suc, ◌+◌, ◌-◌, ◌≤◌, List, [], ◌∷◌, ◌++◌, map, length, get_or, take, drop, set, replicate, sym, refl, ap, ◌∙◌, subst, arith}
use mathlib.Core.List.Memᴰ.{head as here}
use mathlib.Core.List.Memᴰ.{tail as there}
use lib.ListN.{length-map}
use lib.Seq.{paste}
use Rattle.std.proofs.lemmas.List.Edits.{length-paste}
use Rattle.std.proofs.lemmas.List.{length-replicate, take-map, drop-set-lt}
use Rattle.cnf.specs.declared.literals.Literal.{Literal}
use Rattle.cnf.specs.Clauses.{Clause, ◌∈◌}
use Rattle.engine.specs.Meaning.{Meaning}
use Rattle.job.specs.declared.rows.ClauseRow.{ClauseRow}
use Rattle.job.specs.View.{View, blank_row, clause_at, texts_of, text_in, texts, with_rows, with_arcs, bare}
use Rattle.job.specs.History.{down_from, steps_from, inputs_of, before, machine_of}
use Rattle.job.specs.CheckLists.{kept_row, mark_all, unmarked, row_start, recorded, Framed}
use Rattle.job.specs.CheckShowing.{Holds}
use Rattle.job.specs.CheckWalking.{Roomy}
use Rattle.job.specs.Checking.{begun, wiped}

texts_of_bare : (lits : List Literal) (rows : List ClauseRow) → texts_of (map bare rows) lits ≡ texts_of rows lits
texts_of_bare lits [] = refl
texts_of_bare lits (r ∷ rows) = ap (λ (t : List Clause). clause_at lits r ∷ t) (texts_of_bare lits rows)

-- marks change nothing else
marked_bare : (rows : List ClauseRow) (k : ℕ) → map bare (set rows k (kept_row (get_or rows k blank_row))) ≡ map bare rows
marked_bare [] k = refl
marked_bare (r ∷ rows) zero = refl
marked_bare (r ∷ rows) (suc k) = ap (λ (t : List ClauseRow). bare r ∷ t) (marked_bare rows k)

pub all_bare : (row : List ℕ) (rows : List ClauseRow) → map bare (mark_all row rows) ≡ map bare rows
all_bare [] rows = refl
all_bare (n ∷ row) rows = all_bare row (set rows (n - 1) (kept_row (get_or rows (n - 1) blank_row))) ∙ marked_bare rows (n - 1)

pub bare_unmarked : (c : ℕ) (rows : List ClauseRow) → map bare (unmarked c rows) ≡ map bare rows
bare_unmarked zero rows = refl
bare_unmarked (suc c) [] = refl
bare_unmarked (suc c) (r ∷ rows) = ap (λ (x : List ClauseRow). bare r ∷ x) (bare_unmarked c rows)

-- and nothing beyond the clauses
pub all_beyond : (c : ℕ) (row : List ℕ) (rows : List ClauseRow) → ((n : ℕ) → n ∈ row → (1 ≤ n) × (n ≤ c)) → drop c (mark_all row rows) ≡ drop c rows
all_beyond c [] rows h = refl
all_beyond c (n ∷ row) rows h =
    let z = h n (here refl) in
    all_beyond c row (set rows (n - 1) (kept_row (get_or rows (n - 1) blank_row))) (λ k m. h k (there m))
    ∙ drop-set-lt c rows (n - 1) (kept_row (get_or rows (n - 1) blank_row)) (omega (arith, z.0, z.1))

pub beyond_unmarked : (c : ℕ) (rows : List ClauseRow) → drop c (unmarked c rows) ≡ drop c rows
beyond_unmarked zero rows = refl
beyond_unmarked (suc c) [] = refl
beyond_unmarked (suc c) (r ∷ rows) = beyond_unmarked c rows

pub unmarked_length : (c : ℕ) (rows : List ClauseRow) → length (unmarked c rows) ≡ length rows
unmarked_length zero rows = refl
unmarked_length (suc c) [] = refl
unmarked_length (suc c) (r ∷ rows) = ap suc (unmarked_length c rows)

same_cut : (c : ℕ) (rows was : List ClauseRow) → map bare rows ≡ map bare was → map bare (take c rows) ≡ map bare (take c was)
same_cut c rows was e = sym (take-map bare c rows) ∙ ap (take c) e ∙ take-map bare c was

-- unmarking forgets marks
pub unmarked_same : (c : ℕ) (rows was : List ClauseRow) → map bare rows ≡ map bare was → drop c rows ≡ drop c was → unmarked c rows ≡ unmarked c was
unmarked_same c rows was e f = λ i. same_cut c rows was e i ++ f i

module _ (s s' : View) (f : Framed s s') where
  pub texts_framed : texts s' ≡ texts s
  texts_framed =
      ap texts f.but_for
      ∙ sym (texts_of_bare s.lits (take s.clauses s'.rows))
      ∙ ap (λ (t : List ClauseRow). texts_of t s.lits) (same_cut s.clauses s'.rows s.rows f.same_rows)
      ∙ texts_of_bare s.lits (take s.clauses s.rows)

  pub rows_framed : length s'.rows ≡ length s.rows
  rows_framed = sym (length-map s'.rows bare) ∙ ap length f.same_rows ∙ length-map s.rows bare

  pub clauses_framed : s'.clauses ≡ s.clauses
  clauses_framed = ap (λ (t : View). t.clauses) f.but_for

  pub taken_framed : s'.taken ≡ s.taken
  taken_framed = ap (λ (t : View). t.taken) f.but_for

  pub steps_framed : s'.steps ≡ s.steps
  steps_framed = ap (λ (t : View). t.steps) f.but_for

  pub inputs_framed : inputs_of s' ≡ inputs_of s
  inputs_framed = λ i. down_from (text_in (texts_framed i)) (f.but_for i).inputs

  pub before_framed : (k : ℕ) → before s' k ≡ before s k
  before_framed k = λ i. steps_from (text_in (texts_framed i)) (f.but_for i).steps k

  pub machine_framed : machine_of s' ≡ machine_of s
  machine_framed =
      let e = f.but_for in
      λ i. record {
        variables = (e i).variables;
        clause_places = (e i).places;
        literal_places = (e i).room;
        inputs = down_from (text_in (texts_framed i)) (e i).inputs;
        steps = steps_from (text_in (texts_framed i)) (e i).steps (e i).taken;
      }

  pub holds_framed : (m : Meaning) → Holds m s → Holds m s'
  holds_framed m h = record {
    shut = h.shut;
    same = h.same ∙ sym texts_framed;
    idle = h.idle;
    numbered = λ k on. let z = h.numbered k on in let c = clauses_framed in (z.0, omega (arith, z.1));
  }

  pub start_framed : (n : ℕ) → row_start s' n ≡ row_start s n
  start_framed n = ap (λ (t : View). row_start t n) f.but_for

  pub rooms_framed : Roomy s → Roomy s'
  rooms_framed r = subst Roomy (sym f.but_for) (λ n a b. let z = r n a b in let p = f.same_places in omega arith)

  pub framed_recorded : (n : ℕ) (row : List ℕ) → row_start s' n + length row ≤ length s'.arcs → ((k : ℕ) → k ∈ row → (1 ≤ k) × (k ≤ s.clauses))
      → Framed s (recorded s' n row)
  framed_recorded n row fits within = record {
    but_for = ap (λ (t : View). with_rows (mark_all row s'.rows) (with_arcs (paste s'.arcs (row_start s' n) row (length row)) t)) f.but_for;
    same_rows = all_bare row s'.rows ∙ f.same_rows;
    same_beyond = all_beyond s.clauses row s'.rows within ∙ f.same_beyond;
    same_places = length-paste s'.arcs (row_start s' n) row (length row) fits (omega arith) ∙ f.same_places;
  }

  -- wiping the lists after a check leaves what wiping them before it would
  pub wiped_framed : wiped s' ≡ wiped s
  wiped_framed =
      let rows : unmarked s'.clauses s'.rows ≡ unmarked s.clauses s.rows =
      ap (λ (c : ℕ). unmarked c s'.rows) clauses_framed ∙ unmarked_same s.clauses s'.rows s.rows f.same_rows f.same_beyond in
      λ i. with_rows (rows i) (with_arcs (replicate (f.same_places i) 0) (f.but_for i))

pub framed_self : (s : View) → Framed s s
framed_self s = record { but_for = refl; same_rows = refl; same_beyond = refl; same_places = refl }

pub framed_twice : (s s₁ s₂ : View) → Framed s s₁ → Framed s₁ s₂ → Framed s s₂
framed_twice s s₁ s₂ f g = record {
  but_for = g.but_for ∙ ap (λ (x : View). with_rows s₂.rows (with_arcs s₂.arcs x)) f.but_for;
  same_rows = g.same_rows ∙ f.same_rows;
  same_beyond = ap (λ (c : ℕ). drop c s₂.rows) (sym (clauses_framed s s₁ f)) ∙ g.same_beyond ∙ ap (λ (c : ℕ). drop c s₁.rows) (clauses_framed s s₁ f) ∙ f.same_beyond;
  same_places = g.same_places ∙ f.same_places;
}

pub framed_begun : (s : View) → 1 ≤ s.clauses → Framed s (begun s)
framed_begun s h = record {
  but_for = refl;
  same_rows = all_bare (s.clauses ∷ []) (unmarked s.clauses s.rows) ∙ bare_unmarked s.clauses s.rows;
  same_beyond =
      drop-set-lt s.clauses (unmarked s.clauses s.rows) (s.clauses - 1) (kept_row (get_or (unmarked s.clauses s.rows) (s.clauses - 1) blank_row)) (omega arith)
      ∙ beyond_unmarked s.clauses s.rows;
  same_places = length-replicate (length s.arcs) 0;
}

pub framed_wiped : (s : View) → Framed s (wiped s)
framed_wiped s = record {
  but_for = refl;
  same_rows = bare_unmarked s.clauses s.rows;
  same_beyond = beyond_unmarked s.clauses s.rows;
  same_places = length-replicate (length s.arcs) 0;
}
