-- The jobs worked out, each by answers that take the lowest falsified clause, else the lowest forcing one.
use Rattle.std.proofs.Common.{◌≡◌, ℕ, Bool, true, ◌&&◌, List, [], ◌∷◌, refl, ap, ◌∙◌, inl, inr, arith}
use Rattle.std.proofs.lemmas.Bool.{and_parts, eqb-true, or_cases}
use Rattle.std.specs.List.{list_all}
use Rattle.cnf.specs.declared.literals.Literal.{Literal}
use Rattle.cnf.proofs.Passing.{each_passes}
use Rattle.cnf.specs.declared.literals.Forced.{Forced}
use Rattle.drup.specs.History.{Live, Step, table, text}
use Rattle.drup.specs.Forward.{Machine, without_last}
use Rattle.drup.specs.Marks.{Marks, has, lone, marked}
use Rattle.drup.specs.Backward.{Report, Row, accepted}
use Rattle.drup.specs.Box.{Checks}
use Rattle.drup.specs.Jobs.{WorkedJobs, counts, job_a, job_b, job_c, job_d, job_e, keeping, machine_of, neg, pos, row}
use Rattle.drup.proofs.Numbers.{at_most, has_true, same_marks}
use Rattle.drup.proofs.Deciding.{Idle, idle_by_true, live_conflict, live_nothing}

-- clause n forces l
abbrev pub by : Literal → (n : ℕ) → Forced
by l n = record { literal = l; number = n }

-- the marks after a check that recorded these rows
abbrev row_marks : ℕ → List Row → Marks
row_marks empty [] = lone empty
row_marks empty (r ∷ rows) = marked r.antecedents (row_marks empty rows)

-- all these numbers are marked
abbrev all_marked : List ℕ → Marks → Bool
all_marked ks kept = list_all kept ks

all_marked_lem : (ks : List ℕ) (kept : Marks) → all_marked ks kept ≡ true → (n : ℕ) → has ks n ≡ true → kept n ≡ true
all_marked_lem ks kept e n h = each_passes kept (has_true ks n h) e

-- the list has the empty lemma and all numbers of the rows
abbrev has_rows : List ℕ → ℕ → List Row → Bool
has_rows ks empty [] = has ks empty
has_rows ks empty (r ∷ rows) = all_marked r.antecedents (has ks) && has_rows ks empty rows

has_rows_lem :
    (ks : List ℕ) (empty : ℕ) (rows : List Row) → has_rows ks empty rows ≡ true
    → (n : ℕ) → row_marks empty rows n ≡ true → has ks n ≡ true
has_rows_lem ks empty [] e n k = ap (has ks) (eqb-true n empty k) ∙ e
has_rows_lem ks empty (r ∷ rows) e n k =
    let b = and_parts (all_marked r.antecedents (has ks)) (has_rows ks empty rows) e in
    elim (or_cases (has r.antecedents n) (row_marks empty rows n) k) [
      | inl h ↦ all_marked_lem r.antecedents (has ks) b.0 n h
      | inr h ↦ has_rows_lem ks empty rows b.1 n h
    ]

-- such a list names the kept numbers
kept_are :
    (ks : List ℕ) (empty : ℕ) (rows : List Row) → all_marked ks (row_marks empty rows) ≡ true → has_rows ks empty rows ≡ true
    → has ks ≡ row_marks empty rows
kept_are ks empty rows e f =
    same_marks (has ks) (row_marks empty rows) (all_marked_lem ks (row_marks empty rows) e) (has_rows_lem ks empty rows f)

-- an outcome whose marks are those of its rows
kept_outcome :
    (ks : List ℕ) (empty : ℕ) (rows : List Row) (r : Report) → all_marked ks (row_marks empty rows) ≡ true → has_rows ks empty rows ≡ true
    → keeping ks rows r ≡ accepted (record { kept = row_marks empty rows; rows = rows }) r
kept_outcome ks empty rows r e f = λ i. accepted (record { kept = kept_are ks empty rows e f i; rows = rows }) r

-- the empty lemma: 6 forces 2, 3 forces 1, and 4 is false; the lemma 2: 1, live there, forces 1, and 2 is false
job_a_lem : Checks (machine_of job_a) job_a.outcome
job_a_lem =
    let m : Machine = machine_of job_a in
    let before : List Step = without_last m.steps in
    let first : List Forced = by (pos 1) 3 ∷ by (pos 2) 6 ∷ [] in
    let second : List Forced = by (pos 1) 1 ∷ [] in
    let end =
    kept_outcome (1 ∷ 2 ∷ 3 ∷ 4 ∷ 6 ∷ 8 ∷ []) 8 (row 6 (1 ∷ 2 ∷ []) ∷ row 8 (6 ∷ 3 ∷ 4 ∷ []) ∷ []) (counts 4 2 5 5) refl refl in
    let at_lemma = inr (inl (refl, second, 2, live_conflict m.inputs [] (neg 2 ∷ []) second 2 refl, end)) in
    inr (inl (refl, first, 4, live_conflict m.inputs before [] first 4 refl, inl (refl, at_lemma)))

-- nothing is live
pub job_b_lem : Checks (machine_of job_b) job_b.outcome
job_b_lem =
    inr (inr (refl, [], live_nothing [] [] [] [] refl none, refl))
  where
    none : (n : ℕ) → Live [] [] n → Idle [] (text [] n)
    none n live = absurd (let h = live.entered in let k = live.numbered in omega arith)

-- the empty clause is false
job_c_lem : Checks (machine_of job_c) job_c.outcome
job_c_lem =
    let end = kept_outcome (1 ∷ 2 ∷ []) 2 (row 2 (1 ∷ []) ∷ []) (counts 1 1 1 1) refl refl in
    inr (inl (refl, [], 1, live_conflict ([] ∷ []) [] [] [] 1 refl, end))

-- the empty lemma: 3 forces 3, 5 forces -2, and 6 is false; the lemma 2: 1, live there, forces 1, and 2 is false
job_d_lem : Checks (machine_of job_d) job_d.outcome
job_d_lem =
    let m : Machine = machine_of job_d in
    let before : List Step = without_last m.steps in
    let first : List Forced = by (neg 2) 5 ∷ by (pos 3) 3 ∷ [] in
    let second : List Forced = by (pos 1) 1 ∷ [] in
    let end =
    kept_outcome (1 ∷ 2 ∷ 3 ∷ 5 ∷ 6 ∷ 7 ∷ []) 7 (row 6 (1 ∷ 2 ∷ []) ∷ row 7 (3 ∷ 5 ∷ 6 ∷ []) ∷ []) (counts 4 2 5 5) refl refl in
    let at_lemma = inr (inl (refl, second, 2, live_conflict m.inputs [] (neg 2 ∷ []) second 2 refl, end)) in
    inr (inl (refl, first, 6, live_conflict m.inputs before [] first 6 refl, at_lemma))

-- the lemma forces 1, and then both clauses are true
job_e_lem : Checks (machine_of job_e) job_e.outcome
job_e_lem =
    let m : Machine = machine_of job_e in
    let before : List Step = without_last m.steps in
    let answers : List Forced = by (pos 1) 2 ∷ [] in
    inr (inr (refl, answers, live_nothing m.inputs before [] answers refl all_idle, refl))
  where
    all_idle :
        (n : ℕ) → Live (machine_of job_e).inputs (without_last (machine_of job_e).steps) n
        → Idle (pos 1 ∷ []) (text (table (machine_of job_e).inputs (without_last (machine_of job_e).steps)) n)
    all_idle n live =
        elim (at_most n 1 live.entered) [
          | inl e ↦ rw e (idle_by_true (pos 1 ∷ []) (pos 1 ∷ []) (pos 1) refl refl)
          | inr h ↦
              let e : n ≡ 1 = omega (arith, live.numbered) in
              rw e (idle_by_true (pos 1 ∷ []) (pos 1 ∷ pos 2 ∷ []) (pos 1) refl refl)
        ]

pub worked_jobs_lem : WorkedJobs
worked_jobs_lem = (
  (job_a_lem, (job_b_lem, (job_c_lem, (job_d_lem, (job_e_lem, tt))))),
  record { not_twice = refl; again = refl },
  record { eleven = refl; twelve = refl; open_and_eleven = refl; open_and_twelve = refl; not_ended = refl },
  refl,
)
