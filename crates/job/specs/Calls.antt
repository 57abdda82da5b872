-- What the calls of a job answer, and what they leave.
use Rattle.std.specs.Prelude.{◌≡◌, ℕ, zero, suc, ◌+◌, ◌-◌, ◌<◌, ◌≤◌, Bool, false, cond, ◌||◌, List, length, Some, None, Ok, Err, Option, Result, MatchOption, ◌==◌, nat_le, nat_lt, slice_index_or, slice_set}
use Rattle.std.proofs.Math.Seq.{paste}
use Rattle.cnf.specs.declared.literals.Literal.{Literal}
use Rattle.cnf.specs.Clauses.{Clause}
use Rattle.cnf.specs.Arranging.{Arrangement, arrangement}
use Rattle.drup.specs.History.{live_copy, ended}
use Rattle.job.specs.declared.faults.JobFault.{JobFault}
use Rattle.job.specs.declared.faults.JobFault.TheVariants.{Clause as Faulty, Begun, Ended, Full, NoneLive, NoStep}
use Rattle.job.specs.declared.rows.ClauseRow.{ClauseRow}
use Rattle.job.specs.declared.rows.StepRow.{StepRow}
use Rattle.job.specs.declared.rows.StepRow.TheVariants.{Lemma, Strike}
use Rattle.job.specs.Faults.{number_of, place_of}
use Rattle.job.specs.View.{View, blank_row, blank_step, text_in, texts, with_rows, with_lits}
use Rattle.job.specs.History.{down_from, steps_of}

-- the number of a refusal, 0 where there is none
abbrev pub refusal : {A : Type 0} → Result A JobFault → ℕ
refusal (Ok x) = 0
refusal (Err fault) = number_of fault

-- its place, 0 where there is none
abbrev pub refusal_place : {A : Type 0} → Result A JobFault → ℕ
refusal_place (Ok x) = 0
refusal_place (Err fault) = place_of fault

-- an answer with what it gives left out
abbrev pub done_of : {A : Type 0} → Result A JobFault → Result (Unit {0}) JobFault
done_of (Ok x) = Ok tt
done_of (Err fault) = Err fault

-- a fault of the literals comes first; then what is said of their clause
abbrev pub with_clause : {A : Type 0} → Arrangement → (Clause → Result A JobFault) → Result A JobFault
with_clause (Ok c) next = next c
with_clause (Err fault) next = Err (Faulty fault)

-- no clause place is left, or fewer literal places than these
abbrev pub is_full : View → (count : ℕ) → Bool
is_full s count = nat_le s.places s.clauses || nat_lt (s.room - s.used) count

-- there are places for a clause of so many literals
abbrev pub HasRoom : View → (count : ℕ) → Type 0
HasRoom s count = (s.clauses < s.places) × (s.used + count ≤ s.room)

-- what `clause` answers: the number of the new clause
abbrev pub clause_answer : View → List Literal → Result ℕ JobFault
clause_answer s ls =
    with_clause (arrangement s.variables ls)
    (λ c. cond (nat_lt 0 s.taken) (Err Begun) (cond (is_full s (length c)) (Err Full) (Ok (s.clauses + 1))))

-- what `lemma` answers: the number of the new clause
abbrev pub lemma_answer : View → List Literal → Result ℕ JobFault
lemma_answer s ls =
    with_clause (arrangement s.variables ls)
    (λ c. cond (ended (steps_of s)) (Err Ended) (cond (is_full s (length c)) (Err Full) (Ok (s.clauses + 1))))

-- the highest number of a live copy of a clause, 0 if there is none
abbrev pub copy_in : View → Clause → ℕ
copy_in s c = live_copy c (down_from (text_in (texts s)) s.clauses) (steps_of s)

-- that number, if there is one
abbrev pub FoundCopy : View → Clause → Option ℕ → Type 0
FoundCopy s c found = MatchOption found (copy_in s c ≡ 0) (λ n. (n ≡ copy_in s c) × (1 ≤ n))

-- a number that was found, or the refusal
abbrev pub found_or : JobFault → ℕ → Result ℕ JobFault
found_or fault zero = Err fault
found_or fault (suc n) = Ok (suc n)

-- what `strike` answers: the number of the clause that is struck
abbrev pub strike_answer : View → List Literal → Result ℕ JobFault
strike_answer s ls =
    with_clause (arrangement s.variables ls) (λ c. cond (ended (steps_of s)) (Err Ended) (found_or NoneLive (copy_in s c)))

-- the latest step
abbrev pub last_step : View → StepRow
last_step s = slice_index_or s.steps (s.taken - 1) blank_step

-- that step, if there is one
abbrev pub FoundLast : View → Option StepRow → Type 0
FoundLast s found = MatchOption found (s.taken ≡ 0) (λ step. (0 < s.taken) × (step ≡ last_step s))

-- what `withdraw` answers: the step that is taken back
abbrev pub withdraw_answer : View → Result StepRow JobFault
withdraw_answer s = cond (s.taken == 0) (Err NoStep) (Ok (last_step s))

-- the row of a clause that is entered at a step, 0 for an input clause: live, and without a mark
abbrev pub new_row : View → Clause → (entered : ℕ) → ClauseRow
new_row s c entered = record { start = s.used; len = length c; entered = entered; struck = None; kept = false }

-- a row whose clause is struck at a step, or lives again
abbrev pub struck_at : ClauseRow → (step : Option ℕ) → ClauseRow
struck_at row step = record row { struck = step }

-- the first literals of a clause are written behind those in use
abbrev pub laying : View → Clause → (count : ℕ) → View
laying s c count = with_lits (paste s.lits s.used c count) s

-- a clause and its row are written behind those in use, where they do not count yet
abbrev pub storing : View → Clause → (entered : ℕ) → View
storing s c entered = with_rows (slice_set s.rows s.clauses (new_row s c entered)) (laying s c (length c))

-- what was stored counts: as an input clause with so many literals
abbrev pub counting_input : View → (count : ℕ) → View
counting_input s count = record s { inputs = s.inputs + 1; clauses = s.clauses + 1; used = s.used + count; judged = false }

-- or as a lemma, with its step
abbrev pub counting_lemma : View → (count : ℕ) → View
counting_lemma s count = record s {
  steps = slice_set s.steps s.taken (Lemma (s.clauses + 1));
  clauses = s.clauses + 1;
  taken = s.taken + 1;
  used = s.used + count;
  judged = false;
}

-- an input clause is entered
abbrev pub with_input : (accepted : Bool) → View → Clause → View
with_input accepted s c =
    cond accepted
    (record s {
      rows = slice_set s.rows s.clauses (new_row s c 0);
      lits = paste s.lits s.used c (length c);
      inputs = s.inputs + 1;
      clauses = s.clauses + 1;
      used = s.used + length c;
      judged = false;
    })
    s

-- a lemma is entered
abbrev pub with_lemma : (accepted : Bool) → View → Clause → View
with_lemma accepted s c =
    cond accepted
    (record s {
      rows = slice_set s.rows s.clauses (new_row s c (s.taken + 1));
      steps = slice_set s.steps s.taken (Lemma (s.clauses + 1));
      lits = paste s.lits s.used c (length c);
      clauses = s.clauses + 1;
      taken = s.taken + 1;
      used = s.used + length c;
      judged = false;
    })
    s

-- clause n is struck
abbrev pub with_strike : (accepted : Bool) → View → (n : ℕ) → View
with_strike accepted s n =
    cond accepted
    (record s {
      rows = slice_set s.rows (n - 1) (struck_at (slice_index_or s.rows (n - 1) blank_row) (Some (s.taken + 1)));
      steps = slice_set s.steps s.taken (Strike n);
      taken = s.taken + 1;
      judged = false;
    })
    s

-- the rows once this step is taken back: a struck clause lives again
abbrev pub rows_without : View → StepRow → List ClauseRow
rows_without s (Lemma n) = s.rows
rows_without s (Strike n) = slice_set s.rows (n - 1) (struck_at (slice_index_or s.rows (n - 1) blank_row) None)

-- the clauses: a lemma is gone
abbrev pub clauses_without : View → StepRow → ℕ
clauses_without s (Lemma n) = n - 1
clauses_without s (Strike n) = s.clauses

-- the literals: those of a lemma are gone
abbrev pub used_without : View → StepRow → ℕ
used_without s (Lemma n) = (slice_index_or s.rows (n - 1) blank_row).start
used_without s (Strike n) = s.used

-- this latest step is taken back; its places can be used again
abbrev pub without : (accepted : Bool) → View → StepRow → View
without accepted s step =
    cond accepted
    (record s {
      rows = rows_without s step;
      clauses = clauses_without s step;
      taken = s.taken - 1;
      used = used_without s step;
      judged = false;
    })
    s
