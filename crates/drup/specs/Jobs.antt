-- Jobs worked out, as one collection: what they are told, and what their check comes to by some right answers. The proofs
-- take the lowest falsified clause, else the lowest forcing one.
use Rattle.std.specs.Prelude.{◌≡◌, ℕ, Bool, true, false, List, [], ◌∷◌}
use Rattle.cnf.specs.declared.literals.Literal.{Literal}
use Rattle.drup.specs.Marks.{has}
use Rattle.drup.specs.Forward.{Machine, opened, Call, clause, lemma, strike, withdraw, refused, told, fed}
use Rattle.drup.specs.Backward.{Row, Report, Outcome, accepted, fails}
use Rattle.drup.specs.Box.{Lent, check_refused, Checks}
use Rattle.drup.specs.Reading.{verdict_at}

-- the two literals of a variable
abbrev pub pos : ℕ → Literal
pos x = record { variable = x; negated = false }

abbrev pub neg : ℕ → Literal
neg x = record { variable = x; negated = true }

-- the row of a lemma
abbrev pub row : (lemma_number : ℕ) → (antecedents : List ℕ) → Row
row lemma_number antecedents = record { lemma_number = lemma_number; antecedents = antecedents }

-- kept inputs, kept lemmas, arcs, answers
abbrev pub counts : (inputs lemmas arcs answers : ℕ) → Report
counts inputs lemmas arcs answers =
    record { input_count = inputs; lemma_count = lemmas; arc_count = arcs; answer_count = answers }

-- the kept numbers, the rows and the counts of an accepted job
abbrev pub keeping : (kept : List ℕ) → List Row → Report → Outcome
keeping kept rows r = accepted (record { kept = has kept; rows = rows }) r

-- a job: the highest variable, its calls, newest first, and what its check comes to
pub record Job : Type 0 where
  pub variables : ℕ
  pub calls : List Call
  pub outcome : Outcome

-- with places enough
abbrev pub machine_of : Job → Machine
machine_of job = fed (opened job.variables 500 16384) job.calls

-- all clauses over two variables, and one more; a clause is struck behind the lemma that needs it
abbrev pub job_a : Job
job_a = record {
  variables = 3;
  calls =
      lemma []
      ∷ lemma (pos 2 ∷ pos 3 ∷ [])
      ∷ strike (pos 1 ∷ pos 2 ∷ [])
      ∷ lemma (pos 2 ∷ [])
      ∷ clause (pos 1 ∷ pos 3 ∷ [])
      ∷ clause (neg 1 ∷ neg 2 ∷ [])
      ∷ clause (pos 1 ∷ neg 2 ∷ [])
      ∷ clause (neg 1 ∷ pos 2 ∷ [])
      ∷ clause (pos 1 ∷ pos 2 ∷ [])
      ∷ [];
  outcome = keeping (1 ∷ 2 ∷ 3 ∷ 4 ∷ 6 ∷ 8 ∷ []) (row 6 (1 ∷ 2 ∷ []) ∷ row 8 (6 ∷ 3 ∷ 4 ∷ []) ∷ []) (counts 4 2 5 5);
}

-- no clause and the empty lemma
abbrev pub job_b : Job
job_b = record { variables = 0; calls = lemma [] ∷ []; outcome = fails 1 1 }

-- an empty input clause and the empty lemma
abbrev pub job_c : Job
job_c = record {
  variables = 0;
  calls = lemma [] ∷ clause [] ∷ [];
  outcome = keeping (1 ∷ 2 ∷ []) (row 2 (1 ∷ []) ∷ []) (counts 1 1 1 1);
}

-- two clauses are struck; one comes back for the lemma before it
abbrev pub job_d : Job
job_d = record {
  variables = 3;
  calls =
      lemma []
      ∷ strike (pos 2 ∷ neg 3 ∷ [])
      ∷ strike (pos 1 ∷ [])
      ∷ lemma (pos 2 ∷ [])
      ∷ clause (neg 2 ∷ neg 3 ∷ [])
      ∷ clause (pos 2 ∷ neg 3 ∷ [])
      ∷ clause (pos 3 ∷ [])
      ∷ clause (neg 1 ∷ pos 2 ∷ [])
      ∷ clause (pos 1 ∷ [])
      ∷ [];
  outcome = keeping (1 ∷ 2 ∷ 3 ∷ 5 ∷ 6 ∷ 7 ∷ []) (row 6 (1 ∷ 2 ∷ []) ∷ row 7 (3 ∷ 5 ∷ 6 ∷ []) ∷ []) (counts 4 2 5 5);
}

-- one clause, and a lemma that does not help: the empty lemma does not pass
abbrev pub job_e : Job
job_e = record {
  variables = 2;
  calls = lemma [] ∷ lemma (pos 1 ∷ []) ∷ clause (pos 1 ∷ pos 2 ∷ []) ∷ [];
  outcome = fails 2 2;
}

abbrev pub worked : List Job
worked = job_a ∷ job_b ∷ job_c ∷ job_d ∷ job_e ∷ []

-- the check of each job comes to its outcome
abbrev pub AllComeOut : List Job → Type 0
AllComeOut [] = Unit {0}
AllComeOut (job ∷ jobs) = Checks (machine_of job) job.outcome × AllComeOut jobs

-- a lone clause is not struck twice, but struck again once the strike is withdrawn
pub record StruckAgain : Type 0 where
  pub not_twice : refused (fed (opened 1 1 1) (strike (pos 1 ∷ []) ∷ clause (pos 1 ∷ []) ∷ [])) (strike (pos 1 ∷ [])) ≡ 11
  pub again :
      refused (fed (opened 1 1 1) (withdraw ∷ strike (pos 1 ∷ []) ∷ clause (pos 1 ∷ []) ∷ [])) (strike (pos 1 ∷ [])) ≡ 0

-- an engine with places enough, and so many arc places
abbrev pub lending : (trial_open : Bool) → (arc_places : ℕ) → Lent
lending trial_open arc_places =
    record { clause_limit = 500; literal_limit = 16384; trial_open = trial_open; arc_places = arc_places }

-- job A has three lemmas over three variables, so its check needs twelve arc places; 13 comes before 6, and 6 before 19
pub record TwelveArcPlaces : Type 0 where
  pub eleven : check_refused (machine_of job_a) (lending false 11) ≡ 6
  pub twelve : check_refused (machine_of job_a) (lending false 12) ≡ 0
  pub open_and_eleven : check_refused (machine_of job_a) (lending true 11) ≡ 6
  pub open_and_twelve : check_refused (machine_of job_a) (lending true 12) ≡ 19
  pub not_ended : check_refused (told (machine_of job_a) withdraw) (lending true 0) ≡ 13

-- its rows stand in those places, four for each lemma
abbrev pub RowsOfA : Type 0
RowsOfA =
    (verdict_at (machine_of job_a)
    (true ∷ true ∷ true ∷ true ∷ false ∷ true ∷ false ∷ true ∷ [])
    (1 ∷ 2 ∷ 0 ∷ 0 ∷ 0 ∷ 0 ∷ 0 ∷ 0 ∷ 6 ∷ 3 ∷ 4 ∷ 0 ∷ [])).rows
    ≡ row 6 (1 ∷ 2 ∷ []) ∷ row 8 (6 ∷ 3 ∷ 4 ∷ []) ∷ []

abbrev pub WorkedJobs : Type 0
WorkedJobs = AllComeOut worked × StruckAgain × TwelveArcPlaces × RowsOfA
