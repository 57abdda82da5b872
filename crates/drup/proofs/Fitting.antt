-- There are at most two steps to a clause place: each clause is entered once, and struck once while it lives.
use Rattle.std.proofs.Common.{◌≡◌, ℕ, zero, suc, ◌+◌, ◌≤◌, false, List, [], ◌∷◌, length, refl, ◌∙◌, true≢false, arith}
use Rattle.std.proofs.lemmas.Bool.{eqb-false}
use Rattle.cnf.specs.Clauses.{Clause}
use Rattle.cnf.specs.Arranging.{arranged}
use Rattle.drup.specs.History.{Step, begun, is_struck, learned, lemmas, struck, table}
use Rattle.drup.specs.Forward.{Call, Machine, after, clause, clauses, fed, lemma, opened, refused, rules, strike, target, unless, withdraw, without_last}
use Rattle.drup.specs.WellFormed.{WellFormed}
use Rattle.drup.specs.Laws.{StepsFit, StrikesLive}
use Rattle.drup.proofs.Counting.{counted, counted_more, counted_most}
use Rattle.drup.proofs.WellFormed.{fed_well, opened_well, unbroken}
use Rattle.drup.proofs.Striking.{strikes}

-- an input clause comes before all steps
not_begun : (inputs : List Clause) (steps : List Step) → begun steps ≡ false → StrikesLive inputs steps
not_begun inputs [] e = tt
not_begun inputs (s ∷ earlier) e = absurd (true≢false e)

-- what was live stays so when a step is taken back
without_last_lem : (inputs : List Clause) (steps : List Step) → StrikesLive inputs steps → StrikesLive inputs (without_last steps)
without_last_lem inputs [] s = s
without_last_lem inputs (learned c ∷ earlier) s = s
without_last_lem inputs (struck n ∷ earlier) s = s.1

-- an accepted struck hits a live clause
after_live :
    (m : Machine) (call : Call) → WellFormed m → refused m call ≡ 0 → StrikesLive m.inputs m.steps
    → StrikesLive (after m call).inputs (after m call).steps
after_live m (clause ls) w e s =
    let (b, (t, (first, u))) = unbroken (rules m (clause ls)) (omega arith) e in
    not_begun (arranged ls ∷ m.inputs) m.steps first
after_live m (lemma ls) w e s = s
after_live m (strike ls) w e s =
    let (b, (t, (on, (found, u)))) = unbroken (rules m (strike ls)) (omega arith) e in
    ((strikes m w ls t (eqb-false (target m ls) 0 found)).live, s)
after_live m withdraw w e s = without_last_lem m.inputs m.steps s

-- so every struck of a job hit a live clause
fed_live :
    (m : Machine) (calls : List Call) → WellFormed m → StrikesLive m.inputs m.steps
    → StrikesLive (fed m calls).inputs (fed m calls).steps
fed_live m [] w s = s
fed_live m (call ∷ earlier) w s = go (refused (fed m earlier) call) refl (fed_live m earlier w s)
  where
    before : Machine
    before = fed m earlier

    go : (n : ℕ) → refused before call ≡ n → StrikesLive before.inputs before.steps
        → StrikesLive (unless n (after before call) before).inputs (unless n (after before call) before).steps
    go zero e l = after_live before call (fed_well m earlier w) e l
    go (suc n) e l = l

-- every lemma is a clause
lemmas_most : (inputs : List Clause) (steps : List Step) → lemmas steps ≤ length (table inputs steps)
lemmas_most inputs [] = omega arith
lemmas_most inputs (learned c ∷ earlier) = let h = lemmas_most inputs earlier in omega arith
lemmas_most inputs (struck n ∷ earlier) = lemmas_most inputs earlier

-- the steps are the lemmas and one struck for each struck clause
steps_counted :
    (inputs : List Clause) (steps : List Step) → StrikesLive inputs steps
    → length steps ≤ lemmas steps + counted (length (table inputs steps)) (λ n. is_struck n steps)
unfolding counted
steps_counted inputs [] s = omega arith
steps_counted inputs (learned c ∷ earlier) s = let h = steps_counted inputs earlier s in omega arith
steps_counted inputs (struck n ∷ earlier) s =
    let h = steps_counted inputs earlier s.1 in
    let live = s.0 in
    let k = counted_more (length (table inputs earlier)) n (λ i. is_struck i earlier) live.numbered live.entered live.unstruck in
    omega arith

-- what a machine was opened with stays
fed_places : (m : Machine) (calls : List Call) → (fed m calls).clause_places ≡ m.clause_places
fed_places m [] = refl
fed_places m (call ∷ earlier) = go (refused (fed m earlier) call) call ∙ fed_places m earlier
  where
    before : Machine
    before = fed m earlier

    go : (n : ℕ) (call : Call) → (unless n (after before call) before).clause_places ≡ before.clause_places
    go zero (clause ls) = refl
    go zero (lemma ls) = refl
    go zero (strike ls) = refl
    go zero withdraw = refl
    go (suc n) call = refl

-- the theorem
pub steps_fit_lem : StepsFit
steps_fit_lem variables clause_places literal_places calls =
    let new : Machine = opened variables clause_places literal_places in
    let m : Machine = fed new calls in
    let w = opened_well variables clause_places literal_places in
    let s = fed_live new calls w tt in
    let p = (fed_well new calls w).places in
    let e = fed_places new calls in
    let h = steps_counted m.inputs m.steps s in
    let k = lemmas_most m.inputs m.steps in
    let c = counted_most (length (clauses m)) (λ n. is_struck n m.steps) in
    (s, omega arith)
