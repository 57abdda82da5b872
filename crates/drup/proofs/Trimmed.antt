-- The trimmed job: a new machine takes the core and the kept lemmas, and accepts.
use Rattle.std.proofs.Common.{◌≡◌, ℕ, suc, ◌+◌, ◌≤◌, Bool, true, false, cond, List, [], ◌∷◌, ◌++◌, map, length, sym, refl, ap, ◌∙◌, subst, append_assoc, arith}
use mathlib.Core.Bool.{false≢true}
use mathlib.Core.List.Memᴰ
use mathlib.Core.List.Memᴰ.{head as here}
use mathlib.Core.List.Memᴰ.{tail as there}
use lib.ListN.{length-map}
use Rattle.std.proofs.lemmas.Bool.{eq-eqb, le-ltb, lt-leb}
use Rattle.cnf.specs.Literals.{complement}
use Rattle.cnf.specs.Clauses.{Clause, ◌∈◌, literals}
use Rattle.cnf.specs.Propagation.{Passes}
use Rattle.cnf.proofs.Arranging.{clause_arranged, clause_beyond, clause_twice}
use Rattle.cnf.proofs.Derivations.{carried, lean_derives}
use Rattle.drup.specs.History.{LearnedAfter, LiveClause, Step, ended, is_struck, learned, next_number, struck, table, text}
use Rattle.drup.specs.Marks.{Marks, kept_lemmas, lemma_numbers, sieved}
use Rattle.drup.specs.Forward.{Accepts, AllPass, Machine, NoneRefused, clause, clauses, fed, full, lemma, refused, rules, told}
use Rattle.drup.specs.WellFormed.{Formed, NoEmpty, OnlyLastEmpty, WellFormed}
use Rattle.drup.specs.Backward.{Report, Row, Verdict, accepted, arcs}
use Rattle.drup.specs.Box.{Checks, empty_kept, last}
use Rattle.drup.specs.Agreement.{Certified, Leads, Reported, RightRow, RowOf, antecedent, core, is_empty, renewed}
use Rattle.drup.proofs.Numbers.{number_of, sieved_drawn, sieved_length, sieved_literals, table_grows, text_sieved}
use Rattle.drup.proofs.Acceptance.{refuted}
use Rattle.drup.proofs.WellFormed.{no_empty_only_last, none_broken, taken, withdrawn}
use Rattle.drup.proofs.Kept.{every_row, in_order, kept_stays}
use Rattle.drup.proofs.Visited.{accepted_visited}

-- a machine with these inputs and lemmas, and no struck
abbrev pub holding : Machine → List Clause → List Clause → Machine
holding m inputs lemmas = record {
  variables = m.variables;
  clause_places = m.clause_places;
  literal_places = m.literal_places;
  inputs = inputs;
  steps = map learned lemmas;
}

-- there is room for what a well-formed machine holds
room_for :
    (m : Machine) (c : Clause) → suc (length (clauses m)) ≤ m.clause_places
    → length c + literals (clauses m) ≤ m.literal_places → full m c ≡ false
room_for m c places room =
    rw (lt-leb m.clause_places (length (clauses m)) places) (le-ltb m.literal_places (length c + literals (clauses m)) room)

-- a job with no empty lemma has not ended
no_empty_not_ended : (steps : List Step) → NoEmpty steps → ended steps ≡ false
no_empty_not_ended [] n = refl
no_empty_not_ended (learned [] ∷ earlier) n = absurd n
no_empty_not_ended (learned (l ∷ c) ∷ earlier) n = refl
no_empty_not_ended (struck k ∷ earlier) n = refl

module _ (m : Machine) (inputs : List Clause) where
  -- a machine takes an input clause that it may hold
  clause_taken : (c : Clause) → WellFormed (holding m (c ∷ inputs) []) → refused (holding m inputs []) (clause c) ≡ 0
  clause_taken c w =
      let all_clauses = w.all_clauses c (here refl) in
      none_broken (rules (holding m inputs []) (clause c))
      (clause_beyond m.variables c all_clauses, (clause_twice m.variables c all_clauses, (refl, (room_for (holding m inputs []) c w.places w.room, tt))))

  -- a machine takes a lemma that it may hold
  lemma_taken :
      (lemmas : List Clause) (c : Clause) → WellFormed (holding m inputs (c ∷ lemmas))
      → refused (holding m inputs lemmas) (lemma c) ≡ 0
  lemma_taken lemmas c w =
      let all_clauses = w.all_clauses c (here refl) in
      none_broken (rules (holding m inputs lemmas) (lemma c)) (
        clause_beyond m.variables c all_clauses,
        (
          clause_twice m.variables c all_clauses,
          (
            no_empty_not_ended (map learned lemmas) w.only_last,
            (room_for (holding m inputs lemmas) c w.places w.room, tt),
          ),
        ),
      )

-- a machine with an input clause less is well-formed too
one_less :
    (m : Machine) (c : Clause) (inputs : List Clause) → WellFormed (holding m (c ∷ inputs) [])
    → WellFormed (holding m inputs [])
one_less m c inputs w =
    record { all_clauses = λ d k. w.all_clauses d (there k); places = omega arith; room = omega arith; only_last = tt }

-- what a new machine holds after these clauses
rebuilt_core :
    (m : Machine) (inputs : List Clause) → WellFormed (holding m inputs [])
    → NoneRefused (renewed m) (map clause inputs) × (fed (renewed m) (map clause inputs) ≡ holding m inputs [])
rebuilt_core m [] w = (tt, refl)
rebuilt_core m (c ∷ inputs) w =
    let r = rebuilt_core m inputs (one_less m c inputs w) in
    let e = clause_taken m inputs c w in (
      (rw r.1 e, r.0),
      ap (λ (x : Machine). told x (clause c)) r.1 ∙ taken (holding m inputs []) (clause c) e
          ∙ ap (λ (d : Clause). holding m (d ∷ inputs) []) (clause_arranged m.variables c (w.all_clauses c (here refl))),
    )

-- and after these lemmas
rebuilt :
    (m : Machine) (inputs lemmas : List Clause) → WellFormed (holding m inputs lemmas)
    → NoneRefused (renewed m) (map lemma lemmas ++ map clause inputs)
    × (fed (renewed m) (map lemma lemmas ++ map clause inputs) ≡ holding m inputs lemmas)
rebuilt m inputs [] w = rebuilt_core m inputs w
rebuilt m inputs (c ∷ lemmas) w =
    let r = rebuilt m inputs lemmas (withdrawn m.variables m.clause_places m.literal_places inputs (learned c ∷ map learned lemmas) w) in
    let e = lemma_taken m inputs lemmas c w in (
      (rw r.1 e, r.0),
      ap (λ (x : Machine). told x (lemma c)) r.1 ∙ taken (holding m inputs lemmas) (lemma c) e
          ∙ ap (λ (d : Clause). holding m inputs (d ∷ lemmas)) (clause_arranged m.variables c (w.all_clauses c (here refl))),
    )

-- the steps of the trimmed job
abbrev kept_steps : Marks → List Clause → List Step → List Step
kept_steps kept inputs steps = map learned (kept_lemmas kept inputs steps)

-- no step of the trimmed job strikes a clause, so all of its clauses are live
never_struck : (n : ℕ) (lemmas : List Clause) → is_struck n (map learned lemmas) ≡ false
never_struck n [] = refl
never_struck n (c ∷ lemmas) = never_struck n lemmas

all_live :
    (inputs lemmas : List Clause) (c : Clause) → c ∈ table inputs (map learned lemmas)
    → LiveClause inputs (map learned lemmas) c
all_live inputs lemmas c m =
    let k = number_of m in
    (k.0, record { numbered = k.1; entered = k.2; unstruck = never_struck k.0 lemmas }, k.3)

module _ (kept : Marks) (inputs : List Clause) where
  -- the clauses of the trimmed job are the kept clauses
  trimmed_table :
      (steps : List Step) → table (sieved kept inputs) (kept_steps kept inputs steps) ≡ sieved kept (table inputs steps)
  trimmed_table [] = refl
  trimmed_table (struck n ∷ earlier) = trimmed_table earlier
  trimmed_table (learned c ∷ earlier) = go (kept (next_number inputs earlier)) (trimmed_table earlier)
    where
      go : (b : Bool) → table (sieved kept inputs) (kept_steps kept inputs earlier) ≡ sieved kept (table inputs earlier)
          → table (sieved kept inputs) (map learned (cond b (c ∷ kept_lemmas kept inputs earlier) (kept_lemmas kept inputs earlier)))
          ≡ cond b (c ∷ sieved kept (table inputs earlier)) (sieved kept (table inputs earlier))
      go true e = ap {B = List Clause} (λ cs. c ∷ cs) e
      go false e = e

  -- the trimmed job has no empty lemma that the job has not
  trimmed_no_empty : (steps : List Step) → NoEmpty steps → NoEmpty (kept_steps kept inputs steps)
  trimmed_no_empty [] n = tt
  trimmed_no_empty (struck k ∷ earlier) n = trimmed_no_empty earlier n
  trimmed_no_empty (learned [] ∷ earlier) n = absurd n
  trimmed_no_empty (learned (l ∷ c) ∷ earlier) n = go (kept (next_number inputs earlier)) (trimmed_no_empty earlier n)
    where
      go : (b : Bool) → NoEmpty (kept_steps kept inputs earlier)
          → NoEmpty (map learned (cond b ((l ∷ c) ∷ kept_lemmas kept inputs earlier) (kept_lemmas kept inputs earlier)))
      go true h = h
      go false h = h

  trimmed_only_last : (steps : List Step) → OnlyLastEmpty steps → OnlyLastEmpty (kept_steps kept inputs steps)
  trimmed_only_last [] o = tt
  trimmed_only_last (struck k ∷ earlier) o =
      no_empty_only_last (kept_steps kept inputs earlier) (trimmed_no_empty earlier o)
  trimmed_only_last (learned c ∷ earlier) o = go (kept (next_number inputs earlier)) (trimmed_no_empty earlier o)
    where
      go : (b : Bool) → NoEmpty (kept_steps kept inputs earlier)
          → OnlyLastEmpty (map learned (cond b (c ∷ kept_lemmas kept inputs earlier) (kept_lemmas kept inputs earlier)))
      go true h = h
      go false h = no_empty_only_last (kept_steps kept inputs earlier) h

  -- the trimmed job is well-formed
  trimmed_well :
      (v n q : ℕ) (steps : List Step) → Formed v n q inputs steps
      → Formed v n q (sieved kept inputs) (kept_steps kept inputs steps)
  trimmed_well v n q steps w =
      record {
        all_clauses = rw (trimmed_table steps) (λ c m. w.all_clauses c (sieved_drawn kept (table inputs steps) c m));
        places = rw (trimmed_table steps) (let h = w.places in let k = sieved_length kept (table inputs steps) in omega arith);
        room = rw (trimmed_table steps) (let h = w.room in let k = sieved_literals kept (table inputs steps) in omega arith);
        only_last = trimmed_only_last steps w.only_last;
      }

  module _ (highest : ℕ) (rows : List Row) where
    -- what every kept lemma has
    abbrev RowOfEach : List Step → Clause → Type 0
    RowOfEach earlier c = RowOf highest inputs (record { kept = kept; rows = rows }) earlier c

    -- a kept lemma passes in the trimmed job
    row_passes :
        (earlier : List Step) (c : Clause) → RowOfEach earlier c
        → Passes (LiveClause (sieved kept inputs) (kept_steps kept inputs earlier)) c
    row_passes earlier c row =
        let texts : List Clause = map (text (table inputs earlier)) row.row.antecedents in (
          texts,
          carried (LiveClause inputs earlier) (LiveClause (sieved kept inputs) (kept_steps kept inputs earlier)) (map complement c) texts
              (λ d m.
              let k = Memᴰ.of_map (text (table inputs earlier)) row.row.antecedents m in
              let live = row.derives.live k.0 k.1 in
              all_live (sieved kept inputs) (kept_lemmas kept inputs earlier) d
              (rw (trimmed_table earlier, ← k.2)
              (text_sieved kept (table inputs earlier) k.0 live.numbered live.entered (row.all_kept k.0 k.1))))
              (lean_derives (LiveClause inputs earlier) (map complement c) texts row.derives.lean),
        )

    -- so every lemma of the trimmed job passes
    trimmed_passes :
        (steps : List Step)
        → ((c : Clause) (earlier : List Step) → LearnedAfter earlier c steps → kept (next_number inputs earlier) ≡ true → RowOfEach earlier c)
        → AllPass (sieved kept inputs) (kept_steps kept inputs steps)
    trimmed_passes [] every = tt
    trimmed_passes (struck n ∷ earlier) every =
        trimmed_passes earlier (λ c e l. every c e (struck n ∷ l.0, ap {B = List Step} (λ steps. struck n ∷ steps) l.1))
    trimmed_passes (learned c ∷ earlier) every =
        go (kept (next_number inputs earlier)) refl
        (trimmed_passes earlier (λ d e l. every d e (learned c ∷ l.0, ap {B = List Step} (λ steps. learned c ∷ steps) l.1)))
      where
        go :
            (b : Bool) → kept (next_number inputs earlier) ≡ b
            → AllPass (sieved kept inputs) (kept_steps kept inputs earlier)
            → AllPass (sieved kept inputs) (map learned (cond b (c ∷ kept_lemmas kept inputs earlier) (kept_lemmas kept inputs earlier)))
        go true e h = (row_passes earlier c (every c earlier ([], refl) e), h)
        go false e h = h

  -- the empty lemma, which is kept, ends the trimmed job too
  trimmed_ended :
      (steps : List Step) → ended steps ≡ true → kept (length (table inputs steps)) ≡ true
      → ended (kept_steps kept inputs steps) ≡ true
  trimmed_ended [] e m = absurd (false≢true e)
  trimmed_ended (struck n ∷ earlier) e m = absurd (false≢true e)
  trimmed_ended (learned (l ∷ c) ∷ earlier) e m = absurd (false≢true e)
  trimmed_ended (learned [] ∷ earlier) e m = rw m

-- there are as many numbers of kept lemmas as kept lemmas
lemmas_counted :
    (kept : Marks) (inputs : List Clause) (steps : List Step) (later : List ℕ)
    → length (lemma_numbers kept inputs steps later) ≡ length (kept_lemmas kept inputs steps) + length later
lemmas_counted kept inputs [] later = omega arith
lemmas_counted kept inputs (struck n ∷ earlier) later = lemmas_counted kept inputs earlier later
lemmas_counted kept inputs (learned c ∷ earlier) later =
    go (kept (next_number inputs earlier)) (lemmas_counted kept inputs earlier)
  where
    go :
        (b : Bool)
        → ((more : List ℕ) → length (lemma_numbers kept inputs earlier more) ≡ length (kept_lemmas kept inputs earlier) + length more)
        → length (lemma_numbers kept inputs earlier (cond b (next_number inputs earlier ∷ later) later))
        ≡ length (cond b (c ∷ kept_lemmas kept inputs earlier) (kept_lemmas kept inputs earlier)) + length later
    go true below = let h = below (next_number inputs earlier ∷ later) in omega arith
    go false below = below later

-- a job that has ended has a clause, the empty lemma
ended_some : (inputs : List Clause) (steps : List Step) → ended steps ≡ true → 1 ≤ length (table inputs steps)
ended_some inputs [] e = absurd (false≢true e)
ended_some inputs (learned c ∷ earlier) e = omega arith
ended_some inputs (struck n ∷ earlier) e = absurd (false≢true e)

-- what leads to the empty lemma by right rows is the number of a clause
leads_number :
    (m : Machine) (rows : List Row) (n : ℕ) → ended m.steps ≡ true → ((row : Row) → row ∈ rows → RightRow m row)
    → Leads (last m) rows n → (1 ≤ n) × (n ≤ last m)
leads_number m rows n e right (is_empty p) = let h = ended_some m.inputs m.steps e in (omega arith, omega arith)
leads_number m rows n e right (antecedent row x k l) =
    let (c, earlier, place, derives) = right row x in
    let (later, p) = place in
    let live = derives.live n k in
    let h = table_grows m.inputs (later ++ (learned c ∷ [])) earlier in
    let same : length (table m.inputs ((later ++ (learned c ∷ [])) ++ earlier)) ≡ last m =
    ap (λ (steps : List Step). length (table m.inputs steps)) (append_assoc later (learned c ∷ []) earlier ∙ sym p) in
    (live.numbered, omega (arith, live.entered))

-- a verdict on a well-formed job is worth what it says
pub certified :
    (m : Machine) (v : Verdict) (r : Report) → WellFormed m → ended m.steps ≡ true → Checks m (accepted v r) → Certified m v
certified m v r w e b =
    let lemmas : List Clause = kept_lemmas v.kept m.inputs m.steps in
    let every =
    every_row m.variables m.clause_places m.literal_places m.inputs v r m.steps (empty_kept m) 0 w
    (λ row x. absurd (Memᴰ.not-nil x)) b in
    let passes = trimmed_passes v.kept m.inputs m.variables v.rows m.steps every in
    let ends = trimmed_ended v.kept m.inputs m.steps e
    (kept_stays m.inputs m.steps (empty_kept m) 0 v r b (last m) (eq-eqb (last m) (last m) refl)) in
    let visited = (accepted_visited m w v r b).0 in
    let again = rebuilt m (core m v) lemmas (trimmed_well v.kept m.inputs m.variables m.clause_places m.literal_places m.steps w) in
    record {
      drawn = sieved_drawn v.kept m.inputs;
      unsatisfiable = refuted (core m v) (map learned lemmas) ends passes;
      none_refused = again.0;
      accepted_again = subst Accepts (sym again.1) (ends, passes);
      all_numbers = λ n k. leads_number m v.rows n e visited.right (visited.leads n k);
      all_lead = visited.leads;
      rows_right = visited.right;
      rows_kept = visited.of_kept;
      every_row = every;
      rows_in_order = in_order m.inputs m.steps (empty_kept m) 0 v r b;
    }

-- and an accepting check reports what it should
pub reported : (m : Machine) (v : Verdict) (r : Report) → WellFormed m → Checks m (accepted v r) → Reported m v r
reported m v r w b =
    let (visited, said) = accepted_visited m w v r b in
    let order = in_order m.inputs m.steps (empty_kept m) 0 v r b in
    let all = lemmas_counted v.kept m.inputs m.steps [] in
    let each = length-map v.rows (λ row. row.lemma_number) in
    let same = ap length order in
    let arcs_said : r.arc_count ≡ arcs v.rows = ap (λ (x : Report). x.arc_count) said in
    let lemmas_said : r.lemma_count ≡ length v.rows = ap (λ (x : Report). x.lemma_count) said in
    let h = visited.answered in
    let few = visited.few in
    record {
      inputs_kept = ap (λ (x : Report). x.input_count) said;
      lemmas_kept = omega arith;
      arcs_drawn = arcs_said;
      arcs_answered = omega arith;
      answers_few = omega arith;
    }
