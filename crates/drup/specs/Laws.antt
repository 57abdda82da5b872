-- Laws of the forward machine: what calls enter, take back and strike, when clauses live, and how many steps there can be.
use Rattle.std.specs.Prelude.{◌≡◌, ℕ, suc, ◌*◌, ◌<◌, ◌≤◌, cond, ◌⊎◌, ◌↔◌, List, [], ◌∷◌, length, ◌==◌, ◌≢◌}
use Rattle.cnf.specs.declared.literals.Literal.{Literal}
use Rattle.cnf.specs.Clauses.{Clause, IsClause, SameLiterals, Unsatisfiable}
use Rattle.drup.specs.History.{Step, learned, struck, next_number, text, Live, Before}
use Rattle.drup.specs.Forward.{Machine, clauses, opened, Call, clause, lemma, strike, withdraw, refused, with_input, with_steps, told, fed, Accepts}

-- literals that make a clause: in range, no variable twice
abbrev pub ClauseFrom : Machine → List Literal → Clause → Type 0
ClauseFrom m ls c = IsClause m.variables c × SameLiterals c ls

-- a clause or a lemma that is not turned down is entered with just its literals, by rising variable
abbrev pub EntryLaw : Type 0
EntryLaw =
    (m : Machine) (ls : List Literal)
    → (refused m (clause ls) ≡ 0 → (c : Clause) × ClauseFrom m ls c × (told m (clause ls) ≡ with_input m c))
    × (refused m (lemma ls) ≡ 0 → (c : Clause) × ClauseFrom m ls c × (told m (lemma ls) ≡ with_steps m (learned c ∷ m.steps)))

-- withdraw takes back a lemma or a strike, and nothing of it is left
abbrev pub WithdrawLaw : Type 0
WithdrawLaw =
    (m : Machine) (ls : List Literal)
    → (refused m (lemma ls) ≡ 0 → told (told m (lemma ls)) withdraw ≡ m)
    × (refused m (strike ls) ≡ 0 → told (told m (strike ls)) withdraw ≡ m)

-- n is the highest number of a live clause with these literals, in any order
pub record HighestLive (m : Machine) (ls : List Literal) (n : ℕ) : Type 0 where
  pub live : Live m.inputs m.steps n
  pub same : SameLiterals ls (text (clauses m) n)
  pub highest : (k : ℕ) → Live m.inputs m.steps k → SameLiterals ls (text (clauses m) k) → k ≤ n

-- after any calls, a strike that is not turned down strikes the highest live clause with its literals; it is turned down by
-- 11 only where there is none
abbrev pub StrikeLaw : Type 0
StrikeLaw =
    (variables clause_places literal_places : ℕ) (calls : List Call) (ls : List Literal)
    → let m : Machine = fed (opened variables clause_places literal_places) calls in
    (refused m (strike ls) ≡ 0
    → (n : ℕ) × HighestLive m ls n × (told m (strike ls) ≡ with_steps m (struck n ∷ m.steps)))
    × (refused m (strike ls) ≡ 11 → (k : ℕ) → Live m.inputs m.steps k → SameLiterals ls (text (clauses m) k) → ⊥)

-- every strike hit a clause that was live before it
abbrev pub StrikesLive : (inputs : List Clause) → List Step → Type 0
StrikesLive inputs [] = Unit {0}
StrikesLive inputs (learned c ∷ earlier) = StrikesLive inputs earlier
StrikesLive inputs (struck n ∷ earlier) = Live inputs earlier n × StrikesLive inputs earlier

-- after any calls, every strike hit a live clause, and there are at most two steps to a clause place
abbrev pub StepsFit : Type 0
StepsFit =
    (variables clause_places literal_places : ℕ) (calls : List Call)
    → let m : Machine = fed (opened variables clause_places literal_places) calls in
    StrikesLive m.inputs m.steps × (length m.steps ≤ 2 * clause_places)

-- the step of a clause's entry, counted from 1, and 0 for an input clause
abbrev pub entry_of : (inputs : List Clause) → List Step → (n : ℕ) → ℕ
entry_of inputs [] n = 0
entry_of inputs (learned c ∷ earlier) n = cond (n == next_number inputs earlier) (suc (length earlier)) (entry_of inputs earlier n)
entry_of inputs (struck k ∷ earlier) n = entry_of inputs earlier n

-- the step that struck a clause, counted from 1, and 0 if none did
abbrev pub strike_of : List Step → (n : ℕ) → ℕ
strike_of [] n = 0
strike_of (learned c ∷ earlier) n = strike_of earlier n
strike_of (struck k ∷ earlier) n = cond (n == k) (suc (length earlier)) (strike_of earlier n)

-- a clause that was entered at one step and struck at another, or never, is live at a step: entered before it, and not
-- struck before it
abbrev pub LivesAt : (step entry end : ℕ) → Type 0
LivesAt step entry end = (entry < step) × ((end ≡ 0) ⊎ (step ≤ end))

-- after any calls, a clause was never struck at or before the step of its entry, and it is live at a step exactly if it was
-- entered before it and not struck before it
abbrev pub ClausesLive : Type 0
ClausesLive =
    (variables clause_places literal_places : ℕ) (calls : List Call) (n : ℕ)
    → let m : Machine = fed (opened variables clause_places literal_places) calls in
    1 ≤ n → n ≤ length (clauses m)
    → ((strike_of m.steps n ≢ 0) → entry_of m.inputs m.steps n < strike_of m.steps n)
    × ((earlier : List Step) → Before earlier m.steps
    → Live m.inputs earlier n
    ↔ LivesAt (suc (length earlier)) (entry_of m.inputs m.steps n) (strike_of m.steps n))

-- after any calls, what going back over a step does to the live clauses: a strike's clause, which was live before it, comes
-- back; a lemma, which is live behind its step, goes; the others stay as they are
abbrev pub GoingBack : Type 0
GoingBack =
    (variables clause_places literal_places : ℕ) (calls : List Call) (earlier : List Step)
    → let m : Machine = fed (opened variables clause_places literal_places) calls in
    ((n : ℕ) → Before (struck n ∷ earlier) m.steps
    → (k : ℕ) → Live m.inputs earlier k ↔ ((k ≡ n) ⊎ Live m.inputs (struck n ∷ earlier) k))
    × ((c : Clause) → Before (learned c ∷ earlier) m.steps
    → Live m.inputs (learned c ∷ earlier) (next_number m.inputs earlier)
    × ((k : ℕ) → Live m.inputs earlier k ↔ (Live m.inputs (learned c ∷ earlier) k × (k ≢ next_number m.inputs earlier))))

-- what the forward check accepts has inputs that no assignment satisfies
abbrev pub AcceptanceRefutes : Type 0
AcceptanceRefutes = (m : Machine) → Accepts m → Unsatisfiable m.inputs
