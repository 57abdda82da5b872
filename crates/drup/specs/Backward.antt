-- The backward check, by an engine that may give any right answers.
use Rattle.std.specs.Prelude.{◌≡◌, ℕ, suc, ◌+◌, Bool, true, false, cond, ◌⊎◌, List, [], ◌∷◌, map, length}
use Rattle.std.specs.List.{list_any}
use Rattle.cnf.specs.declared.literals.Literal.{Literal}
use Rattle.cnf.specs.Literals.{complement, same_literal}
use Rattle.cnf.specs.Clauses.{Clause}
use Rattle.cnf.specs.Propagation.{Falsified, Forces}
use Rattle.cnf.specs.declared.literals.Forced.{Forced}
use Rattle.drup.specs.History.{Step, learned, struck, table, next_number, text, Live}
use Rattle.drup.specs.Marks.{Marks, marked, sieved}

-- the trail after some answers, newest first, on top of what was assumed
abbrev pub trail : (assumed : List Literal) → List Forced → List Literal
trail assumed [] = assumed
trail assumed (f ∷ earlier) = f.literal ∷ trail assumed earlier

-- over clauses by number: which are alive, and their texts
module _ (alive : ℕ → Type 0) (text : ℕ → Clause) (assumed : List Literal) where
  -- each answer is right under the trail before it: a live clause forces the literal
  abbrev pub RightOver : List Forced → Type 0
  RightOver [] = Unit {0}
  RightOver (f ∷ earlier) =
      alive f.number × Forces (trail assumed earlier) (text f.number) f.literal × RightOver earlier

  -- the answers end in a conflict at clause n: it is live and falsified
  pub record ConflictOver (answers : List Forced) (n : ℕ) : Type 0 where
    pub right : RightOver answers
    pub live : alive n
    pub false_there : Falsified (trail assumed answers) (text n)

  -- the answers end in nothing: no live clause is falsified, none forces a literal
  pub record NothingOver (answers : List Forced) : Type 0 where
    pub right : RightOver answers
    pub none_false : (n : ℕ) → alive n → Falsified (trail assumed answers) (text n) → ⊥
    pub none_forces : (n : ℕ) (l : Literal) → alive n → Forces (trail assumed answers) (text n) l → ⊥

-- over the clauses live behind these steps
module _ (inputs : List Clause) (earlier : List Step) (assumed : List Literal) where
  abbrev pub Right : List Forced → Type 0
  Right = RightOver (Live inputs earlier) (text (table inputs earlier)) assumed

  abbrev pub Conflict : List Forced → (n : ℕ) → Type 0
  Conflict = ConflictOver (Live inputs earlier) (text (table inputs earlier)) assumed

  abbrev pub Nothing : List Forced → Type 0
  Nothing = NothingOver (Live inputs earlier) (text (table inputs earlier)) assumed

-- how often a trial asked: once for each literal that was forced, and once for its end
abbrev pub asked : List Forced → ℕ
asked answers = suc (length answers)

-- l stands in c
abbrev pub holds : Literal → Clause → Bool
holds l c = list_any (same_literal l) c

-- l stands in one of these clauses
abbrev pub stands_in : Literal → List Clause → Bool
stands_in l cs = list_any (holds l) cs

-- from the latest answer back, a number enters the row if the complement of its literal stands in a clause of the row
abbrev pub gathered : (text : ℕ → Clause) → List Forced → (row : List ℕ) → List ℕ
gathered text [] row = row
gathered text (f ∷ earlier) row =
    gathered text earlier (cond (stands_in (complement f.literal) (map text row)) (f.number ∷ row) row)

-- a kept lemma with its antecedents, in order of derivation
pub record Row : Type 0 where
  pub lemma_number : ℕ
  pub antecedents : List ℕ

-- the row of the lemma behind these steps whose trial ended in a conflict at clause n: at first n alone
abbrev pub conflict_row : (inputs : List Clause) → (earlier : List Step) → (answers : List Forced) → (n : ℕ) → Row
conflict_row inputs earlier answers n =
    record { lemma_number = next_number inputs earlier; antecedents = gathered (text (table inputs earlier)) answers (n ∷ []) }

-- what a check keeps: a mark for each kept clause, and a row for each kept lemma that was tried, lowest number first
pub record Verdict : Type 0 where
  pub kept : Marks
  pub rows : List Row

-- a row is recorded, and its numbers are kept
abbrev pub with_row : Row → Verdict → Verdict
with_row row v = record { kept = marked row.antecedents v.kept; rows = row ∷ v.rows }

-- how many numbers stand in the rows
abbrev pub arcs : List Row → ℕ
arcs [] = 0
arcs (row ∷ rows) = length row.antecedents + arcs rows

-- what an accepting check reports
pub record Report : Type 0 where
  pub input_count : ℕ
  pub lemma_count : ℕ
  pub arc_count : ℕ
  pub answer_count : ℕ

-- the kept inputs, the kept lemmas, which have a row each, and the arcs are counted in the verdict
abbrev pub report : (inputs : List Clause) → Verdict → (answers : ℕ) → Report
report inputs v answers = record {
  input_count = length (sieved v.kept inputs);
  lemma_count = length v.rows;
  arc_count = arcs v.rows;
  answer_count = answers;
}

-- what a check comes to
pub data Outcome : Type 0 where
  accepted : Verdict → Report → Outcome
  -- the kept lemma at this step does not pass, as the last of so many answers showed
  fails : (step answers : ℕ) → Outcome

-- from the last step to the first, with what is kept so far and how many answers there were: a strike is passed over, and
-- a lemma goes one of three ways
abbrev pub Backward : (inputs : List Clause) → List Step → (so_far : Verdict) → (count : ℕ) → Outcome → Type 0
Backward inputs [] so_far count outcome = outcome ≡ accepted so_far (report inputs so_far count)
Backward inputs (struck n ∷ earlier) so_far count outcome = Backward inputs earlier so_far count outcome
Backward inputs (learned c ∷ earlier) so_far count outcome =
    -- it is not kept, and passed over
    ((so_far.kept (next_number inputs earlier) ≡ false) × Backward inputs earlier so_far count outcome)
    -- it is kept and tried, the complements of its literals assumed, and a conflict gives its row
    ⊎ ((so_far.kept (next_number inputs earlier) ≡ true)
    × (answers : List Forced) × (n : ℕ) × Conflict inputs earlier (map complement c) answers n
    × Backward inputs earlier (with_row (conflict_row inputs earlier answers n) so_far) (count + asked answers) outcome)
    -- or the trial ends in nothing, and the check fails at this step
    ⊎ ((so_far.kept (next_number inputs earlier) ≡ true)
    × (answers : List Forced) × Nothing inputs earlier (map complement c) answers
    × (outcome ≡ fails (suc (length earlier)) (count + asked answers)))
