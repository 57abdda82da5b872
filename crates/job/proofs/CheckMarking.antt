-- Marks in the rows, and the marks of the model.
use Rattle.std.proofs.Common.{◌≡◌, ℕ, zero, suc, ◌-◌, ◌<◌, ◌≤◌, Bool, true, false, ◌||◌, eqb, List, [], ◌∷◌, map, length, get_or, take, set, refl, ap, ◌∙◌, arith, length-set}
use mathlib.Core.List.Memᴰ.{head as here}
use mathlib.Core.List.Memᴰ.{tail as there}
use lib.ListN.{length-map}
use Rattle.std.proofs.lemmas.List.{length-take-le}
use Rattle.cnf.specs.Clauses.{◌∈◌}
use Rattle.drup.specs.Marks.{has, marked}
use Rattle.drup.specs.Reading.{marks_of}
use Rattle.drup.proofs.Reading.{mark_set}
use Rattle.job.specs.declared.rows.ClauseRow.{ClauseRow}
use Rattle.job.specs.View.{blank_row}
use Rattle.job.specs.CheckLists.{kept_row, mark_all}

abbrev pub marks_in : ℕ → List ClauseRow → List Bool
marks_in c rows = map (λ r. r.kept) (take c rows)

-- the mark of a clause
pub mark_at : (c : ℕ) (rows : List ClauseRow) (n : ℕ) → 1 ≤ n → n ≤ c → marks_of (marks_in c rows) n ≡ (get_or rows (n - 1) blank_row).kept
mark_at c rows zero low high = absurd (omega arith)
mark_at c rows (suc k) low high =
    at c rows k (omega arith) ∙ ap (λ (j : ℕ). (get_or rows j blank_row).kept) (let e : k ≡ suc k - 1 = omega arith in e)
  where
    at : (c : ℕ) (rows : List ClauseRow) (k : ℕ) → k < c → get_or (marks_in c rows) k false ≡ (get_or rows k blank_row).kept
    at zero rows k h = absurd (omega arith)
    at (suc c) [] k h = refl
    at (suc c) (r ∷ rows) zero h = refl
    at (suc c) (r ∷ rows) (suc k) h = at c rows k (omega arith)

-- one mark is set
kept_set : (c : ℕ) (rows : List ClauseRow) (k : ℕ) → marks_in c (set rows k (kept_row (get_or rows k blank_row))) ≡ set (marks_in c rows) k true
kept_set zero rows k = refl
kept_set (suc c) [] k = refl
kept_set (suc c) (r ∷ rows) zero = refl
kept_set (suc c) (r ∷ rows) (suc k) = ap (λ (t : List Bool). r.kept ∷ t) (kept_set c rows k)

one_marked :
    (c : ℕ) (rows : List ClauseRow) (n : ℕ) → c ≤ length rows → 1 ≤ n → n ≤ c
    → marks_of (marks_in c (set rows (n - 1) (kept_row (get_or rows (n - 1) blank_row)))) ≡ marked (n ∷ []) (marks_of (marks_in c rows))
one_marked c rows n h low high =
    let l : length (marks_in c rows) ≡ c = length-map (take c rows) (λ (r : ClauseRow). r.kept) ∙ length-take-le c rows h in
    ap marks_of (kept_set c rows (n - 1))
    ∙ mark_set (marks_in c rows) (n - 1) (omega arith)
    ∙ ap (λ (k : ℕ). marked (k ∷ []) (marks_of (marks_in c rows))) (let e : suc (n - 1) ≡ n = omega arith in e)

-- a row of marks is set
pub all_marked_lem :
    (c : ℕ) (row : List ℕ) (rows : List ClauseRow) → c ≤ length rows → ((n : ℕ) → n ∈ row → (1 ≤ n) × (n ≤ c))
    → marks_of (marks_in c (mark_all row rows)) ≡ marked row (marks_of (marks_in c rows))
all_marked_lem c [] rows h in_range = refl
all_marked_lem c (n ∷ row) rows h in_range =
    let z = in_range n (here refl) in
    all_marked_lem c row (set rows (n - 1) (kept_row (get_or rows (n - 1) blank_row)))
    (let e = length-set rows (n - 1) (kept_row (get_or rows (n - 1) blank_row)) in omega arith) (λ k m. in_range k (there m))
    ∙ ap (marked row) (one_marked c rows n h z.0 z.1)
    ∙ (λ i k. regroup (has row k) (eqb k n) (marks_of (marks_in c rows) k) i)
  where
    regroup : (a b d : Bool) → (a || ((b || false) || d)) ≡ ((b || a) || d)
    regroup true true d = refl
    regroup true false d = refl
    regroup false true d = refl
    regroup false false d = refl

-- the mark at a place
pub mark_there : (c : ℕ) (rows : List ClauseRow) (i : ℕ) → i < c → marks_of (marks_in c rows) (suc i) ≡ (get_or rows i blank_row).kept
mark_there c rows i h =
    mark_at c rows (suc i) (omega arith) (omega arith) ∙ ap (λ (j : ℕ). (get_or rows j blank_row).kept) (let e : suc i - 1 ≡ i = omega arith in e)
