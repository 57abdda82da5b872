-- Writing marks and rows into lists, and reading them back.
use Rattle.std.proofs.Common.{◌≡◌, ℕ, zero, suc, ◌+◌, ◌<◌, ◌≤◌, Bool, true, false, ◌||◌, eqb, List, [], ◌∷◌, map, length, get_or, set, replicate, sym, refl, ap, ◌∙◌, inl, inr, arith, get_or-set_other, get_or-set_same}
use mathlib.Core.Option.{some}
use mathlib.Core.List.Memᴰ.{head as here}
use mathlib.Core.List.Memᴰ.{tail as there}
use Rattle.std.proofs.lemmas.Bool.{cases_Bool, eqb-false, eqb-true, ne_eqb}
use Rattle.cnf.specs.Clauses.{◌∈◌}
use Rattle.drup.specs.Marks.{Marks, has, lemma_numbers, marked}
use Rattle.drup.specs.Forward.{Machine}
use Rattle.drup.specs.Backward.{Report, Row, Verdict, accepted, fails}
use Rattle.drup.specs.Box.{Checks, Happens, Lent, check_refused, checked, empty_kept}
use Rattle.drup.specs.Reading.{VerdictsAreRead, box_of, marks_of, numbers_at, row_at, unless_zero, verdict_at}
use Rattle.drup.proofs.Kept.{in_order}

-- a list with no mark
pub none_marked : (k : ℕ) → marks_of (replicate k false) ≡ (λ n. false)
none_marked k = λ i n. at k n i
  where
    unmarked : (k j : ℕ) → get_or (replicate k false) j false ≡ false
    unmarked zero j = refl
    unmarked (suc k) zero = refl
    unmarked (suc k) (suc j) = unmarked k j

    at : (k n : ℕ) → marks_of (replicate k false) n ≡ false
    at k zero = refl
    at k (suc j) = unmarked k j

-- a mark is set
pub mark_set : (marks : List Bool) (k : ℕ) → k < length marks → marks_of (set marks k true) ≡ marked (suc k ∷ []) (marks_of marks)
mark_set marks k h = λ i n. at n i
  where
    at : (n : ℕ) → marks_of (set marks k true) n ≡ marked (suc k ∷ []) (marks_of marks) n
    at zero = rw (ne_eqb 0 (suc k) (λ e. omega arith)) refl
    at (suc j) =
        elim (cases_Bool (eqb (suc j) (suc k))) [
          | inl e ↦
              let same : j ≡ k = let p = eqb-true (suc j) (suc k) e in omega arith in
              rw e (ap (λ (x : ℕ). get_or (set marks k true) x false) same ∙ get_or-set_same marks k true false h)
          | inr e ↦
              let apart = eqb-false (suc j) (suc k) e in
              rw e (get_or-set_other marks k j true false (λ p. apart (ap suc p)))
        ]

-- what is read does not depend on other places
pub same_numbers :
    (arcs others : List ℕ) (place most : ℕ) → ((i : ℕ) → place ≤ i → i < place + most → get_or arcs i 0 ≡ get_or others i 0)
    → numbers_at arcs place most ≡ numbers_at others place most
same_numbers arcs others place zero same = refl
same_numbers arcs others place (suc most) same =
    rw (same place (omega arith) (omega arith))
    (ap (unless_zero (get_or others place 0)) (same_numbers arcs others (suc place) most (λ i low high. same i (omega arith) (omega arith))))

-- a row of numbers from 1 on that was written at a place, with a 0 after it if there is room, is read there
pub written_row :
    (arcs : List ℕ) (place most : ℕ) (row : List ℕ) → length row ≤ most → ((n : ℕ) → n ∈ row → 1 ≤ n)
    → ((i : ℕ) → i < length row → get_or arcs (place + i) 0 ≡ get_or row i 0)
    → (length row < most → get_or arcs (place + length row) 0 ≡ 0)
    → numbers_at arcs place most ≡ row
written_row arcs place zero [] fits numbers written then = refl
written_row arcs place zero (n ∷ row) fits numbers written then = absurd (omega arith)
written_row arcs place (suc most) [] fits numbers written then =
    let e : place + 0 ≡ place = omega arith in
    rw (ap (λ (x : ℕ). get_or arcs x 0) (sym e) ∙ then (omega arith)) refl
written_row arcs place (suc most) (zero ∷ row) fits numbers written then = absurd (let h = numbers 0 (here refl) in omega arith)
written_row arcs place (suc most) (suc n ∷ row) fits numbers written then =
    let e : place + 0 ≡ place = omega arith in
    rw (ap (λ (x : ℕ). get_or arcs x 0) (sym e) ∙ written 0 (omega arith))
    (ap {B = List ℕ} (λ ns. suc n ∷ ns)
    (written_row arcs (suc place) most row (omega arith) (λ k m. numbers k (there m))
    (λ i h. ap (λ (x : ℕ). get_or arcs x 0) (next i) ∙ written (suc i) (omega arith))
    (λ h. ap (λ (x : ℕ). get_or arcs x 0) (next (length row)) ∙ then (omega arith))))
  where
    next : (i : ℕ) → suc place + i ≡ place + suc i
    next i = omega arith

-- rows that are found under their numbers
all_found :
    (found : ℕ → Row) (rows : List Row) → ((row : Row) → row ∈ rows → found row.lemma_number ≡ row)
    → map found (map (λ row. row.lemma_number) rows) ≡ rows
all_found found [] each = refl
all_found found (row ∷ rows) each =
    rw (each row (here refl), all_found found rows (λ r m. each r (there m))) refl

-- the verdict of an accepting check is read off lists that have its marks and its rows
pub read_back : VerdictsAreRead
read_back m v r marks arcs b same written =
    let order = in_order m.inputs m.steps (empty_kept m) 0 v r b in
    let rows : map (row_at m arcs) (lemma_numbers (marks_of marks) m.inputs m.steps []) ≡ v.rows =
    ap (λ (kept : Marks). map (row_at m arcs) (lemma_numbers kept m.inputs m.steps [])) same
    ∙ ap (map (row_at m arcs)) (sym order)
    ∙ all_found (row_at m arcs) v.rows
    (λ row x. λ i. record { lemma_number = row.lemma_number; antecedents = written row x i }) in
    λ i. record { kept = same i; rows = rows i }

module _ (m : Machine) (judged : Bool) (marks marks' : List Bool) (arcs arcs' : List ℕ) (lent : Lent) (r : check_refused m lent ≡ 0) where
  -- an accepting check, from the lists before it to the lists after it
  pub accepted_read :
      (v : Verdict) (report : Report) → Checks m (accepted v report) → verdict_at m marks' arcs' ≡ v
      → Happens (box_of m judged marks arcs) (checked lent (accepted v report)) (box_of m true marks' arcs')
  accepted_read v report b read = (r, b, λ i. record { machine = m; verdict = some (read i) })

  -- a failing check leaves a job that is not judged
  pub fails_read :
      (step answers : ℕ) → Checks m (fails step answers)
      → Happens (box_of m judged marks arcs) (checked lent (fails step answers)) (box_of m false marks' arcs')
  fails_read step answers b = (r, b, refl)

-- a row is marked number by number
pub marked_first : (n : ℕ) (row : List ℕ) (kept : Marks) → marked (n ∷ []) (marked row kept) ≡ marked (n ∷ row) kept
marked_first n row kept = λ i k. regroup (eqb k n) (has row k) (kept k) i
  where
    regroup : (a b c : Bool) → ((a || false) || (b || c)) ≡ ((a || b) || c)
    regroup true b c = refl
    regroup false b c = refl
