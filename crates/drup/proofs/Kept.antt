-- The kept lemmas of an accepting check: each has its one row.
use Rattle.std.proofs.Common.{◌≡◌, ℕ, ◌+◌, ◌<◌, ◌≤◌, true, ◌⊎◌, List, [], ◌∷◌, ◌++◌, map, length, sym, refl, ap, ◌∙◌, subst, inl, inr, true≢false, arith}
use mathlib.Core.List.Memᴰ.{cases_cons as in-cons}
use mathlib.Core.List.Memᴰ.{head as here}
use mathlib.Core.List.Memᴰ.{tail as there}
use lib.ListN.{length-map}
use Rattle.cnf.specs.Literals.{complement}
use Rattle.cnf.specs.Clauses.{Clause, Within, ◌∈◌}
use Rattle.cnf.proofs.Arranging.{all_cons}
use Rattle.cnf.proofs.Derivations.{lean_derives}
use Rattle.cnf.specs.declared.literals.Forced.{Forced}
use Rattle.drup.specs.History.{LearnedAfter, Live, LiveClause, Step, learned, next_number, struck, table, text}
use Rattle.drup.specs.WellFormed.{Formed}
use Rattle.drup.specs.Marks.{lemma_numbers}
use Rattle.drup.specs.Backward.{Backward, Conflict, Report, Row, Verdict, accepted, asked, conflict_row, fails, with_row}
use Rattle.drup.specs.Agreement.{Derives, RowOf}
use Rattle.drup.proofs.Numbers.{marked_row, marked_same, marked_stays}
use Rattle.drup.proofs.Trials.{conflict_lean, row_alive}
use Rattle.drup.proofs.Short.{short}
use Rattle.drup.proofs.WellFormed.{live_within, withdrawn}

-- the row of a conflict is a short derivation with no idle entry
pub conflict_derives :
    (v n q : ℕ) (inputs : List Clause) (earlier : List Step) (c : Clause) (answers : List Forced) (k : ℕ)
    → Formed v n q inputs earlier → Conflict inputs earlier (map complement c) answers k
    → Derives v inputs earlier c (conflict_row inputs earlier answers k)
conflict_derives v n q inputs earlier c answers k formed right =
    let lean = conflict_lean inputs earlier (map complement c) answers k right in
    let numbers : List ℕ = (conflict_row inputs earlier answers k).antecedents in
    let texts : List Clause = map (text (table inputs earlier)) numbers in
    let bound =
    short v (LiveClause inputs earlier)
    (λ d s. subst (Within v) s.2 (live_within v n q inputs earlier formed s.0 s.1))
    (map complement c) texts (lean_derives (LiveClause inputs earlier) (map complement c) texts lean) in
    let same = length-map numbers (text (table inputs earlier)) in
    record {
      its_number = refl;
      short = omega arith;
      live = row_alive (text (table inputs earlier)) (text (table inputs earlier)) (Live inputs earlier) (map complement c) answers k right;
      lean = lean;
    }

-- how marks and rows grow from some point of a check to its end: above the clauses that stand there, marks stay as they are
record Grown (count : ℕ) (so_far v : Verdict) : Type 0 where
  kept_stay : (n : ℕ) → so_far.kept n ≡ true → v.kept n ≡ true
  rows_stay : (row : Row) → row ∈ so_far.rows → row ∈ v.rows
  kept_above : (n : ℕ) → count < n → v.kept n ≡ so_far.kept n
  rows_new : (row : Row) → row ∈ v.rows → (row ∈ so_far.rows) ⊎ (row.lemma_number ≤ count)

-- an outcome is of one kind
pub accepted_not_fails :
    {A : Type 0} {v : Verdict} {r : Report} {step answers : ℕ} → accepted v r ≡ fails step answers → A
accepted_not_fails e = let z : ◌≡◌ {A = ℕ} 0 1 = cc in absurd (omega arith)

-- and has one verdict
pub accepted_same : {v w : Verdict} {r s : Report} → accepted v r ≡ accepted w s → v ≡ w
accepted_same e = cc

-- what is added at a lemma or before it
grown :
    (inputs : List Clause) (steps : List Step) (so_far : Verdict) (count : ℕ) (v : Verdict) (r : Report)
    → Backward inputs steps so_far count (accepted v r) → Grown (length (table inputs steps)) so_far v
grown inputs [] so_far count v r e =
    rw (accepted_same e) (record { kept_stay = λ n k. k; rows_stay = λ row m. m; kept_above = λ n h. refl; rows_new = λ row m. inl m })
grown inputs (struck k ∷ earlier) so_far count v r b = grown inputs earlier so_far count v r b
grown inputs (learned c ∷ earlier) so_far count v r (inl (out, b)) =
    let g = grown inputs earlier so_far count v r b in
    record {
      kept_stay = g.kept_stay;
      rows_stay = g.rows_stay;
      kept_above = λ n h. g.kept_above n (omega arith);
      rows_new = λ row m. elim (g.rows_new row m) [ inl k ↦ inl k | inr h ↦ inr (omega arith) ];
    }
grown inputs (learned c ∷ earlier) so_far count v r (inr (inl (k, answers, n, right, b))) =
    let new : Row = conflict_row inputs earlier answers n in
    let g = grown inputs earlier (with_row new so_far) (count + asked answers) v r b in
    record {
      kept_stay = λ i m. g.kept_stay i (marked_stays new.antecedents so_far.kept i m);
      rows_stay = λ row m. g.rows_stay row (there m);
      kept_above = λ i h.
          g.kept_above i (omega arith)
          ∙ marked_same new.antecedents so_far.kept i
          (λ m. let l = (row_alive (text (table inputs earlier)) (text (table inputs earlier)) (Live inputs earlier) (map complement c) answers n right i m).entered in omega arith);
      rows_new = λ row m. elim (g.rows_new row m) [
        | inl x ↦ elim (in-cons x) [
          | inl e ↦ inr (let h = ap (λ (y : Row). y.lemma_number) e in omega arith)
          | inr in_rows ↦ inl in_rows
        ]
        | inr h ↦ inr (omega arith)
      ];
    }
grown inputs (learned c ∷ earlier) so_far count v r (inr (inr (k, answers, right, e))) = accepted_not_fails e

-- what is kept stays kept
pub kept_stays :
    (inputs : List Clause) (steps : List Step) (so_far : Verdict) (count : ℕ) (v : Verdict) (r : Report)
    → Backward inputs steps so_far count (accepted v r) → (n : ℕ) → so_far.kept n ≡ true → v.kept n ≡ true
kept_stays inputs steps so_far count v r b = (grown inputs steps so_far count v r b).kept_stay

-- the numbers of some rows
abbrev numbers : List Row → List ℕ
numbers rows = map (λ row. row.lemma_number) rows

-- the rows are those of the kept lemmas, in their order
pub in_order :
    (inputs : List Clause) (steps : List Step) (so_far : Verdict) (count : ℕ) (v : Verdict) (r : Report)
    → Backward inputs steps so_far count (accepted v r)
    → numbers v.rows ≡ lemma_numbers v.kept inputs steps (numbers so_far.rows)
in_order inputs [] so_far count v r e = ap (λ (w : Verdict). numbers w.rows) (accepted_same e)
in_order inputs (struck k ∷ earlier) so_far count v r b = in_order inputs earlier so_far count v r b
in_order inputs (learned c ∷ earlier) so_far count v r (inl (out, b)) =
    let same = (grown inputs earlier so_far count v r b).kept_above (next_number inputs earlier) (omega arith) in
    rw (same ∙ out) (in_order inputs earlier so_far count v r b)
in_order inputs (learned c ∷ earlier) so_far count v r (inr (inl (k, answers, n, right, b))) =
    let more : Verdict = with_row (conflict_row inputs earlier answers n) so_far in
    let stays = kept_stays inputs earlier more (count + asked answers) v r b (next_number inputs earlier)
    (marked_stays (conflict_row inputs earlier answers n).antecedents so_far.kept (next_number inputs earlier) k) in
    rw stays (in_order inputs earlier more (count + asked answers) v r b)
in_order inputs (learned c ∷ earlier) so_far count v r (inr (inr (k, answers, right, e))) = accepted_not_fails e

module _ (highest places room : ℕ) (inputs : List Clause) (v : Verdict) (r : Report) where
  -- every kept lemma of these steps has its row
  abbrev RowsOf : List Step → Type 0
  RowsOf [] = Unit {0}
  RowsOf (struck n ∷ earlier) = RowsOf earlier
  RowsOf (learned c ∷ earlier) = (v.kept (next_number inputs earlier) ≡ true → RowOf highest inputs v earlier c) × RowsOf earlier

  -- every lemma that an accepting check keeps has its row
  rows_of :
      (steps : List Step) (so_far : Verdict) (count : ℕ) → Formed highest places room inputs steps
      → ((row : Row) → row ∈ so_far.rows → length (table inputs steps) < row.lemma_number)
      → Backward inputs steps so_far count (accepted v r) → RowsOf steps
  rows_of [] so_far count formed above e = tt
  rows_of (struck k ∷ earlier) so_far count formed above b =
      rows_of earlier so_far count (withdrawn highest places room inputs (struck k ∷ earlier) formed) above b
  rows_of (learned c ∷ earlier) so_far count formed above (inl (out, b)) =
      let same = (grown inputs earlier so_far count v r b).kept_above (next_number inputs earlier) (omega arith) in (
        λ k. absurd (true≢false (sym k ∙ same ∙ out)),
        rows_of earlier so_far count (withdrawn highest places room inputs (learned c ∷ earlier) formed) (λ row m. let h = above row m in omega arith) b,
      )
  rows_of (learned c ∷ earlier) so_far count formed above (inr (inl (k, answers, n, right, b))) =
      let before = withdrawn highest places room inputs (learned c ∷ earlier) formed in
      let new : Row = conflict_row inputs earlier answers n in
      let g = grown inputs earlier (with_row new so_far) (count + asked answers) v r b in (
        λ m. record {
          row = new;
          recorded = g.rows_stay new (here refl);
          the_only = λ other x e. elim (g.rows_new other x) [
            | inl y ↦ elim (in-cons y) [ inl p ↦ p | inr old ↦ absurd (let h = above other old in omega arith) ]
            | inr h ↦ absurd (omega arith)
          ];
          all_kept = λ i x. g.kept_stay i (marked_row new.antecedents so_far.kept i x);
          derives = conflict_derives highest places room inputs earlier c answers n before right;
        },
        rows_of earlier (with_row new so_far) (count + asked answers) before
            (all_cons (λ row. length (table inputs earlier) < row.lemma_number) (omega arith) (λ row m. let h = above row m in omega arith))
            b,
      )
  rows_of (learned c ∷ earlier) so_far count formed above (inr (inr (k, answers, right, e))) = accepted_not_fails e

  -- the same, said of any lemma of the steps
  pub every_row :
      (steps : List Step) (so_far : Verdict) (count : ℕ) → Formed highest places room inputs steps
      → ((row : Row) → row ∈ so_far.rows → length (table inputs steps) < row.lemma_number)
      → Backward inputs steps so_far count (accepted v r)
      → (c : Clause) (earlier : List Step) → LearnedAfter earlier c steps → v.kept (next_number inputs earlier) ≡ true
      → RowOf highest inputs v earlier c
  every_row steps so_far count formed above b c earlier (later, e) =
      go later (subst RowsOf e (rows_of steps so_far count formed above b))
    where
      go :
          (later : List Step) → RowsOf (later ++ (learned c ∷ earlier)) → v.kept (next_number inputs earlier) ≡ true
          → RowOf highest inputs v earlier c
      go [] rows = rows.0
      go (learned d ∷ later) rows = go later rows.1
      go (struck n ∷ later) rows = go later rows
