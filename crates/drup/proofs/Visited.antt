-- The backward check as it goes: what it keeps leads to the empty lemma by right rows, whether it accepts or fails.
use Rattle.std.proofs.Common.{◌≡◌, ℕ, suc, ◌+◌, ◌*◌, ◌<◌, ◌≤◌, true, List, [], ◌∷◌, ◌++◌, map, length, sym, refl, ap, ◌∙◌, subst, inl, inr, append_assoc, arith}
use mathlib.Core.List.Memᴰ
use mathlib.Core.List.Memᴰ.{head as here}
use mathlib.Core.List.Memᴰ.{tail as there}
use Rattle.std.proofs.lemmas.Bool.{eqb-true}
use Rattle.cnf.specs.Literals.{complement}
use Rattle.cnf.specs.Clauses.{Clause, ◌∈◌}
use Rattle.cnf.specs.Propagation.{Passes}
use Rattle.cnf.proofs.Arranging.{all_cons}
use Rattle.cnf.specs.declared.literals.Forced.{Forced}
use Rattle.drup.specs.History.{Before, LearnedAfter, Live, LiveClause, Step, learned, lemmas, next_number, struck, table, text}
use Rattle.drup.specs.Forward.{Accepts, AllPass, Machine}
use Rattle.drup.specs.WellFormed.{Formed, WellFormed}
use Rattle.drup.specs.Marks.{marked}
use Rattle.drup.specs.Backward.{Backward, Conflict, Report, Right, Row, Verdict, accepted, arcs, asked, conflict_row, fails, report, with_row}
use Rattle.drup.specs.Box.{Checks, arcs_needed, empty_kept, last}
use Rattle.drup.specs.Agreement.{FailsAt, Leads, RightRow, antecedent, is_empty}
use Rattle.drup.proofs.Numbers.{marked_cases, marked_stays}
use Rattle.drup.proofs.Trials.{nothing_derives, row_few}
use Rattle.drup.proofs.Short.{asked_few}
use Rattle.drup.proofs.WellFormed.{live_within, withdrawn}
use Rattle.drup.proofs.Kept.{accepted_not_fails, conflict_derives}

-- what leads by some rows leads by more
leads_more :
    {empty : ℕ} {rows more : List Row} {n : ℕ} → ((row : Row) → row ∈ rows → row ∈ more) → Leads empty rows n → Leads empty more n
leads_more sub (is_empty e) = is_empty e
leads_more sub (antecedent row m k l) = antecedent row (sub row m) k (leads_more sub l)

-- a step less takes away a lemma or none
fewer_lemmas : (s : Step) (earlier : List Step) (k : ℕ) → lemmas earlier * k ≤ lemmas (s ∷ earlier) * k
fewer_lemmas (learned c) earlier k = omega arith
fewer_lemmas (struck n) earlier k = omega arith

fewer_clauses : (inputs : List Clause) (s : Step) (earlier : List Step) → length (table inputs earlier) ≤ length (table inputs (s ∷ earlier))
fewer_clauses inputs (learned c) earlier = omega arith
fewer_clauses inputs (struck n) earlier = omega arith

-- a row of a number that no other has joins
joins_each :
    (row : Row) (rows : List Row) → ((r : Row) → r ∈ rows → row.lemma_number < r.lemma_number)
    → ((a b : Row) → a ∈ rows → b ∈ rows → a.lemma_number ≡ b.lemma_number → a ≡ b)
    → (a b : Row) → a ∈ (row ∷ rows) → b ∈ (row ∷ rows) → a.lemma_number ≡ b.lemma_number → a ≡ b
joins_each row rows above each a b (here p) (here q) e = p ∙ sym q
joins_each row rows above each a b (here p) (there y) e =
    let h = above b y in let g = ap (λ (r : Row). r.lemma_number) p in absurd (omega arith)
joins_each row rows above each a b (there x) (here q) e =
    let h = above a x in let g = ap (λ (r : Row). r.lemma_number) q in absurd (omega arith)
joins_each row rows above each a b (there x) (there y) e = each a b x y e

module _ (m : Machine) where
  -- the check stands before these steps, with this kept so far and so many answers given
  pub record Visited (steps : List Step) (so_far : Verdict) (count : ℕ) : Type 0 where
    pub earliest : Before steps m.steps
    pub formed : Formed m.variables m.clause_places m.literal_places m.inputs steps
    pub leads : (n : ℕ) → so_far.kept n ≡ true → Leads (last m) so_far.rows n
    pub right : (row : Row) → row ∈ so_far.rows → RightRow m row
    pub of_kept : (row : Row) → row ∈ so_far.rows → so_far.kept row.lemma_number ≡ true
    pub above : (row : Row) → row ∈ so_far.rows → length (table m.inputs steps) < row.lemma_number
    pub one_each : (a b : Row) → a ∈ so_far.rows → b ∈ so_far.rows → a.lemma_number ≡ b.lemma_number → a ≡ b
    pub answered : arcs so_far.rows ≤ count
    pub few : count + lemmas steps * suc m.variables ≤ arcs_needed m

  -- at the last step
  begin : WellFormed m → Visited m.steps (empty_kept m) 0
  begin well =
      record {
        earliest = ([], refl);
        formed = well;
        leads = λ n e. is_empty (eqb-true n (last m) e);
        right = λ r k. absurd (Memᴰ.not-nil k);
        of_kept = λ r k. absurd (Memᴰ.not-nil k);
        above = λ r k. absurd (Memᴰ.not-nil k);
        one_each = λ a b k. absurd (Memᴰ.not-nil k);
        answered = omega arith;
        few = omega arith;
      }

  -- a step is passed over
  pass :
      (s : Step) (earlier : List Step) (so_far : Verdict) (count : ℕ) → Visited (s ∷ earlier) so_far count
      → Visited earlier so_far count
  pass s earlier so_far count v =
      let (later, e) = v.earliest in
      record {
        earliest = (later ++ (s ∷ []), e ∙ sym (append_assoc later (s ∷ []) earlier));
        formed = withdrawn m.variables m.clause_places m.literal_places m.inputs (s ∷ earlier) v.formed;
        leads = v.leads;
        right = v.right;
        of_kept = v.of_kept;
        above = λ r k. let h = v.above r k in let g = fewer_clauses m.inputs s earlier in omega arith;
        one_each = v.one_each;
        answered = v.answered;
        few = let h = v.few in let k = fewer_lemmas s earlier (suc m.variables) in omega arith;
      }

  -- a trial of well-formed clauses has few answers
  asked_formed :
      (c : Clause) (earlier : List Step) (so_far : Verdict) (count : ℕ) (answers : List Forced)
      → Visited (learned c ∷ earlier) so_far count → Right m.inputs earlier (map complement c) answers
      → asked answers ≤ suc m.variables
  asked_formed c earlier so_far count answers v right =
      let before = withdrawn m.variables m.clause_places m.literal_places m.inputs (learned c ∷ earlier) v.formed in
      asked_few m.variables (Live m.inputs earlier) (text (table m.inputs earlier)) (map complement c)
      (live_within m.variables m.clause_places m.literal_places m.inputs earlier before)
      answers right

  -- a kept lemma's row is recorded, and its numbers are kept
  keep :
      (c : Clause) (earlier : List Step) (so_far : Verdict) (count : ℕ) (answers : List Forced) (n : ℕ)
      → Visited (learned c ∷ earlier) so_far count → so_far.kept (next_number m.inputs earlier) ≡ true
      → Conflict m.inputs earlier (map complement c) answers n
      → Visited earlier (with_row (conflict_row m.inputs earlier answers n) so_far) (count + asked answers)
  keep c earlier so_far count answers n v k clash =
      let row : Row = conflict_row m.inputs earlier answers n in
      let before = pass (learned c) earlier so_far count v in
      record {
        earliest = before.earliest;
        formed = before.formed;
        leads = λ i x. elim (marked_cases row.antecedents so_far.kept i x) [
          | inl in_row ↦ antecedent row (here refl) in_row (leads_more (λ r y. there y) (v.leads (next_number m.inputs earlier) k))
          | inr old ↦ leads_more (λ r y. there y) (v.leads i old)
        ];
        right =
            all_cons (RightRow m) (
              c,
              earlier,
              v.earliest,
              conflict_derives m.variables m.clause_places m.literal_places m.inputs earlier c answers n before.formed clash,
            )
            v.right;
        of_kept =
            all_cons (λ r. marked row.antecedents so_far.kept r.lemma_number ≡ true)
            (marked_stays row.antecedents so_far.kept row.lemma_number k)
            (λ r x. marked_stays row.antecedents so_far.kept r.lemma_number (v.of_kept r x));
        above =
            all_cons (λ r. length (table m.inputs earlier) < r.lemma_number) (omega arith) (λ r x. before.above r x);
        one_each = joins_each row so_far.rows (λ r x. v.above r x) v.one_each;
        answered =
            let h = v.answered in
            let more = row_few (text (table m.inputs earlier)) answers n in
            omega arith;
        few = let h = v.few in let k = asked_formed c earlier so_far count answers v clash.right in omega arith;
      }

  -- an accepting check has visited every step
  visited_all :
      (steps : List Step) (so_far : Verdict) (count : ℕ) (verdict : Verdict) (r : Report) → Visited steps so_far count
      → Backward m.inputs steps so_far count (accepted verdict r)
      → Visited [] verdict r.answer_count × (r ≡ report m.inputs verdict r.answer_count)
  visited_all [] so_far count verdict r v e =
      let same : so_far ≡ verdict = cc in
      let said : report m.inputs so_far count ≡ r = cc in
      let last_count : count ≡ r.answer_count = ap (λ (x : Report). x.answer_count) said in
      (rw (← same, ← last_count) v, sym said ∙ (λ i. report m.inputs (same i) (last_count i)))
  visited_all (struck n ∷ earlier) so_far count verdict r v b =
      visited_all earlier so_far count verdict r (pass (struck n) earlier so_far count v) b
  visited_all (learned c ∷ earlier) so_far count verdict r v (inl (k, b)) =
      visited_all earlier so_far count verdict r (pass (learned c) earlier so_far count v) b
  visited_all (learned c ∷ earlier) so_far count verdict r v (inr (inl (k, answers, n, right, b))) =
      visited_all earlier (with_row (conflict_row m.inputs earlier answers n) so_far) (count + asked answers)
      verdict r (keep c earlier so_far count answers n v k right) b
  visited_all (learned c ∷ earlier) so_far count verdict r v (inr (inr (k, answers, right, e))) = accepted_not_fails e

  -- a failing check has come to a lemma that is needed and does not pass
  fails_below :
      (step total : ℕ) (steps : List Step) (so_far : Verdict) (count : ℕ) → Visited steps so_far count
      → Backward m.inputs steps so_far count (fails step total) → FailsAt m step total
  fails_below step total [] so_far count v e = accepted_not_fails (sym e)
  fails_below step total (struck n ∷ earlier) so_far count v b =
      fails_below step total earlier so_far count (pass (struck n) earlier so_far count v) b
  fails_below step total (learned c ∷ earlier) so_far count v (inl (k, b)) =
      fails_below step total earlier so_far count (pass (learned c) earlier so_far count v) b
  fails_below step total (learned c ∷ earlier) so_far count v (inr (inl (k, answers, n, right, b))) =
      fails_below step total earlier (with_row (conflict_row m.inputs earlier answers n) so_far) (count + asked answers)
      (keep c earlier so_far count answers n v k right) b
  fails_below step total (learned c ∷ earlier) so_far count v (inr (inr (k, answers, right, e))) =
      let p : fails step total ≡ fails (suc (length earlier)) (count + asked answers) = e in
      let all : total ≡ count + asked answers = cc in
      let h = v.answered in
      let few = v.few in
      let most = asked_formed c earlier so_far count answers v right.right in
      record {
        unproved = c;
        earlier = earlier;
        stands = v.earliest;
        at_step = cc;
        rows = so_far.rows;
        rows_right = v.right;
        rows_later = v.above;
        one_each = v.one_each;
        leads = v.leads (next_number m.inputs earlier) k;
        passes_not = λ p. nothing_derives m.inputs earlier (map complement c) answers right p.0 p.1;
        arcs_answered = omega arith;
        answers_few = omega arith;
      }

  module _ (well : WellFormed m) where
    -- what an accepting check keeps leads to the empty lemma, by right rows, and it reports what it should
    pub accepted_visited :
        (verdict : Verdict) (r : Report) → Checks m (accepted verdict r)
        → Visited [] verdict r.answer_count × (r ≡ report m.inputs verdict r.answer_count)
    accepted_visited verdict r b = visited_all m.steps (empty_kept m) 0 verdict r (begin well) b

    pub fails_at : (step total : ℕ) → Checks m (fails step total) → FailsAt m step total
    fails_at step total b = fails_below step total m.steps (empty_kept m) 0 (begin well) b

-- if every lemma passes, so does one learned after these earlier steps
passes_at :
    (inputs : List Clause) (steps : List Step) (c : Clause) (earlier : List Step)
    → AllPass inputs steps → LearnedAfter earlier c steps → Passes (LiveClause inputs earlier) c
passes_at inputs steps c earlier all (later, e) = go later (subst (AllPass inputs) e all)
  where
    go : (later : List Step) → AllPass inputs (later ++ (learned c ∷ earlier)) → Passes (LiveClause inputs earlier) c
    go [] p = p.0
    go (learned d ∷ later) p = go later p.1
    go (struck n ∷ later) p = go later p

-- so where a check fails, the forward check does not accept
pub fails_not_accepts : (m : Machine) (step total : ℕ) → FailsAt m step total → Accepts m → ⊥
fails_not_accepts m step total f a = f.passes_not (passes_at m.inputs m.steps f.unproved f.earlier a.1 f.stands)
