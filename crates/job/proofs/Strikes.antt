-- A clause that is struck or lives again, and a lemma that is taken back.
use Rattle.std.proofs.Common.{Some, Option, ◌≡◌, ℕ, zero, suc, ◌+◌, ◌-◌, ◌*◌, ◌<◌, ◌≤◌, true, false, List, [], ◌∷◌, length, get_or, set, sym, refl, ap, ◌∙◌, subst, inl, inr, add-one, arith, get_or-set_other, get_or-set_same, below_more}
use Rattle.std.proofs.lemmas.List.{length-set}
use Rattle.std.proofs.lemmas.Bool.{cases_eq, eq-eqb, ne_eqb}
use Rattle.cnf.specs.Clauses.{Clause}
use Rattle.drup.specs.History.{Step, struck, table, ended, Live}
use Rattle.drup.specs.Laws.{StrikesLive, entry_of, strike_of}
use Rattle.job.specs.declared.rows.ClauseRow.{ClauseRow}
use Rattle.job.specs.declared.rows.StepRow.TheVariants.{Strike}
use Rattle.job.specs.View.{View, blank_row, blank_step, clause_at, texts_in, text_in, texts}
use Rattle.job.specs.History.{step_of, steps_from, inputs_of, before, steps_of}
use Rattle.job.specs.Sound.{step_or_none, Laid, Rising, is_next, Sound}
use Rattle.job.specs.Calls.{struck_at, with_strike}
use Rattle.job.proofs.Histories.{strikes_live, steps_most, entry_most, live_next}
use Rattle.job.proofs.Texts.{laid_same, texts_same}
use Rattle.job.proofs.Keeping.{same_inputs, same_before, same_numbered, same_unended}
use Rattle.job.proofs.Entries.{all_steps}

-- a row but for its strike
pub record SameButStruck (row was : ClauseRow) : Type 0 where
  pub start : row.start ≡ was.start
  pub len : row.len ≡ was.len
  pub entered : row.entered ≡ was.entered
  pub kept : row.kept ≡ was.kept

pub struck_row : (rows : List ClauseRow) (p : ℕ) (t : Option ℕ) (k : ℕ)
    → SameButStruck (get_or (set rows p (struck_at (get_or rows p blank_row) t)) k blank_row) (get_or rows k blank_row)
struck_row [] p t k = record { start = refl; len = refl; entered = refl; kept = refl }
struck_row (r ∷ rows) zero t zero = record { start = refl; len = refl; entered = refl; kept = refl }
struck_row (r ∷ rows) zero t (suc k) = record { start = refl; len = refl; entered = refl; kept = refl }
struck_row (r ∷ rows) (suc p) t zero = record { start = refl; len = refl; entered = refl; kept = refl }
struck_row (r ∷ rows) (suc p) t (suc k) = struck_row rows p t k

-- so its clause stays, and its mark
module _ (s : View) (o : Sound s) (p : ℕ) (t : Option ℕ) where
  pub texts_struck : texts_in (set s.rows p (struck_at (get_or s.rows p blank_row) t)) s.lits s.clauses ≡ texts s
  texts_struck =
      let a = o.rooms.0 in
      let b = o.counts.1 in
      let e = length-set s.rows p (struck_at (get_or s.rows p blank_row) t) in
      texts_same (set s.rows p (struck_at (get_or s.rows p blank_row) t)) s.rows s.lits s.lits s.clauses (omega arith) (omega arith)
      (λ k h.
      let r = struck_row s.rows p t k in
      same_clause_lem (get_or (set s.rows p (struck_at (get_or s.rows p blank_row) t)) k blank_row) (get_or s.rows k blank_row) r)
    where
      same_clause_lem : (row was : ClauseRow) → SameButStruck row was → clause_at s.lits row ≡ clause_at s.lits was
      same_clause_lem row was r = let a = r.start in let b = r.len in cc

  pub laid_struck : Laid (set s.rows p (struck_at (get_or s.rows p blank_row) t)) s.clauses s.used
  laid_struck =
      laid_same (set s.rows p (struck_at (get_or s.rows p blank_row) t)) s.rows s.clauses s.used
      (λ k h. ((struck_row s.rows p t k).start, (struck_row s.rows p t k).len))
      ∙ o.laid

-- the dates of a strike
pub dated_strike : (ins ins' : List Clause) (e e' : List Step) (n : ℕ) → ins' ≡ ins → e' ≡ struck n ∷ e → (k : ℕ)
    → (entry_of ins e k ≡ entry_of ins' e' k)
    × ((k ≡ n → ⊥) → strike_of e k ≡ strike_of e' k)
    × (k ≡ n → suc (length e) ≡ strike_of e' k)
dated_strike ins ins' e e' n p q k =
    (rw (p, q) refl, (λ ne. rw (q, ne_eqb k n ne) refl), (λ at. rw (q, eq-eqb k n at) refl))

-- a live clause is struck
module _ (s : View) (o : Sound s) (n : ℕ) (live : Live (inputs_of s) (steps_of s) n) where
  strikes_so_far : StrikesLive (inputs_of s) (steps_of s)
  strikes_so_far = strikes_live (text_in (texts s)) s.inputs s.steps s.taken o.numbered s.taken (omega arith)

  -- there is a place for the step
  pub strike_bound : s.taken < 2 * s.places
  strike_bound =
      let a = steps_most (inputs_of s) (struck n ∷ steps_of s) (live, strikes_so_far) in
      let b = all_steps s in
      let c = o.complete in
      let d = o.counts.1 in
      omega arith

  pub strike_place : s.taken < length s.steps
  strike_place = let a = strike_bound in let e = o.rooms.1 in omega arith

  pub its_place : n - 1 < s.clauses
  its_place = let a = live.numbered in let b = live.entered in let c = o.complete in omega arith

  text_stays : (k : ℕ) → 1 ≤ k → k ≤ length (table (inputs_of s) (before s s.taken)) → text_in (texts s) k ≡ text_in (texts (with_strike true s n)) k
  text_stays k low high = ap (λ (ts : List Clause). text_in ts k) (sym (texts_struck s o (n - 1) (Some (s.taken + 1))))

  steps_kept : (j : ℕ) → j < s.taken → get_or s.steps j blank_step ≡ get_or (set s.steps s.taken (Strike n)) j blank_step
  steps_kept j h = sym (get_or-set_other s.steps s.taken j (Strike n) blank_step (λ at. omega arith))

  pub inputs_strike : inputs_of (with_strike true s n) ≡ inputs_of s
  inputs_strike =
      same_inputs s o s.taken (omega arith) (text_in (texts (with_strike true s n))) text_stays (set s.steps s.taken (Strike n)) steps_kept

  before_strike : (k : ℕ) → k ≤ s.taken → before (with_strike true s n) k ≡ before s k
  before_strike =
      same_before s o s.taken (omega arith) (text_in (texts (with_strike true s n))) text_stays (set s.steps s.taken (Strike n)) steps_kept

  pub steps_strike : steps_of (with_strike true s n) ≡ struck n ∷ steps_of s
  steps_strike =
      let row = ap (step_of (text_in (texts (with_strike true s n)))) (get_or-set_same s.steps s.taken (Strike n) blank_step strike_place) in
      let rest = before_strike s.taken (omega arith) in
      ap (steps_from (text_in (texts (with_strike true s n))) (set s.steps s.taken (Strike n))) (add-one s.taken) ∙ cc

  pub sound_strike : ended (steps_of s) ≡ false → Sound (with_strike true s n)
  sound_strike on =
      let a = o.rooms.0 in
      let b = o.counts.1 in
      let d = o.complete in
      let g = o.rooms.1 in
      let all = all_steps s in
      let place = its_place in
      let low = live.numbered in
      let step = get_or-set_same s.steps s.taken (Strike n) blank_step strike_place in
      let long = length-set s.rows (n - 1) (struck_at (get_or s.rows (n - 1) blank_row) (Some (s.taken + 1))) in
      let longer = length-set s.steps s.taken (Strike n) in
      record {
        range = o.range;
        rooms = (omega arith, omega arith, o.rooms.2);
        counts = (o.counts.0, o.counts.1, (let bound = strike_bound in omega arith), o.counts.3);
        laid = laid_struck s o (n - 1) (Some (s.taken + 1));
        rising = subst (λ (ts : List Clause). Rising s.variables ts s.clauses) (sym (texts_struck s o (n - 1) (Some (s.taken + 1)))) o.rising;
        complete =
            d
            ∙ ap (λ (es : List Step). length (table (inputs_of s) es)) (sym steps_strike)
            ∙ ap (λ (ins : List Clause). length (table ins (steps_of (with_strike true s n)))) (sym inputs_strike);
        numbered =
            below_more
            (λ k. is_next (inputs_of (with_strike true s n)) (before (with_strike true s n) k) (get_or (set s.steps s.taken (Strike n)) k blank_step) ≡ true)
            s.taken
            (same_numbered s o s.taken (omega arith) (text_in (texts (with_strike true s n))) text_stays (set s.steps s.taken (Strike n)) steps_kept)
            (let i = inputs_strike in
            let t = before_strike s.taken (omega arith) in
            let e = live_next (inputs_of s) (steps_of s) n live in
            ap (is_next (inputs_of (with_strike true s n)) (before (with_strike true s n) s.taken)) step
            ∙ ap (λ (ins : List Clause). is_next ins (before (with_strike true s n) s.taken) (Strike n)) i
            ∙ ap (λ (es : List Step). is_next (inputs_of s) es (Strike n)) t
            ∙ e);
        unended =
            below_more
            (λ k. ended (before (with_strike true s n) k) ≡ false)
            s.taken
            (same_unended s o s.taken (omega arith) (text_in (texts (with_strike true s n))) text_stays (set s.steps s.taken (Strike n)) steps_kept)
            (ap ended (before_strike s.taken (omega arith)) ∙ on);
        dated = λ k h.
            let r = struck_row s.rows (n - 1) (Some (s.taken + 1)) k in
            let was = o.dated k h in
            let m = dated_strike (inputs_of s) (inputs_of (with_strike true s n)) (steps_of s) (steps_of (with_strike true s n)) n inputs_strike steps_strike (suc k) in
            (r.entered ∙ was.0 ∙ m.0, struck_date k h);
        ordered = λ k h step e.
            let r = struck_row s.rows (n - 1) (Some (s.taken + 1)) k in
            let was = o.dated k h in
            let most = entry_most (inputs_of s) (steps_of s) (suc k) in
            let q = r.entered in
            elim (cases_eq k (n - 1)) [
              | inl at ↦
                  let new : (get_or (set s.rows (n - 1) (struck_at (get_or s.rows (n - 1) blank_row) (Some (s.taken + 1)))) k blank_row).struck ≡ Some (s.taken + 1) = struck_here k at in
                  let its : Some step ≡ Some (s.taken + 1) = sym e ∙ new in
                  let same : step ≡ s.taken + 1 = cc in
                  omega (arith, was.0)
              | inr ne ↦
                  let other = get_or-set_other s.rows (n - 1) k (struck_at (get_or s.rows (n - 1) blank_row) (Some (s.taken + 1))) blank_row ne in
                  let same = ap (λ (x : ClauseRow). x.struck) other in
                  let old = o.ordered k h step (sym same ∙ e) in
                  omega arith
            ];
      }
    where
      struck_here : (k : ℕ) → k ≡ n - 1
          → (get_or (set s.rows (n - 1) (struck_at (get_or s.rows (n - 1) blank_row) (Some (s.taken + 1)))) k blank_row).struck ≡ Some (s.taken + 1)
      struck_here k at =
          let a = o.rooms.0 in
          let b = o.counts.1 in
          let place = its_place in
          ap (λ (j : ℕ). (get_or (set s.rows (n - 1) (struck_at (get_or s.rows (n - 1) blank_row) (Some (s.taken + 1)))) j blank_row).struck) at
          ∙ ap (λ (x : ClauseRow). x.struck) (get_or-set_same s.rows (n - 1) (struck_at (get_or s.rows (n - 1) blank_row) (Some (s.taken + 1))) blank_row (omega arith))

      struck_date : (k : ℕ) → k < s.clauses
          → (get_or (set s.rows (n - 1) (struck_at (get_or s.rows (n - 1) blank_row) (Some (s.taken + 1)))) k blank_row).struck
          ≡ step_or_none (strike_of (steps_of (with_strike true s n)) (suc k))
      struck_date k h =
          let low = live.numbered in
          let all = all_steps s in
          let was = o.dated k h in
          let m = dated_strike (inputs_of s) (inputs_of (with_strike true s n)) (steps_of s) (steps_of (with_strike true s n)) n inputs_strike steps_strike (suc k) in
          elim (cases_eq k (n - 1)) [
            | inl at ↦
                let count : s.taken + 1 ≡ suc (length (steps_of s)) = omega arith in
                struck_here k at ∙ ap Some count ∙ ap step_or_none (m.2 (omega arith))
            | inr ne ↦
                let other = get_or-set_other s.rows (n - 1) k (struck_at (get_or s.rows (n - 1) blank_row) (Some (s.taken + 1))) blank_row ne in
                ap (λ (x : ClauseRow). x.struck) other ∙ was.1 ∙ ap step_or_none (m.1 (λ at. ne (omega arith)))
          ]
