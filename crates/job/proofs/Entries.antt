-- A clause that is entered, as an input clause or as a lemma.
use Rattle.std.proofs.Common.{◌≡◌, ℕ, suc, ◌+◌, ◌*◌, ◌<◌, ◌≤◌, true, false, ◌≢◌, List, [], ◌∷◌, ◌++◌, length, get_or, set, sym, refl, ap, ◌∙◌, subst, add-one, arith, get_or-set_other, get_or-set_same, below_more}
use lib.Seq.{paste}
use Rattle.std.proofs.lemmas.List.{length-set, get_or_push, get_or_append_left}
use Rattle.std.proofs.lemmas.List.Edits.{length-paste}
use Rattle.std.proofs.lemmas.Bool.{and_from, eq-eqb, ne_eqb}
use Rattle.cnf.specs.Clauses.{Clause}
use Rattle.cnf.specs.Ascending.{ascending}
use Rattle.drup.specs.History.{Step, learned, table, next_number, ended}
use Rattle.drup.specs.Laws.{StrikesLive, entry_of, strike_of}
use Rattle.drup.proofs.Living.{never_yet}
use Rattle.job.specs.declared.rows.ClauseRow.{ClauseRow}
use Rattle.job.specs.declared.rows.StepRow.{StepRow}
use Rattle.job.specs.declared.rows.StepRow.TheVariants.{Lemma}
use Rattle.job.specs.View.{View, blank_row, blank_step, texts_in, text_in, texts}
use Rattle.job.specs.History.{down_from, step_of, steps_from, inputs_of, before, steps_of}
use Rattle.job.specs.Records.{InOrder}
use Rattle.job.specs.Sound.{step_or_none, laid_to, Laid, Rising, is_next, Ordered, Sound}
use Rattle.job.specs.Calls.{new_row, with_input, with_lemma}
use Rattle.job.proofs.Histories.{length_down, length_steps, strikes_live, steps_most, strike_none}
use Rattle.job.proofs.Texts.{length_texts, laid_same, texts_entered, text_older, text_newest}
use Rattle.job.proofs.Keeping.{same_inputs, same_before, same_numbered, same_unended}

-- how long a history is
pub all_steps : (s : View) → length (steps_of s) ≡ s.taken
all_steps s = length_steps (text_in (texts s)) s.steps s.taken

-- a lemma changes no date of the clauses before it
dated_lemma : (ins ins' : List Clause) (e e' : List Step) (c : Clause) → ins' ≡ ins → e' ≡ learned c ∷ e
    → (k : ℕ) → k < length (table ins e)
    → (entry_of ins e (suc k) ≡ entry_of ins' e' (suc k)) × (strike_of e (suc k) ≡ strike_of e' (suc k))
dated_lemma ins ins' e e' c p q k h =
    let ne = ne_eqb (suc k) (next_number ins e) (λ at. omega arith) in
    (rw (p, q, ne) refl, rw q refl)

-- its own dates
dated_new : (ins ins' : List Clause) (e e' : List Step) (c : Clause) → ins' ≡ ins → e' ≡ learned c ∷ e → StrikesLive ins e
    → (k t : ℕ) → k ≡ length (table ins e) → t ≡ length e
    → (t + 1 ≡ entry_of ins' e' (suc k)) × (0 ≡ strike_of e' (suc k))
dated_new ins ins' e e' c p q strikes k t at long =
    let same = eq-eqb (suc k) (next_number ins e) (omega arith) in
    let never = strike_none e (suc k) (never_yet ins (suc k) e strikes (omega arith)) in
    (rw (p, q, same) (omega arith), rw q (sym never))

-- before the first step nothing has a date
dated_input : (ins ins' : List Clause) (e e' : List Step) (n : ℕ) → e ≡ [] → e' ≡ []
    → (entry_of ins e n ≡ entry_of ins' e' n) × (strike_of e n ≡ strike_of e' n)
dated_input ins ins' e e' n p q = (rw (p, q) refl, rw (p, q) refl)

undated : (ins : List Clause) (e : List Step) (n : ℕ) → e ≡ [] → (0 ≡ entry_of ins e n) × (0 ≡ strike_of e n)
undated ins e n p = (rw p refl, rw p refl)

module _ (s : View) (o : Sound s) (c : Clause) (entered : ℕ) (place : s.clauses < s.places) (fits : s.used + length c ≤ s.room) where
  -- the clauses
  pub texts_now : texts_in (set s.rows s.clauses (new_row s c entered)) (paste s.lits s.used c (length c)) (s.clauses + 1) ≡ texts s ++ c ∷ []
  texts_now =
      let a = o.rooms.0 in
      let b = o.rooms.2 in
      texts_entered s.lits s.used c (omega arith) s.rows s.clauses (new_row s c entered) (omega arith) o.laid refl refl

  all_texts : length (texts s) ≡ s.clauses
  all_texts = let a = o.rooms.0 in length_texts s.rows s.lits s.clauses (omega arith)

  pub agree_now : (n : ℕ) → 1 ≤ n → n ≤ s.clauses
      → text_in (texts s) n ≡ text_in (texts_in (set s.rows s.clauses (new_row s c entered)) (paste s.lits s.used c (length c)) (s.clauses + 1)) n
  agree_now n low high =
      let e = all_texts in
      sym (ap (λ (ts : List Clause). text_in ts n) texts_now ∙ text_older (texts s) c n low (omega arith))

  pub newest_now :
      text_in (texts_in (set s.rows s.clauses (new_row s c entered)) (paste s.lits s.used c (length c)) (s.clauses + 1)) (suc s.clauses) ≡ c
  newest_now = ap (λ (ts : List Clause). text_in ts (suc s.clauses)) texts_now ∙ text_newest (texts s) c s.clauses all_texts

  -- the places
  laid_now : Laid (set s.rows s.clauses (new_row s c entered)) (s.clauses + 1) (s.used + length c)
  laid_now =
      let a = o.rooms.0 in
      let room : s.clauses < length s.rows = omega arith in
      let row = get_or-set_same s.rows s.clauses (new_row s c entered) blank_row room in
      let old : laid_to (set s.rows s.clauses (new_row s c entered)) s.clauses s.used ≡ true =
      laid_same (set s.rows s.clauses (new_row s c entered)) s.rows s.clauses s.used
      (λ k h.
      let e = get_or-set_other s.rows s.clauses k (new_row s c entered) blank_row (λ at. omega arith) in
      (ap (λ (r : ClauseRow). r.start) e, ap (λ (r : ClauseRow). r.len) e))
      ∙ o.laid in
      rw (add-one, row) (and_from _ _ (eq-eqb (s.used + length c) (s.used + length c) refl) old)

  rising_now : ascending 0 s.variables c ≡ true
      → Rising s.variables (texts_in (set s.rows s.clauses (new_row s c entered)) (paste s.lits s.used c (length c)) (s.clauses + 1)) (s.clauses + 1)
  rising_now up =
      let e = all_texts in
      subst (λ (ts : List Clause). Rising s.variables ts (s.clauses + 1)) (sym texts_now)
      (below_more (λ k. ascending 0 s.variables (get_or (texts s ++ c ∷ []) k []) ≡ true) s.clauses
      (λ k h. ap (ascending 0 s.variables) (get_or_append_left (texts s) (c ∷ []) [] k (omega arith)) ∙ o.rising k h)
      (ap (ascending 0 s.variables) (get_or_push (texts s) c [] s.clauses e) ∙ up))

  ordered_now : Ordered (set s.rows s.clauses (new_row s c entered)) (s.clauses + 1)
  ordered_now =
      let a = o.rooms.0 in
      let room : s.clauses < length s.rows = omega arith in
      below_more
      (λ k. InOrder (get_or (set s.rows s.clauses (new_row s c entered)) k blank_row))
      s.clauses
      (λ k h. let ne : k ≢ s.clauses = omega arith in rw get_or-set_other (o.ordered k h))
      (rw get_or-set_same (λ step e. let z : ◌≡◌ {A = ℕ} 0 1 = cc in absurd (omega arith)))

-- an input clause
module _ (s : View) (o : Sound s) (c : Clause) (first : s.taken ≡ 0) (place : s.clauses < s.places) (fits : s.used + length c ≤ s.room) where
  none_yet : (text : ℕ → Clause) (steps : List StepRow) → steps_from text steps s.taken ≡ []
  none_yet text steps = ap (steps_from text steps) first

  -- so far there are only input clauses
  all_inputs : s.clauses ≡ s.inputs
  all_inputs =
      o.complete
      ∙ ap (λ (e : List Step). length (table (inputs_of s) e)) (none_yet (text_in (texts s)) s.steps)
      ∙ length_down (text_in (texts s)) s.inputs

  pub inputs_input : inputs_of (with_input true s c) ≡ c ∷ inputs_of s
  inputs_input =
      let e = all_inputs in
      let n = newest_now s o c 0 place fits in
      let rest =
      same_inputs s o 0 (omega arith) (text_in (texts (with_input true s c)))
      (λ n low high. agree_now s o c 0 place fits n low (let l = length_down (text_in (texts s)) s.inputs in omega arith)) s.steps (λ j h. absurd (omega arith)) in
      ap (down_from (text_in (texts (with_input true s c)))) (add-one s.inputs)
      ∙ ap (λ (k : ℕ). text_in (texts (with_input true s c)) (suc k) ∷ down_from (text_in (texts (with_input true s c))) s.inputs) (sym e)
      ∙ cc

  pub steps_input : steps_of (with_input true s c) ≡ steps_of s
  steps_input = none_yet (text_in (texts (with_input true s c))) s.steps ∙ sym (none_yet (text_in (texts s)) s.steps)

  pub sound_input : ascending 0 s.variables c ≡ true → Sound (with_input true s c)
  sound_input up =
      let a = o.rooms.0 in
      let b = o.rooms.2 in
      let none = none_yet (text_in (texts (with_input true s c))) s.steps in
      let none' = none_yet (text_in (texts s)) s.steps in
      let row = get_or-set_same s.rows s.clauses (new_row s c 0) blank_row (omega arith) in
      let long = length-set s.rows s.clauses (new_row s c 0) in
      let wide = length-paste s.lits s.used c (length c) (omega arith) (omega arith) in
      record {
        range = o.range;
        rooms = (omega arith, o.rooms.1, omega arith);
        counts = (omega arith, omega arith, omega arith, omega arith);
        laid = laid_now s o c 0 place fits;
        rising = rising_now s o c 0 place fits up;
        complete =
            (let e : s.clauses + 1 ≡ length (c ∷ inputs_of s) = (let f = all_inputs in let l = length_down (text_in (texts s)) s.inputs in omega arith) in
            e
            ∙ ap length (sym inputs_input)
            ∙ ap (λ (e : List Step). length (table (inputs_of (with_input true s c)) e)) (sym none));
        numbered = λ k h. absurd (omega arith);
        unended = λ k h. absurd (omega arith);
        dated =
            below_more
            (λ k. ((get_or (set s.rows s.clauses (new_row s c 0)) k blank_row).entered ≡ entry_of (inputs_of (with_input true s c)) (steps_of (with_input true s c)) (suc k))
            × ((get_or (set s.rows s.clauses (new_row s c 0)) k blank_row).struck ≡ step_or_none (strike_of (steps_of (with_input true s c)) (suc k))))
            s.clauses
            (λ k h.
            let other = get_or-set_other s.rows s.clauses k (new_row s c 0) blank_row (λ at. omega arith) in
            let d = o.dated k h in
            let m = dated_input (inputs_of s) (inputs_of (with_input true s c)) (steps_of s) (steps_of (with_input true s c)) (suc k) none' none in
            (ap (λ (r : ClauseRow). r.entered) other ∙ d.0 ∙ m.0, ap (λ (r : ClauseRow). r.struck) other ∙ d.1 ∙ ap step_or_none m.1))
            (let u = undated (inputs_of (with_input true s c)) (steps_of (with_input true s c)) (suc s.clauses) none in
            (ap (λ (r : ClauseRow). r.entered) row ∙ u.0, ap (λ (r : ClauseRow). r.struck) row ∙ ap step_or_none u.1));
        ordered = ordered_now s o c 0 place fits;
      }

-- a lemma
module _ (s : View) (o : Sound s) (c : Clause) (place : s.clauses < s.places) (fits : s.used + length c ≤ s.room) where
  strikes_so_far : StrikesLive (inputs_of s) (steps_of s)
  strikes_so_far = strikes_live (text_in (texts s)) s.inputs s.steps s.taken o.numbered s.taken (omega arith)

  -- there is a place for the step
  pub step_bound : s.taken < 2 * s.places
  step_bound =
      let a = steps_most (inputs_of s) (steps_of s) strikes_so_far in
      let b = all_steps s in
      let d = o.complete in
      omega arith

  pub step_place : s.taken < length s.steps
  step_place = let a = step_bound in let e = o.rooms.1 in omega arith

  agree_lemma : (n : ℕ) → 1 ≤ n → n ≤ length (table (inputs_of s) (before s s.taken)) → text_in (texts s) n ≡ text_in (texts (with_lemma true s c)) n
  agree_lemma n low high = agree_now s o c (s.taken + 1) place fits n low (let e = o.complete in omega arith)

  steps_kept : (j : ℕ) → j < s.taken → get_or s.steps j blank_step ≡ get_or (set s.steps s.taken (Lemma (s.clauses + 1))) j blank_step
  steps_kept j h = sym (get_or-set_other s.steps s.taken j (Lemma (s.clauses + 1)) blank_step (λ at. omega arith))

  pub inputs_lemma : inputs_of (with_lemma true s c) ≡ inputs_of s
  inputs_lemma =
      same_inputs s o s.taken (omega arith) (text_in (texts (with_lemma true s c))) agree_lemma
      (set s.steps s.taken (Lemma (s.clauses + 1))) steps_kept

  before_lemma : (k : ℕ) → k ≤ s.taken → before (with_lemma true s c) k ≡ before s k
  before_lemma =
      same_before s o s.taken (omega arith) (text_in (texts (with_lemma true s c))) agree_lemma
      (set s.steps s.taken (Lemma (s.clauses + 1))) steps_kept

  pub steps_lemma : steps_of (with_lemma true s c) ≡ learned c ∷ steps_of s
  steps_lemma =
      let row = get_or-set_same s.steps s.taken (Lemma (s.clauses + 1)) blank_step step_place in
      let n = newest_now s o c (s.taken + 1) place fits in
      let rest = before_lemma s.taken (omega arith) in
      let head : step_of (text_in (texts (with_lemma true s c))) (get_or (set s.steps s.taken (Lemma (s.clauses + 1))) s.taken blank_step) ≡ learned c =
      ap (step_of (text_in (texts (with_lemma true s c)))) row
      ∙ ap (λ (k : ℕ). learned (text_in (texts (with_lemma true s c)) k)) (add-one s.clauses)
      ∙ ap learned n in
      ap (steps_from (text_in (texts (with_lemma true s c))) (set s.steps s.taken (Lemma (s.clauses + 1)))) (add-one s.taken)
      ∙ cc

  pub sound_lemma : ended (steps_of s) ≡ false → ascending 0 s.variables c ≡ true → Sound (with_lemma true s c)
  sound_lemma on up =
      let a = o.rooms.0 in
      let b = o.rooms.2 in
      let d = o.complete in
      let g = o.rooms.1 in
      let bound = step_bound in
      let all = all_steps s in
      let row = get_or-set_same s.rows s.clauses (new_row s c (s.taken + 1)) blank_row (omega arith) in
      let step = get_or-set_same s.steps s.taken (Lemma (s.clauses + 1)) blank_step step_place in
      let long = length-set s.rows s.clauses (new_row s c (s.taken + 1)) in
      let longer = length-set s.steps s.taken (Lemma (s.clauses + 1)) in
      let wide = length-paste s.lits s.used c (length c) (omega arith) (omega arith) in
      record {
        range = o.range;
        rooms = (omega arith, omega arith, omega arith);
        counts = (omega arith, omega arith, omega arith, omega arith);
        laid = laid_now s o c (s.taken + 1) place fits;
        rising = rising_now s o c (s.taken + 1) place fits up;
        complete =
            (let e : s.clauses + 1 ≡ length (table (inputs_of s) (learned c ∷ steps_of s)) = omega arith in
            e
            ∙ ap (λ (es : List Step). length (table (inputs_of s) es)) (sym steps_lemma)
            ∙ ap (λ (ins : List Clause). length (table ins (steps_of (with_lemma true s c)))) (sym inputs_lemma));
        numbered =
            below_more
            (λ k. is_next (inputs_of (with_lemma true s c)) (before (with_lemma true s c) k) (get_or (set s.steps s.taken (Lemma (s.clauses + 1))) k blank_step) ≡ true)
            s.taken
            (same_numbered s o s.taken (omega arith) (text_in (texts (with_lemma true s c))) agree_lemma
            (set s.steps s.taken (Lemma (s.clauses + 1))) steps_kept)
            (let i = inputs_lemma in
            let t = before_lemma s.taken (omega arith) in
            let e = eq-eqb (s.clauses + 1) (next_number (inputs_of s) (steps_of s)) (omega arith) in
            ap (is_next (inputs_of (with_lemma true s c)) (before (with_lemma true s c) s.taken)) step ∙ cc);
        unended =
            below_more
            (λ k. ended (before (with_lemma true s c) k) ≡ false)
            s.taken
            (same_unended s o s.taken (omega arith) (text_in (texts (with_lemma true s c))) agree_lemma
            (set s.steps s.taken (Lemma (s.clauses + 1))) steps_kept)
            (ap ended (before_lemma s.taken (omega arith)) ∙ on);
        dated =
            below_more
            (λ k. ((get_or (set s.rows s.clauses (new_row s c (s.taken + 1))) k blank_row).entered ≡ entry_of (inputs_of (with_lemma true s c)) (steps_of (with_lemma true s c)) (suc k))
            × ((get_or (set s.rows s.clauses (new_row s c (s.taken + 1))) k blank_row).struck ≡ step_or_none (strike_of (steps_of (with_lemma true s c)) (suc k))))
            s.clauses
            (λ k h.
            let other = get_or-set_other s.rows s.clauses k (new_row s c (s.taken + 1)) blank_row (λ at. omega arith) in
            let was = o.dated k h in
            let m = dated_lemma (inputs_of s) (inputs_of (with_lemma true s c)) (steps_of s) (steps_of (with_lemma true s c)) c inputs_lemma steps_lemma k (omega arith) in
            (ap (λ (r : ClauseRow). r.entered) other ∙ was.0 ∙ m.0, ap (λ (r : ClauseRow). r.struck) other ∙ was.1 ∙ ap step_or_none m.1))
            (let u = dated_new (inputs_of s) (inputs_of (with_lemma true s c)) (steps_of s) (steps_of (with_lemma true s c)) c inputs_lemma steps_lemma strikes_so_far s.clauses s.taken d (sym all) in
            (ap (λ (r : ClauseRow). r.entered) row ∙ u.0, ap (λ (r : ClauseRow). r.struck) row ∙ ap step_or_none u.1));
        ordered = ordered_now s o c (s.taken + 1) place fits;
      }
