-- The latest step is taken back.
use Rattle.std.proofs.Common.{◌≡◌, ℕ, suc, ◌-◌, ◌<◌, ◌≤◌, true, List, ◌∷◌, length, get_or, set, sym, refl, ap, ◌∙◌, subst, inl, inr, arith, get_or-set_other, get_or-set_same, Some, None}
use Rattle.std.proofs.lemmas.List.{length-set}
use Rattle.std.proofs.lemmas.Bool.{cases_eq, ne_eqb}
use Rattle.cnf.specs.Clauses.{Clause}
use Rattle.cnf.specs.Ascending.{ascending}
use Rattle.drup.specs.History.{Step, learned, struck, table, next_number, Live}
use Rattle.drup.specs.Laws.{entry_of, strike_of}
use Rattle.drup.specs.Forward.{without_last}
use Rattle.job.specs.declared.rows.ClauseRow.{ClauseRow}
use Rattle.job.specs.declared.rows.StepRow.{StepRow}
use Rattle.job.specs.declared.rows.StepRow.TheVariants.{Lemma, Strike}
use Rattle.job.specs.View.{View, blank_row, texts_in, text_in, texts}
use Rattle.job.specs.History.{step_of, inputs_of, before, steps_of}
use Rattle.job.specs.Sound.{step_or_none, laid_to, Rising, is_next, Sound}
use Rattle.job.specs.Calls.{struck_at, last_step, without}
use Rattle.job.proofs.Histories.{inputs_within, strike_none, next_lemma, next_strike}
use Rattle.job.proofs.Texts.{get_or_texts, laid_last, text_before}
use Rattle.job.proofs.Keeping.{same_inputs, same_before, same_numbered, same_unended}
use Rattle.job.proofs.Strikes.{struck_row, texts_struck, laid_struck, dated_strike}

-- a lemma gave no date to the clauses before it
dated_without : (ins ins' : List Clause) (e e' later : List Step) (c : Clause) → ins' ≡ ins → e' ≡ e → later ≡ learned c ∷ e
    → (k : ℕ) → k < length (table ins e)
    → (entry_of ins later (suc k) ≡ entry_of ins' e' (suc k)) × (strike_of later (suc k) ≡ strike_of e' (suc k))
dated_without ins ins' e e' later c p q r k h =
    let ne = ne_eqb (suc k) (next_number ins e) (λ at. omega arith) in
    (rw (p, q, r, ne) refl, rw (q, r) refl)

module _ (s : View) (o : Sound s) (some : 0 < s.taken) where
  -- the steps are the latest and those before it
  pub steps_split : steps_of s ≡ step_of (text_in (texts s)) (last_step s) ∷ before s (s.taken - 1)
  steps_split = let e : s.taken ≡ suc (s.taken - 1) = omega arith in ap (before s) e

  pub without_last_lem : without_last (steps_of s) ≡ before s (s.taken - 1)
  without_last_lem = ap without_last steps_split

  is_next_lem : is_next (inputs_of s) (before s (s.taken - 1)) (last_step s) ≡ true
  is_next_lem = o.numbered (s.taken - 1) (omega arith)

  -- a lemma
  module _ (n : ℕ) (last : last_step s ≡ Lemma n) where
    number : n ≡ next_number (inputs_of s) (before s (s.taken - 1))
    number = next_lemma (inputs_of s) (before s (s.taken - 1)) (last_step s) n is_next_lem last

    split_lemma : steps_of s ≡ learned (text_in (texts s) n) ∷ before s (s.taken - 1)
    split_lemma = steps_split ∙ ap (λ (row : StepRow). step_of (text_in (texts s)) row ∷ before s (s.taken - 1)) last

    -- it is the last clause
    pub last_clause : s.clauses ≡ suc (n - 1)
    last_clause =
        let e = o.complete ∙ ap (λ (es : List Step). length (table (inputs_of s) es)) split_lemma in
        let f = number in
        omega arith

    pub number_positive : 1 ≤ n
    number_positive = let f = number in omega arith

    room_before : suc (n - 1) ≤ length s.rows
    room_before = let a = o.rooms.0 in let b = o.counts.1 in let e = last_clause in omega arith

    agree_before : (k : ℕ) → 1 ≤ k → k ≤ length (table (inputs_of s) (before s (s.taken - 1)))
        → text_in (texts s) k ≡ text_in (texts (without true s (Lemma n))) k
    agree_before k low high =
        let f = number in
        ap (λ (c : ℕ). text_in (texts_in s.rows s.lits c) k) last_clause
        ∙ text_before s.rows s.lits (n - 1) room_before k low (omega arith)

    pub inputs_without_lemma : inputs_of (without true s (Lemma n)) ≡ inputs_of s
    inputs_without_lemma =
        same_inputs s o (s.taken - 1) (omega arith) (text_in (texts (without true s (Lemma n)))) agree_before s.steps (λ j h. refl)

    before_without_lemma : (k : ℕ) → k ≤ s.taken - 1 → before (without true s (Lemma n)) k ≡ before s k
    before_without_lemma =
        same_before s o (s.taken - 1) (omega arith) (text_in (texts (without true s (Lemma n)))) agree_before s.steps (λ j h. refl)

    pub steps_without_lemma : steps_of (without true s (Lemma n)) ≡ before s (s.taken - 1)
    steps_without_lemma = before_without_lemma (s.taken - 1) (omega arith)

    inputs_before : s.inputs ≤ n - 1
    inputs_before =
        let f = number in
        let h = inputs_within (text_in (texts s)) s.inputs s.steps (s.taken - 1) (λ k b. o.numbered k (omega arith)) in
        omega arith

    pub sound_without_lemma : Sound (without true s (Lemma n))
    sound_without_lemma =
        let a = o.rooms.0 in
        let b = o.counts.1 in
        let u = o.counts.3 in
        let e = last_clause in
        let f = number in
        let l = laid_last s.rows (n - 1) s.used (subst (λ (c : ℕ). laid_to s.rows c s.used ≡ true) e o.laid) in
        let end = l.0 in
        record {
          range = o.range;
          rooms = o.rooms;
          counts = (inputs_before, omega arith, (let most = o.counts.2 in omega arith), omega arith);
          laid = l.1;
          rising = λ k h.
              ap (ascending 0 s.variables)
              (get_or_texts s.rows s.lits (n - 1) (omega arith) k h ∙ sym (get_or_texts s.rows s.lits s.clauses (omega arith) k (omega arith)))
              ∙ o.rising k (omega arith);
          complete =
              (let c : n - 1 ≡ length (table (inputs_of s) (before s (s.taken - 1))) = omega arith in
              c
              ∙ ap (λ (es : List Step). length (table (inputs_of s) es)) (sym steps_without_lemma)
              ∙ ap (λ (ins : List Clause). length (table ins (steps_of (without true s (Lemma n))))) (sym inputs_without_lemma));
          numbered =
              same_numbered s o (s.taken - 1) (omega arith) (text_in (texts (without true s (Lemma n)))) agree_before s.steps (λ j h. refl);
          unended =
              same_unended s o (s.taken - 1) (omega arith) (text_in (texts (without true s (Lemma n)))) agree_before s.steps (λ j h. refl);
          dated = λ k h.
              let was = o.dated k (omega arith) in
              let m = dated_without (inputs_of s) (inputs_of (without true s (Lemma n))) (before s (s.taken - 1)) (steps_of (without true s (Lemma n))) (steps_of s) (text_in (texts s) n)
              inputs_without_lemma steps_without_lemma split_lemma k (omega arith) in
              (was.0 ∙ m.0, was.1 ∙ ap step_or_none m.1);
          ordered = λ k h. o.ordered k (omega arith);
        }

  -- a strike
  module _ (n : ℕ) (last : last_step s ≡ Strike n) where
    pub was_live : Live (inputs_of s) (before s (s.taken - 1)) n
    was_live = next_strike (inputs_of s) (before s (s.taken - 1)) (last_step s) n is_next_lem last

    split_strike : steps_of s ≡ struck n ∷ before s (s.taken - 1)
    split_strike = steps_split ∙ ap (λ (row : StepRow). step_of (text_in (texts s)) row ∷ before s (s.taken - 1)) last

    complete_before : s.clauses ≡ length (table (inputs_of s) (before s (s.taken - 1)))
    complete_before = o.complete ∙ ap (λ (es : List Step). length (table (inputs_of s) es)) split_strike

    pub struck_place : n - 1 < s.clauses
    struck_place = let a = was_live.numbered in let b = was_live.entered in let c = complete_before in omega arith

    pub struck_number : 1 ≤ n
    struck_number = was_live.numbered

    text_stays : (k : ℕ) → 1 ≤ k → k ≤ length (table (inputs_of s) (before s (s.taken - 1)))
        → text_in (texts s) k ≡ text_in (texts (without true s (Strike n))) k
    text_stays k low high = ap (λ (ts : List Clause). text_in ts k) (sym (texts_struck s o (n - 1) None))

    pub inputs_without_strike : inputs_of (without true s (Strike n)) ≡ inputs_of s
    inputs_without_strike =
        same_inputs s o (s.taken - 1) (omega arith) (text_in (texts (without true s (Strike n)))) text_stays s.steps (λ j h. refl)

    before_without_strike : (k : ℕ) → k ≤ s.taken - 1 → before (without true s (Strike n)) k ≡ before s k
    before_without_strike =
        same_before s o (s.taken - 1) (omega arith) (text_in (texts (without true s (Strike n)))) text_stays s.steps (λ j h. refl)

    pub steps_without_strike : steps_of (without true s (Strike n)) ≡ before s (s.taken - 1)
    steps_without_strike = before_without_strike (s.taken - 1) (omega arith)

    -- the row lives again
    alive_here : (k : ℕ) → k ≡ n - 1 → (get_or (set s.rows (n - 1) (struck_at (get_or s.rows (n - 1) blank_row) None)) k blank_row).struck ≡ None
    alive_here k at =
        let a = o.rooms.0 in
        let b = o.counts.1 in
        let place = struck_place in
        ap (λ (j : ℕ). (get_or (set s.rows (n - 1) (struck_at (get_or s.rows (n - 1) blank_row) None)) j blank_row).struck) at
        ∙ ap (λ (x : ClauseRow). x.struck) (get_or-set_same s.rows (n - 1) (struck_at (get_or s.rows (n - 1) blank_row) None) blank_row (omega arith))

    alive_date : (k : ℕ) → k < s.clauses
        → (get_or (set s.rows (n - 1) (struck_at (get_or s.rows (n - 1) blank_row) None)) k blank_row).struck
        ≡ step_or_none (strike_of (steps_of (without true s (Strike n))) (suc k))
    alive_date k h =
        let low = struck_number in
        let was = o.dated k h in
        let m = dated_strike (inputs_of s) (inputs_of s) (before s (s.taken - 1)) (steps_of s) n refl split_strike (suc k) in
        let now = ap (λ (es : List Step). step_or_none (strike_of es (suc k))) (sym steps_without_strike) in
        elim (cases_eq k (n - 1)) [
          | inl at ↦
              let number : n ≡ suc k = omega arith in
              alive_here k at
              ∙ ap step_or_none (sym (ap (strike_of (before s (s.taken - 1))) (sym number) ∙ strike_none (before s (s.taken - 1)) n was_live.unstruck))
              ∙ now
          | inr ne ↦
              let other = get_or-set_other s.rows (n - 1) k (struck_at (get_or s.rows (n - 1) blank_row) None) blank_row ne in
              ap (λ (x : ClauseRow). x.struck) other ∙ was.1 ∙ ap step_or_none (sym (m.1 (λ at. ne (omega arith)))) ∙ now
        ]

    pub sound_without_strike : Sound (without true s (Strike n))
    sound_without_strike =
        let a = o.rooms.0 in
        let long = length-set s.rows (n - 1) (struck_at (get_or s.rows (n - 1) blank_row) None) in
        record {
          range = o.range;
          rooms = (omega arith, o.rooms.1, o.rooms.2);
          counts = (o.counts.0, o.counts.1, (let most = o.counts.2 in omega arith), o.counts.3);
          laid = laid_struck s o (n - 1) None;
          rising = subst (λ (ts : List Clause). Rising s.variables ts s.clauses) (sym (texts_struck s o (n - 1) None)) o.rising;
          complete =
              complete_before
              ∙ ap (λ (es : List Step). length (table (inputs_of s) es)) (sym steps_without_strike)
              ∙ ap (λ (ins : List Clause). length (table ins (steps_of (without true s (Strike n))))) (sym inputs_without_strike);
          numbered =
              same_numbered s o (s.taken - 1) (omega arith) (text_in (texts (without true s (Strike n)))) text_stays s.steps (λ j h. refl);
          unended =
              same_unended s o (s.taken - 1) (omega arith) (text_in (texts (without true s (Strike n)))) text_stays s.steps (λ j h. refl);
          dated = λ k h.
              let r = struck_row s.rows (n - 1) None k in
              let was = o.dated k h in
              let m = dated_strike (inputs_of s) (inputs_of s) (before s (s.taken - 1)) (steps_of s) n refl split_strike (suc k) in
              let ins = inputs_without_strike in
              let es = steps_without_strike in (
                r.entered ∙ was.0 ∙ sym m.0
                    ∙ ap (λ (is : List Clause). entry_of is (before s (s.taken - 1)) (suc k)) (sym ins)
                    ∙ ap (λ (e : List Step). entry_of (inputs_of (without true s (Strike n))) e (suc k)) (sym es),
                alive_date k h,
              );
          ordered = λ k h step e.
              let r = struck_row s.rows (n - 1) None k in
              let q = r.entered in
              elim (cases_eq k (n - 1)) [
                | inl at ↦ let none : Some step ≡ None = sym e ∙ alive_here k at in let z : ◌≡◌ {A = ℕ} 0 1 = cc in absurd (omega arith)
                | inr ne ↦
                    let other = get_or-set_other s.rows (n - 1) k (struck_at (get_or s.rows (n - 1) blank_row) None) blank_row ne in
                    let same = ap (λ (x : ClauseRow). x.struck) other in
                    let old = o.ordered k h step (sym same ∙ e) in
                    omega arith
              ];
        }
