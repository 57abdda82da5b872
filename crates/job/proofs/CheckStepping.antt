-- The steps of a job, one by one.
use Rattle.std.proofs.Common.{◌≡◌, ℕ, zero, suc, ◌<◌, ◌≤◌, true, false, List, [], ◌∷◌, length, get_or, sym, ap, subst, inl, inr, arith}
use Rattle.cnf.specs.Clauses.{Clause}
use Rattle.drup.specs.History.{Step, learned, struck, table, next_number, Live}
use Rattle.drup.specs.Laws.{StrikesLive}
use Rattle.drup.proofs.Numbers.{at_most}
use Rattle.engine.specs.Meaning.{Meaning, with_mark}
use Rattle.job.specs.declared.rows.StepRow.{StepRow}
use Rattle.job.specs.declared.rows.StepRow.TheVariants.{Lemma, Strike}
use Rattle.job.specs.CheckShowing.{Shows, Holds}
use Rattle.job.specs.View.{View, blank_step, text_in, texts}
use Rattle.job.specs.History.{step_of, steps_from, inputs_of, before}
use Rattle.job.proofs.CheckFit.{NamedIn, Fit}
use Rattle.job.proofs.Histories.{length_down}
use Rattle.job.proofs.CheckShown.{back_strike, back_lemma}

-- steps only add clauses
pub inputs_stay : (inputs : List Clause) (steps : List Step) → length inputs ≤ length (table inputs steps)
inputs_stay inputs [] = omega arith
inputs_stay inputs (learned c ∷ earlier) = let h = inputs_stay inputs earlier in omega arith
inputs_stay inputs (struck n ∷ earlier) = inputs_stay inputs earlier

module _ (text : ℕ → Clause) (rows : List StepRow) (inputs : List Clause) where
  one_less : (k : ℕ) → StrikesLive inputs (steps_from text rows (suc k)) → StrikesLive inputs (steps_from text rows k)
  one_less k = go (get_or rows k blank_step)
    where
      go : (r : StepRow) → StrikesLive inputs (step_of text r ∷ steps_from text rows k) → StrikesLive inputs (steps_from text rows k)
      go (Lemma n) l = l
      go (Strike n) l = l.1

  pub strikes_before : (j k : ℕ) → j ≤ k → StrikesLive inputs (steps_from text rows k) → StrikesLive inputs (steps_from text rows j)
  strikes_before j zero h l = subst (λ (i : ℕ). StrikesLive inputs (steps_from text rows i)) (let e : 0 ≡ j = omega arith in e) l
  strikes_before j (suc k) h l =
      elim (at_most j k h) [
        | inl e ↦ subst (λ (i : ℕ). StrikesLive inputs (steps_from text rows i)) (sym e) l
        | inr less ↦ strikes_before j k less (one_less k l)
      ]

  one_more : (k : ℕ) → length (table inputs (steps_from text rows k)) ≤ length (table inputs (steps_from text rows (suc k)))
  one_more k = go (get_or rows k blank_step)
    where
      go : (r : StepRow) → length (table inputs (steps_from text rows k)) ≤ length (table inputs (step_of text r ∷ steps_from text rows k))
      go (Lemma n) = omega arith
      go (Strike n) = omega arith

  pub table_grows : (j k : ℕ) → j ≤ k → length (table inputs (steps_from text rows j)) ≤ length (table inputs (steps_from text rows k))
  table_grows j zero h = let e : j ≡ 0 = omega arith in let z = ap (λ (i : ℕ). length (table inputs (steps_from text rows i))) e in omega arith
  table_grows j (suc k) h =
      elim (at_most j k h) [
        | inl e ↦ let z = ap (λ (i : ℕ). length (table inputs (steps_from text rows i))) e in omega arith
        | inr less ↦ let a = table_grows j k less in let b = one_more k in omega arith
      ]

module _ (s : View) (o : Fit s) (i : ℕ) (h : i < s.taken) where
  pub strikes_there : StrikesLive (inputs_of s) (before s i)
  strikes_there = strikes_before (text_in (texts s)) s.steps (inputs_of s) i s.taken (omega arith) o.strikes

  pub all_entered : length (table (inputs_of s) (before s i)) ≤ s.clauses
  all_entered = let g = table_grows (text_in (texts s)) s.steps (inputs_of s) i s.taken (omega arith) in omega (arith, o.all_in)

  module _ (n : ℕ) (e : get_or s.steps i blank_step ≡ Strike n) where
    pub as_strike : before s (suc i) ≡ struck n ∷ before s i
    as_strike = ap (λ (r : StepRow). step_of (text_in (texts s)) r ∷ before s i) e

    pub struck_live : Live (inputs_of s) (before s i) n
    struck_live =
        (subst (StrikesLive (inputs_of s)) as_strike
        (strikes_before (text_in (texts s)) s.steps (inputs_of s) (suc i) s.taken (omega arith) o.strikes)).0

  module _ (n : ℕ) (e : get_or s.steps i blank_step ≡ Lemma n) where
    pub as_lemma : before s (suc i) ≡ learned (text_in (texts s) n) ∷ before s i
    as_lemma = ap (λ (r : StepRow). step_of (text_in (texts s)) r ∷ before s i) e

    pub its_number : n ≡ next_number (inputs_of s) (before s i)
    its_number = subst (NamedIn (inputs_of s) (before s i)) e (o.named i h)

    pub its_range : (s.inputs < n) × (n ≤ s.clauses)
    its_range =
        let g = table_grows (text_in (texts s)) s.steps (inputs_of s) (suc i) s.taken (omega arith) in
        let a = ap (λ (steps : List Step). length (table (inputs_of s) steps)) as_lemma in
        let b = inputs_stay (inputs_of s) (before s i) in
        let d = length_down (text_in (texts s)) s.inputs in
        let z = its_number in
        (omega arith, omega (arith, o.all_in))

    -- once it is turned off
    module _ (m : Meaning) (holds : Holds m s) (shows : Shows m (inputs_of s) (before s (suc i))) where
      pub shows_off : Shows (with_mark n false m) (inputs_of s) (before s i)
      shows_off =
          back_lemma m (inputs_of s) (before s i) n (text_in (texts s) n) (subst (Shows m (inputs_of s)) as_lemma shows) its_number

      pub holds_off : Holds (with_mark n false m) s
      holds_off = record {
        shut = holds.shut;
        same = holds.same;
        idle = holds.idle;
        numbered = λ k on.
            let l = shows_off.on_live k on in
            let a = l.entered in
            let b = all_entered in
            (l.numbered, omega arith);
      }

  module _ (n : ℕ) (e : get_or s.steps i blank_step ≡ Strike n) (m : Meaning) (holds : Holds m s) (shows : Shows m (inputs_of s) (before s (suc i))) where
    pub shows_on : Shows (with_mark n true m) (inputs_of s) (before s i)
    shows_on = back_strike m (inputs_of s) (before s i) n (subst (Shows m (inputs_of s)) (as_strike n e) shows) (struck_live n e)

    pub holds_on : Holds (with_mark n true m) s
    holds_on = record {
      shut = holds.shut;
      same = holds.same;
      idle = holds.idle;
      numbered = λ k on.
          let l = shows_on.on_live k on in
          let a = l.entered in
          let b = all_entered in
          (l.numbered, omega arith);
    }
