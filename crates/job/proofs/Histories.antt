-- Histories read off lists: their lengths, what they depend on, and what numbered steps make of them.
use Rattle.std.proofs.Common.{◌≡◌, ℕ, zero, suc, ◌+◌, ◌*◌, ◌<◌, ◌≤◌, Bool, true, false, cond, not, ◌&&◌, ◌||◌, eqb, leb, List, [], ◌∷◌, length, get_or, sym, refl, ap, subst, inl, inr, arith}
use Rattle.std.proofs.lemmas.Bool.{and_parts, eqb-true, leb-true, not-true, or_parts, and_from, le-leb, not_from_false}
use Rattle.cnf.specs.Clauses.{Clause}
use Rattle.drup.specs.History.{Step, learned, struck, table, next_number, is_struck, ended, lemmas, Live}
use Rattle.drup.specs.Laws.{StrikesLive, entry_of, strike_of}
use Rattle.drup.specs.WellFormed.{NoEmpty, OnlyLastEmpty}
use Rattle.drup.proofs.Numbers.{at_most}
use Rattle.drup.proofs.Counting.{counted, counted_more, counted_most}
use Rattle.job.specs.declared.rows.StepRow.{StepRow}
use Rattle.job.specs.declared.rows.StepRow.TheVariants.{Lemma, Strike}
use Rattle.job.specs.View.{blank_step}
use Rattle.job.specs.History.{down_from, step_of, steps_from}
use Rattle.job.specs.Sound.{is_next}

pub length_down : (text : ℕ → Clause) (k : ℕ) → length (down_from text k) ≡ k
length_down text zero = refl
length_down text (suc k) = ap suc (length_down text k)

pub length_steps : (text : ℕ → Clause) (steps : List StepRow) (k : ℕ) → length (steps_from text steps k) ≡ k
length_steps text steps zero = refl
length_steps text steps (suc k) = ap suc (length_steps text steps k)

-- only the first k clauses count
pub down_same : (f g : ℕ → Clause) (k : ℕ) → ((n : ℕ) → 1 ≤ n → n ≤ k → f n ≡ g n) → down_from f k ≡ down_from g k
down_same f g zero same = refl
down_same f g (suc k) same =
    let head = same (suc k) (omega arith) (omega arith) in
    let rest = down_same f g k (λ n low high. same n low (omega arith)) in
    cc

-- only the clauses that a step names count
step_same : (f g : ℕ → Clause) (c : ℕ) → ((n : ℕ) → 1 ≤ n → n ≤ c → f n ≡ g n) → (row : StepRow)
    → ((n : ℕ) → row ≡ Lemma n → (1 ≤ n) × (n ≤ c)) → step_of f row ≡ step_of g row
step_same f g c same (Lemma n) range = let r = range n refl in ap learned (same n r.0 r.1)
step_same f g c same (Strike n) range = refl

-- only the first k steps count
pub steps_same : (f g : ℕ → Clause) (xs ys : List StepRow) (c k : ℕ) → ((n : ℕ) → 1 ≤ n → n ≤ c → f n ≡ g n)
    → ((j : ℕ) → j < k → get_or xs j blank_step ≡ get_or ys j blank_step)
    → ((j : ℕ) → j < k → (n : ℕ) → get_or xs j blank_step ≡ Lemma n → (1 ≤ n) × (n ≤ c))
    → steps_from f xs k ≡ steps_from g ys k
steps_same f g xs ys c zero same rows range = refl
steps_same f g xs ys c (suc k) same rows range =
    let head = step_same f g c same (get_or xs k blank_step) (range k (omega arith)) in
    let row = ap (step_of g) (rows k (omega arith)) in
    let rest = steps_same f g xs ys c k same (λ j h. rows j (omega arith)) (λ j h. range j (omega arith)) in
    cc

-- what the test of a step says
pub next_lemma : (inputs : List Clause) (earlier : List Step) (row : StepRow) (n : ℕ) → is_next inputs earlier row ≡ true → row ≡ Lemma n
    → n ≡ next_number inputs earlier
next_lemma inputs earlier row n test e =
    eqb-true n (next_number inputs earlier) (subst (λ r. is_next inputs earlier r ≡ true) e test)

strike_live : (inputs : List Clause) (earlier : List Step) (n : ℕ) → is_next inputs earlier (Strike n) ≡ true → Live inputs earlier n
strike_live inputs earlier n test =
    let one = and_parts (leb 1 n) (leb n (length (table inputs earlier)) && not (is_struck n earlier)) test in
    let two = and_parts (leb n (length (table inputs earlier))) (not (is_struck n earlier)) one.1 in
    record {
      numbered = leb-true 1 n one.0;
      entered = leb-true n (length (table inputs earlier)) two.0;
      unstruck = not-true (is_struck n earlier) two.1;
    }

pub next_strike : (inputs : List Clause) (earlier : List Step) (row : StepRow) (n : ℕ) → is_next inputs earlier row ≡ true → row ≡ Strike n
    → Live inputs earlier n
next_strike inputs earlier row n test e = strike_live inputs earlier n (subst (λ r. is_next inputs earlier r ≡ true) e test)

-- a live clause may be struck
pub live_next : (inputs : List Clause) (earlier : List Step) (n : ℕ) → Live inputs earlier n → is_next inputs earlier (Strike n) ≡ true
live_next inputs earlier n live =
    and_from _ _ (le-leb 1 n live.numbered)
    (and_from _ _ (le-leb n (length (table inputs earlier)) live.entered) (not_from_false (is_struck n earlier) live.unstruck))

module _ (text : ℕ → Clause) (inputs : ℕ) (steps : List StepRow) (taken : ℕ)
    (numbered : (k : ℕ) → k < taken → is_next (down_from text inputs) (steps_from text steps k) (get_or steps k blank_step) ≡ true) where
  -- the clauses stand in the order of their numbers
  pub table_down : (k : ℕ) → k ≤ taken
      → table (down_from text inputs) (steps_from text steps k) ≡ down_from text (length (table (down_from text inputs) (steps_from text steps k)))
  table_down zero h = ap (down_from text) (sym (length_down text inputs))
  table_down (suc k) h = go (get_or steps k blank_step) (numbered k (omega arith)) (table_down k (omega arith))
    where
      go : (row : StepRow) → is_next (down_from text inputs) (steps_from text steps k) row ≡ true
          → table (down_from text inputs) (steps_from text steps k) ≡ down_from text (length (table (down_from text inputs) (steps_from text steps k)))
          → table (down_from text inputs) (step_of text row ∷ steps_from text steps k)
          ≡ down_from text (length (table (down_from text inputs) (step_of text row ∷ steps_from text steps k)))
      go (Lemma n) test below =
          let e = ap text (next_lemma (down_from text inputs) (steps_from text steps k) (Lemma n) n test refl) in
          cc
      go (Strike n) test below = below

  -- each strike hit a live clause
  pub strikes_live : (k : ℕ) → k ≤ taken → StrikesLive (down_from text inputs) (steps_from text steps k)
  strikes_live zero h = tt
  strikes_live (suc k) h = go (get_or steps k blank_step) (numbered k (omega arith)) (strikes_live k (omega arith))
    where
      go : (row : StepRow) → is_next (down_from text inputs) (steps_from text steps k) row ≡ true
          → StrikesLive (down_from text inputs) (steps_from text steps k)
          → StrikesLive (down_from text inputs) (step_of text row ∷ steps_from text steps k)
      go (Lemma n) test below = below
      go (Strike n) test below = (strike_live (down_from text inputs) (steps_from text steps k) n test, below)

  -- steps take no clause away
  grown : (k : ℕ) (row : StepRow)
      → length (table (down_from text inputs) (steps_from text steps k)) ≤ length (table (down_from text inputs) (step_of text row ∷ steps_from text steps k))
  grown k (Lemma n) = omega arith
  grown k (Strike n) = omega arith

  pub table_up : (j k : ℕ) → j ≤ k
      → length (table (down_from text inputs) (steps_from text steps j)) ≤ length (table (down_from text inputs) (steps_from text steps k))
  table_up zero zero h = omega arith
  table_up (suc j) zero h = absurd (omega arith)
  table_up j (suc k) h =
      elim (at_most j k h) [
        | inl e ↦ rw e (omega arith)
        | inr b ↦ let below = table_up j k b in let more = grown k (get_or steps k blank_step) in omega arith
      ]

  -- the inputs are among the clauses
  pub inputs_within : inputs ≤ length (table (down_from text inputs) (steps_from text steps taken))
  inputs_within = let h = table_up 0 taken (omega arith) in let e = length_down text inputs in omega arith

  -- a lemma's number is that of a clause
  pub lemma_range : (j : ℕ) → j < taken → (n : ℕ) → get_or steps j blank_step ≡ Lemma n
      → (1 ≤ n) × (n ≤ length (table (down_from text inputs) (steps_from text steps taken)))
  lemma_range j h n e =
      let number = next_lemma (down_from text inputs) (steps_from text steps j) (get_or steps j blank_step) n (numbered j h) e in
      let entry : length (table (down_from text inputs) (steps_from text steps (suc j))) ≡ suc (length (table (down_from text inputs) (steps_from text steps j))) =
      ap (λ (row : StepRow). length (table (down_from text inputs) (step_of text row ∷ steps_from text steps j))) e in
      let more = table_up (suc j) taken h in
      (omega arith, omega arith)

-- a job whose earlier steps are not the empty lemma
pub no_empty : (text : ℕ → Clause) (steps : List StepRow) (k : ℕ) → ((j : ℕ) → j < suc k → ended (steps_from text steps j) ≡ false)
    → NoEmpty (steps_from text steps k)
no_empty text steps zero h = tt
no_empty text steps (suc k) h =
    go (get_or steps k blank_step) (h (suc k) (omega arith)) (no_empty text steps k (λ j b. h j (omega arith)))
  where
    learn : (c : Clause) → ended (learned c ∷ steps_from text steps k) ≡ false → NoEmpty (steps_from text steps k) → NoEmpty (learned c ∷ steps_from text steps k)
    learn [] e below = let z : ◌≡◌ {A = ℕ} 0 1 = cc in absurd (omega arith)
    learn (l ∷ c) e below = below

    go : (row : StepRow) → ended (step_of text row ∷ steps_from text steps k) ≡ false → NoEmpty (steps_from text steps k)
        → NoEmpty (step_of text row ∷ steps_from text steps k)
    go (Lemma n) e below = learn (text n) e below
    go (Strike n) e below = below

pub only_last : (text : ℕ → Clause) (steps : List StepRow) (taken : ℕ) → ((j : ℕ) → j < taken → ended (steps_from text steps j) ≡ false)
    → OnlyLastEmpty (steps_from text steps taken)
only_last text steps zero h = tt
only_last text steps (suc k) h = no_empty text steps k h

-- a clause that no step struck
pub strike_none : (steps : List Step) (n : ℕ) → is_struck n steps ≡ false → strike_of steps n ≡ 0
strike_none [] n e = refl
strike_none (learned c ∷ earlier) n e = strike_none earlier n e
strike_none (struck k ∷ earlier) n e =
    let b = or_parts (eqb n k) (is_struck n earlier) e in
    rw b.0 (strike_none earlier n b.1)

pub none_strike : (steps : List Step) (n : ℕ) → strike_of steps n ≡ 0 → is_struck n steps ≡ false
none_strike [] n e = refl
none_strike (learned c ∷ earlier) n e = none_strike earlier n e
none_strike (struck k ∷ earlier) n e = go (eqb n k) e (none_strike earlier n)
  where
    go : (b : Bool) → cond b (suc (length earlier)) (strike_of earlier n) ≡ 0 → (strike_of earlier n ≡ 0 → is_struck n earlier ≡ false)
        → (b || is_struck n earlier) ≡ false
    go true e below = absurd (omega arith)
    go false e below = below e

-- entries lie among the steps
pub entry_most : (inputs : List Clause) (steps : List Step) (n : ℕ) → entry_of inputs steps n ≤ length steps
entry_most inputs [] n = omega arith
entry_most inputs (struck k ∷ earlier) n = let h = entry_most inputs earlier n in omega arith
entry_most inputs (learned c ∷ earlier) n = go (eqb n (next_number inputs earlier)) (entry_most inputs earlier n)
  where
    go : (b : Bool) → entry_of inputs earlier n ≤ length earlier → cond b (suc (length earlier)) (entry_of inputs earlier n) ≤ suc (length earlier)
    go true h = omega arith
    go false h = omega arith

-- there are at most two steps to a clause
lemmas_most : (inputs : List Clause) (steps : List Step) → lemmas steps ≤ length (table inputs steps)
lemmas_most inputs [] = omega arith
lemmas_most inputs (learned c ∷ earlier) = let h = lemmas_most inputs earlier in omega arith
lemmas_most inputs (struck n ∷ earlier) = lemmas_most inputs earlier

steps_counted :
    (inputs : List Clause) (steps : List Step) → StrikesLive inputs steps
    → length steps ≤ lemmas steps + counted (length (table inputs steps)) (λ n. is_struck n steps)
unfolding counted
steps_counted inputs [] s = omega arith
steps_counted inputs (learned c ∷ earlier) s = let h = steps_counted inputs earlier s in omega arith
steps_counted inputs (struck n ∷ earlier) s =
    let h = steps_counted inputs earlier s.1 in
    let live = s.0 in
    let k = counted_more (length (table inputs earlier)) n (λ i. is_struck i earlier) live.numbered live.entered live.unstruck in
    omega arith

pub steps_most : (inputs : List Clause) (steps : List Step) → StrikesLive inputs steps → length steps ≤ 2 * length (table inputs steps)
steps_most inputs steps s =
    let a = steps_counted inputs steps s in
    let b = lemmas_most inputs steps in
    let c = counted_most (length (table inputs steps)) (λ n. is_struck n steps) in
    omega arith
