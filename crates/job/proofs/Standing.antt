-- What a sound job's machine is like.
use Rattle.std.proofs.Common.{◌≡◌, ℕ, zero, suc, ◌+◌, ◌-◌, ◌<◌, ◌≤◌, Bool, true, false, cond, not, ◌&&◌, ◌||◌, ltb, leb, List, [], ◌∷◌, length, get_or, sym, refl, ap, ◌∙◌, subst, inl, inr, arith, is_none}
use mathlib.Core.List.Memᴰ
use Rattle.std.proofs.lemmas.Bool.{and_parts, lt-ltb, le-ltb, cases_lt, cases_Bool, not-true}
use Rattle.cnf.specs.declared.literals.Literal.{Literal}
use Rattle.cnf.specs.Clauses.{Clause, ◌∈◌, IsClause, literals}
use Rattle.cnf.specs.Arranging.{arranged}
use Rattle.cnf.proofs.Arranging.{all_cons, arranged_length}
use Rattle.cnf.proofs.Rising.{ascending_clause}
use Rattle.drup.specs.History.{Step, table, lemmas, text, is_struck, begun, same_clause, live_copy, Live, learned, struck, next_number}
use Rattle.drup.specs.Forward.{full}
use Rattle.drup.specs.WellFormed.{WellFormed}
use Rattle.drup.specs.Laws.{StrikesLive, strike_of}
use Rattle.drup.proofs.Numbers.{text_newest, text_older, at_most}
use Rattle.job.specs.declared.rows.StepRow.{StepRow}
use Rattle.job.specs.View.{View, blank_row, text_in, texts, blank_step}
use Rattle.job.specs.History.{down_from, steps_from, inputs_of, steps_of, machine_of, step_of, before}
use Rattle.job.specs.Sound.{step_or_none, Sound}
use Rattle.job.specs.Calls.{is_full, copy_in}
use Rattle.job.proofs.Histories.{length_down, table_down, strikes_live, only_last, strike_none, none_strike, next_lemma, next_strike, lemma_range, inputs_within}
use Rattle.job.proofs.Texts.{laid_literals}
use Rattle.job.specs.declared.rows.StepRow.TheVariants.{Lemma, Strike}

-- what holds of each number's clause holds of each clause
all_down : (P : Clause → Type 0) (f : ℕ → Clause) (k : ℕ) → ((n : ℕ) → n < k → P (f (suc n))) → (c : Clause) → c ∈ down_from f k → P c
all_down P f zero each c m = absurd (Memᴰ.not-nil m)
all_down P f (suc k) each c m = all_cons P (each k (omega arith)) (all_down P f k (λ n h. each n (omega arith))) c m

-- the clause with a number
pub text_down : (texts : ℕ → Clause) (k n : ℕ) → 1 ≤ n → n ≤ k → text (down_from texts k) n ≡ texts n
text_down texts zero n low high = absurd (omega arith)
text_down texts (suc k) n low high =
    let l = length_down texts k in
    elim (at_most n k high) [
      | inl e ↦
          let same : n ≡ suc (length (down_from texts k)) = omega arith in
          ap (text (down_from texts (suc k))) same ∙ text_newest (texts (suc k)) (down_from texts k) ∙ ap texts (sym e)
      | inr h ↦ text_older (texts (suc k)) (down_from texts k) n (omega arith) ∙ text_down texts k n low h
    ]

-- each lemma is a clause behind the inputs
pub lemmas_many : (inputs : List Clause) (steps : List Step) → length (table inputs steps) ≡ length inputs + lemmas steps
lemmas_many inputs [] = omega arith
lemmas_many inputs (learned c ∷ earlier) = let h = lemmas_many inputs earlier in omega arith
lemmas_many inputs (struck n ∷ earlier) = lemmas_many inputs earlier

module _ (s : View) (o : Sound s) where
  -- the clauses stand in the order of their numbers
  pub all_down_from : table (inputs_of s) (steps_of s) ≡ down_from (text_in (texts s)) s.clauses
  all_down_from =
      table_down (text_in (texts s)) s.inputs s.steps s.taken o.numbered s.taken (omega arith)
      ∙ ap (down_from (text_in (texts s))) (sym o.complete)

  -- each number has the clause of its row
  pub text_of : (n : ℕ) → 1 ≤ n → n ≤ s.clauses → text (table (inputs_of s) (steps_of s)) n ≡ text_in (texts s) n
  text_of n low high = ap (λ (cs : List Clause). text cs n) all_down_from ∙ text_down (text_in (texts s)) s.clauses n low high

  -- each row has a clause
  pub is_clause : (k : ℕ) → k < s.clauses → IsClause s.variables (text_in (texts s) (suc k))
  is_clause k h = ascending_clause s.variables (text_in (texts s) (suc k)) (o.rising k h)

  -- the literals in use are those of the clauses
  pub all_literals : literals (table (inputs_of s) (steps_of s)) ≡ s.used
  all_literals =
      let a = o.rooms.0 in
      let b = o.rooms.2 in
      let c = o.counts.1 in
      let d = o.counts.3 in
      ap literals all_down_from
      ∙ laid_literals s.rows s.lits s.clauses (omega arith) s.clauses s.used (omega arith) (omega arith) o.laid

  -- each strike hit a live clause
  pub all_strikes : StrikesLive (inputs_of s) (steps_of s)
  all_strikes = strikes_live (text_in (texts s)) s.inputs s.steps s.taken o.numbered s.taken (omega arith)

  -- the machine is well-formed
  pub well_formed : WellFormed (machine_of s)
  well_formed = record {
    all_clauses = λ c m.
        all_down (IsClause s.variables) (text_in (texts s)) s.clauses is_clause c
        (subst (λ (cs : List Clause). c ∈ cs) all_down_from m);
    places = (let a = o.complete in let b = o.counts.1 in omega arith);
    room = (let a = all_literals in let b = o.counts.3 in omega arith);
    only_last = only_last (text_in (texts s)) s.steps s.taken o.unended;
  }

  -- a row is live exactly if no step struck its clause
  pub row_live : (k : ℕ) → k < s.clauses → is_none (get_or s.rows k blank_row).struck ≡ not (is_struck (suc k) (steps_of s))
  row_live k h =
      ap is_none (o.dated k h).1
      ∙ elim (cases_Bool (is_struck (suc k) (steps_of s))) [
        | inl e ↦
            some_step (strike_of (steps_of s) (suc k))
            (λ z. let n = none_strike (steps_of s) (suc k) z in let w : ◌≡◌ {A = ℕ} 0 1 = cc in omega arith)
            ∙ ap not (sym e)
        | inr e ↦ ap (λ (m : ℕ). is_none (step_or_none m)) (strike_none (steps_of s) (suc k) e) ∙ ap not (sym e)
      ]
    where
      some_step : (m : ℕ) → (m ≡ 0 → ⊥) → is_none (step_or_none m) ≡ false
      some_step zero h = absurd (h refl)
      some_step (suc m) h = refl

  -- the step k + 1, if it learned a lemma
  pub lemma_at : (k : ℕ) → k < s.taken → (n : ℕ) → get_or s.steps k blank_step ≡ Lemma n
      → (n ≡ next_number (inputs_of s) (before s k))
      × (s.inputs < n)
      × (n ≤ s.clauses)
      × (before s (suc k) ≡ learned (text_in (texts s) n) ∷ before s k)
  lemma_at k h n e =
      let number = next_lemma (inputs_of s) (before s k) (get_or s.steps k blank_step) n (o.numbered k h) e in
      let high = (lemma_range (text_in (texts s)) s.inputs s.steps s.taken o.numbered k h n e).1 in
      let low = inputs_within (text_in (texts s)) s.inputs s.steps k (λ j b. o.numbered j (omega arith)) in
      let all = o.complete in
      (number, omega arith, omega arith, ap (λ (row : StepRow). step_of (text_in (texts s)) row ∷ before s k) e)

  -- the step k + 1, if it struck a clause
  pub strike_at : (k : ℕ) → k < s.taken → (n : ℕ) → get_or s.steps k blank_step ≡ Strike n
      → Live (inputs_of s) (before s k) n × (before s (suc k) ≡ struck n ∷ before s k)
  strike_at k h n e = (
    next_strike (inputs_of s) (before s k) (get_or s.steps k blank_step) n (o.numbered k h) e,
    ap (λ (row : StepRow). step_of (text_in (texts s)) row ∷ before s k) e,
  )

  -- so far each strike hit a live clause
  pub strikes_at : (k : ℕ) → k ≤ s.taken → StrikesLive (inputs_of s) (before s k)
  strikes_at = strikes_live (text_in (texts s)) s.inputs s.steps s.taken o.numbered

  -- so far each number has the clause of its row
  pub text_at_step : (k : ℕ) → k ≤ s.taken → (n : ℕ) → 1 ≤ n → n ≤ length (table (inputs_of s) (before s k))
      → text (table (inputs_of s) (before s k)) n ≡ text_in (texts s) n
  text_at_step k h n low high =
      ap (λ (cs : List Clause). text cs n) (table_down (text_in (texts s)) s.inputs s.steps s.taken o.numbered k h)
      ∙ text_down (text_in (texts s)) (length (table (inputs_of s) (before s k))) n low high

  -- the clauses behind the inputs are the lemmas
  pub all_lemmas : s.inputs + lemmas (steps_of s) ≡ s.clauses
  all_lemmas =
      let a = lemmas_many (inputs_of s) (steps_of s) in
      let b = length_down (text_in (texts s)) s.inputs in
      let c = o.complete in
      omega arith

-- there is a step
pub begun_taken : (text : ℕ → Clause) (steps : List StepRow) (k : ℕ) → begun (steps_from text steps k) ≡ ltb 0 k
begun_taken text steps zero = refl
begun_taken text steps (suc k) = sym (lt-ltb 0 (suc k) (omega arith))

-- what is left
left_places : (room used count : ℕ) → used ≤ room → ltb room (count + used) ≡ ltb (room - used) count
left_places room used count h =
    elim (cases_lt (room - used) count) [
      | inl b ↦ lt-ltb room (count + used) (omega arith) ∙ sym (lt-ltb (room - used) count b)
      | inr b ↦ le-ltb room (count + used) (omega arith) ∙ sym (le-ltb (room - used) count b)
    ]

-- no place is left
pub full_same : (s : View) (o : Sound s) (ls : List Literal) → full (machine_of s) ls ≡ is_full s (length (arranged ls))
full_same s o ls =
    let a = sym o.complete in
    let b = all_literals s o in
    let c = left_places s.room s.used (length (arranged ls)) o.counts.3 in
    let d = sym (arranged_length ls) in
    ap (λ (n : ℕ). leb s.places n || ltb s.room (length ls + literals (table (inputs_of s) (steps_of s)))) a
    ∙ ap (λ (n : ℕ). leb s.places s.clauses || ltb s.room (length ls + n)) b
    ∙ ap (λ (n : ℕ). leb s.places s.clauses || ltb s.room (n + s.used)) d
    ∙ ap (λ (x : Bool). leb s.places s.clauses || x) c

-- a live copy is live
copy_live : (c : Clause) (cs : List Clause) (steps : List Step) (n : ℕ) → live_copy c cs steps ≡ suc n
    → (suc n ≤ length cs) × (is_struck (suc n) steps ≡ false)
copy_live c [] steps n e = absurd (omega arith)
copy_live c (d ∷ cs) steps n e = go (same_clause c d && not (is_struck (suc (length cs)) steps)) refl e (copy_live c cs steps n)
  where
    go : (b : Bool) → (same_clause c d && not (is_struck (suc (length cs)) steps)) ≡ b → cond b (suc (length cs)) (live_copy c cs steps) ≡ suc n
        → (live_copy c cs steps ≡ suc n → (suc n ≤ length cs) × (is_struck (suc n) steps ≡ false))
        → (suc n ≤ suc (length cs)) × (is_struck (suc n) steps ≡ false)
    go true t at below =
        let h = and_parts (same_clause c d) (not (is_struck (suc (length cs)) steps)) t in
        (omega arith, ap (λ (k : ℕ). is_struck k steps) (sym at) ∙ not-true (is_struck (suc (length cs)) steps) h.1)
    go false t at below = let r = below at in (omega arith, r.1)

-- it is the clause that a strike takes
pub copy_target : (s : View) (o : Sound s) (c : Clause) → live_copy c (table (inputs_of s) (steps_of s)) (steps_of s) ≡ copy_in s c
copy_target s o c = ap (λ (cs : List Clause). live_copy c cs (steps_of s)) (all_down_from s o)

pub copy_is_live : (s : View) (o : Sound s) (c : Clause) (n : ℕ) → n ≡ copy_in s c → 1 ≤ n → Live (inputs_of s) (steps_of s) n
copy_is_live s o c zero e low = absurd (omega arith)
copy_is_live s o c (suc n) e low =
    let r = copy_live c (table (inputs_of s) (steps_of s)) (steps_of s) n (copy_target s o c ∙ sym e) in
    record { numbered = low; entered = r.0; unstruck = r.1 }
