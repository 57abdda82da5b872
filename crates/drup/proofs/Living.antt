-- A clause lives from the step behind its entry up to the step that strikes it.
use Rattle.std.proofs.Common.{◌≡◌, ℕ, suc, ◌<◌, ◌≤◌, Bool, true, false, cond, ◌||◌, eqb, ◌⊎◌, ◌↔◌, List, [], ◌∷◌, ◌++◌, length, sym, refl, subst, inl, inr, arith, length-append}
use Rattle.std.proofs.lemmas.Bool.{cases_Bool, eqb-false, eqb-true, ne_eqb, or_from, or_parts}
use Rattle.cnf.specs.Clauses.{Clause}
use Rattle.drup.specs.History.{Before, Live, Step, is_struck, learned, next_number, struck, table}
use Rattle.drup.specs.Forward.{Machine, fed, opened}
use Rattle.drup.specs.Laws.{ClausesLive, GoingBack, LivesAt, StrikesLive, entry_of, strike_of}
use Rattle.drup.proofs.Numbers.{table_grows}
use Rattle.drup.proofs.Fitting.{steps_fit_lem}

-- a strike that is not 0 is one of the steps
strike_most : (steps : List Step) (n : ℕ) → strike_of steps n ≤ length steps
strike_most [] n = omega arith
strike_most (learned c ∷ earlier) n = let h = strike_most earlier n in omega arith
strike_most (struck k ∷ earlier) n = go (eqb n k) (strike_most earlier n)
  where
    go : (b : Bool) → strike_of earlier n ≤ length earlier → cond b (suc (length earlier)) (strike_of earlier n) ≤ suc (length earlier)
    go true h = omega arith
    go false h = omega arith

entry_most : (inputs : List Clause) (steps : List Step) (n : ℕ) → entry_of inputs steps n ≤ length steps
entry_most inputs [] n = omega arith
entry_most inputs (struck k ∷ earlier) n = let h = entry_most inputs earlier n in omega arith
entry_most inputs (learned c ∷ earlier) n = go (eqb n (next_number inputs earlier)) (entry_most inputs earlier n)
  where
    go : (b : Bool) → entry_of inputs earlier n ≤ length earlier → cond b (suc (length earlier)) (entry_of inputs earlier n) ≤ suc (length earlier)
    go true h = omega arith
    go false h = omega arith

-- a clause is struck by a step or by none
strike_none : (steps : List Step) (n : ℕ) → is_struck n steps ≡ false → strike_of steps n ≡ 0
strike_none [] n e = refl
strike_none (learned c ∷ earlier) n e = strike_none earlier n e
strike_none (struck k ∷ earlier) n e =
    let b = or_parts (eqb n k) (is_struck n earlier) e in
    rw b.0 (strike_none earlier n b.1)

none_strike : (steps : List Step) (n : ℕ) → strike_of steps n ≡ 0 → is_struck n steps ≡ false
none_strike [] n e = refl
none_strike (learned c ∷ earlier) n e = none_strike earlier n e
none_strike (struck k ∷ earlier) n e = go (eqb n k) e (none_strike earlier n)
  where
    go : (b : Bool) → cond b (suc (length earlier)) (strike_of earlier n) ≡ 0 → (strike_of earlier n ≡ 0 → is_struck n earlier ≡ false)
        → (b || is_struck n earlier) ≡ false
    go true e below = absurd (omega arith)
    go false e below = below e

-- an unstruck clause stays so before
unstruck_before : (n : ℕ) (later earlier : List Step) → is_struck n (later ++ earlier) ≡ false → is_struck n earlier ≡ false
unstruck_before n [] earlier e = e
unstruck_before n (learned c ∷ later) earlier e = unstruck_before n later earlier e
unstruck_before n (struck k ∷ later) earlier e = unstruck_before n later earlier (or_parts (eqb n k) (is_struck n (later ++ earlier)) e).1

module _ (inputs : List Clause) (n : ℕ) (earlier : List Step) where
  -- a clause that no earlier step struck is struck at this step or later, or never
  struck_later :
      (later : List Step) → is_struck n earlier ≡ false
      → (strike_of (later ++ earlier) n ≡ 0) ⊎ (suc (length earlier) ≤ strike_of (later ++ earlier) n)
  struck_later [] e = inl (strike_none earlier n e)
  struck_later (learned c ∷ later) e = struck_later later e
  struck_later (struck k ∷ later) e = go (eqb n k) (struck_later later e)
    where
      go : (b : Bool) → (strike_of (later ++ earlier) n ≡ 0) ⊎ (suc (length earlier) ≤ strike_of (later ++ earlier) n)
          → (cond b (suc (length (later ++ earlier))) (strike_of (later ++ earlier) n) ≡ 0)
          ⊎ (suc (length earlier) ≤ cond b (suc (length (later ++ earlier))) (strike_of (later ++ earlier) n))
      go true below = inr (let h = length-append later earlier in omega arith)
      go false below = below

  -- and the other way, since each strike hit a live clause
  later_struck :
      (later : List Step) → StrikesLive inputs (later ++ earlier)
      → (strike_of (later ++ earlier) n ≡ 0) ⊎ (suc (length earlier) ≤ strike_of (later ++ earlier) n)
      → is_struck n earlier ≡ false
  later_struck [] s (inl e) = none_strike earlier n e
  later_struck [] s (inr h) = absurd (let g = strike_most earlier n in omega arith)
  later_struck (learned c ∷ later) s at = later_struck later s at
  later_struck (struck k ∷ later) s at = go (eqb n k) refl (later_struck later s.1) at
    where
      go : (b : Bool) → eqb n k ≡ b
          → ((strike_of (later ++ earlier) n ≡ 0) ⊎ (suc (length earlier) ≤ strike_of (later ++ earlier) n) → is_struck n earlier ≡ false)
          → (cond b (suc (length (later ++ earlier))) (strike_of (later ++ earlier) n) ≡ 0)
          ⊎ (suc (length earlier) ≤ cond b (suc (length (later ++ earlier))) (strike_of (later ++ earlier) n))
          → is_struck n earlier ≡ false
      go true e below at = unstruck_before n later earlier (subst (λ i. is_struck i (later ++ earlier) ≡ false) (sym (eqb-true n k e)) s.0.unstruck)
      go false e below at = below at

  -- a clause stands before a step exactly if its entry came before it
  entered_before :
      (later : List Step) → n ≤ length (table inputs (later ++ earlier))
      → (n ≤ length (table inputs earlier)) ↔ (entry_of inputs (later ++ earlier) n < suc (length earlier))
  entered_before [] high = (λ h. (let g = entry_most inputs earlier n in omega arith), λ h. high)
  entered_before (struck k ∷ later) high = entered_before later high
  entered_before (learned c ∷ later) high = go (eqb n (next_number inputs (later ++ earlier))) refl (entered_before later)
    where
      go : (b : Bool) → eqb n (next_number inputs (later ++ earlier)) ≡ b
          → (n ≤ length (table inputs (later ++ earlier))
          → ((n ≤ length (table inputs earlier)) ↔ (entry_of inputs (later ++ earlier) n < suc (length earlier))))
          → (n ≤ length (table inputs earlier))
          ↔ (cond b (suc (length (later ++ earlier))) (entry_of inputs (later ++ earlier) n) < suc (length earlier))
      go true e below =
          let p = eqb-true n (next_number inputs (later ++ earlier)) e in
          let g = table_grows inputs later earlier in
          let l = length-append later earlier in
          (λ h. absurd (omega arith), λ h. absurd (omega arith))
      go false e below =
          let d = eqb-false n (next_number inputs (later ++ earlier)) e in
          below (omega arith)

  -- so it lives at a step exactly if it was entered before it and not struck before it
  lives_at :
      (later : List Step) → 1 ≤ n → n ≤ length (table inputs (later ++ earlier)) → StrikesLive inputs (later ++ earlier)
      → Live inputs earlier n
      ↔ LivesAt (suc (length earlier)) (entry_of inputs (later ++ earlier) n) (strike_of (later ++ earlier) n)
  lives_at later low high s = (
    λ live. ((entered_before later high).0 live.entered, struck_later later live.unstruck),
    λ at. record {
      numbered = low;
      entered = (entered_before later high).1 at.0;
      unstruck = later_struck later s at.1;
    },
  )

-- a number that was not entered was not struck
pub never_yet :
    (inputs : List Clause) (n : ℕ) (steps : List Step) → StrikesLive inputs steps → length (table inputs steps) < n → is_struck n steps ≡ false
never_yet inputs n [] s h = refl
never_yet inputs n (learned c ∷ earlier) s h = never_yet inputs n earlier s (omega arith)
never_yet inputs n (struck k ∷ earlier) s h =
    or_from (eqb n k) (is_struck n earlier) (ne_eqb n k (λ p. let l = s.0.entered in omega arith)) (never_yet inputs n earlier s.1 h)

-- a clause is struck behind the step of its entry
struck_after_entry :
    (inputs : List Clause) (n : ℕ) (steps : List Step) → StrikesLive inputs steps → (strike_of steps n ≡ 0 → ⊥)
    → entry_of inputs steps n < strike_of steps n
struck_after_entry inputs n [] s some = absurd (some refl)
struck_after_entry inputs n (learned c ∷ earlier) s some = go (eqb n (next_number inputs earlier)) refl (struck_after_entry inputs n earlier s some)
  where
    go : (b : Bool) → eqb n (next_number inputs earlier) ≡ b → entry_of inputs earlier n < strike_of earlier n
        → cond b (suc (length earlier)) (entry_of inputs earlier n) < strike_of earlier n
    go true e h = absurd (some (strike_none earlier n (never_yet inputs n earlier s (let p = eqb-true n (next_number inputs earlier) e in omega arith))))
    go false e h = h
struck_after_entry inputs n (struck k ∷ earlier) s some = go (eqb n k) some (struck_after_entry inputs n earlier s.1)
  where
    go : (b : Bool) → (cond b (suc (length earlier)) (strike_of earlier n) ≡ 0 → ⊥)
        → ((strike_of earlier n ≡ 0 → ⊥) → entry_of inputs earlier n < strike_of earlier n)
        → entry_of inputs earlier n < cond b (suc (length earlier)) (strike_of earlier n)
    go true some below = let h = entry_most inputs earlier n in omega arith
    go false some below = below some

-- the theorem
pub clauses_live_lem : ClausesLive
clauses_live_lem variables clause_places literal_places calls n low high =
    let m : Machine = fed (opened variables clause_places literal_places) calls in
    let s = (steps_fit_lem variables clause_places literal_places calls).0 in (
      struck_after_entry m.inputs n m.steps s,
      λ earlier before. from m.inputs m.steps earlier before low high s,
    )
  where
    from : (inputs : List Clause) (steps earlier : List Step) → Before earlier steps → 1 ≤ n → n ≤ length (table inputs steps)
        → StrikesLive inputs steps
        → Live inputs earlier n ↔ LivesAt (suc (length earlier)) (entry_of inputs steps n) (strike_of steps n)
    from inputs steps earlier (later, e) low high s =
        let P : List Step → Type 0 =
        λ all. (Live inputs earlier n ↔ LivesAt (suc (length earlier)) (entry_of inputs all n) (strike_of all n)) in
        subst P (sym e)
        (lives_at inputs n earlier later low
        (subst (λ (all : List Step). n ≤ length (table inputs all)) e high)
        (subst (StrikesLive inputs) e s))

-- the strikes of an earlier part
strikes_before : (inputs : List Clause) (later earlier : List Step) → StrikesLive inputs (later ++ earlier) → StrikesLive inputs earlier
strikes_before inputs [] earlier s = s
strikes_before inputs (learned c ∷ later) earlier s = strikes_before inputs later earlier s
strikes_before inputs (struck n ∷ later) earlier s = strikes_before inputs later earlier s.1

module _ (inputs : List Clause) (earlier : List Step) where
  -- back over a strike
  pub back_strike :
      (n : ℕ) → Live inputs earlier n → (k : ℕ) → Live inputs earlier k ↔ ((k ≡ n) ⊎ Live inputs (struck n ∷ earlier) k)
  back_strike n was k = (
    λ live. elim (cases_Bool (eqb k n)) [
      | inl e ↦ inl (eqb-true k n e)
      | inr e ↦ inr (record {
        numbered = live.numbered;
        entered = live.entered;
        unstruck = or_from (eqb k n) (is_struck k earlier) e live.unstruck;
      })
    ],
    λ either. elim either [
      | inl e ↦ subst (Live inputs earlier) (sym e) was
      | inr live ↦ record {
        numbered = live.numbered;
        entered = live.entered;
        unstruck = (or_parts (eqb k n) (is_struck k earlier) live.unstruck).1;
      }
    ],
  )

  -- back over a lemma
  pub lemma_live : (c : Clause) → StrikesLive inputs earlier → Live inputs (learned c ∷ earlier) (next_number inputs earlier)
  lemma_live c s =
      record {
        numbered = omega arith;
        entered = omega arith;
        unstruck = never_yet inputs (next_number inputs earlier) earlier s (omega arith);
      }

  pub back_lemma :
      (c : Clause) (k : ℕ)
      → Live inputs earlier k ↔ (Live inputs (learned c ∷ earlier) k × (k ≡ next_number inputs earlier → ⊥))
  back_lemma c k = (
    λ live.
        let h = live.entered in
        (record { numbered = live.numbered; entered = omega arith; unstruck = live.unstruck }, λ e. omega arith),
    λ both.
        let h = both.0.entered in
        let d = both.1 in
        record { numbered = both.0.numbered; entered = omega arith; unstruck = both.0.unstruck },
  )

pub going_back_lem : GoingBack
going_back_lem variables clause_places literal_places calls earlier =
    let m : Machine = fed (opened variables clause_places literal_places) calls in
    let s = (steps_fit_lem variables clause_places literal_places calls).0 in (
      λ n at.
          let strikes = strikes_before m.inputs at.0 (struck n ∷ earlier) (subst (StrikesLive m.inputs) at.1 s) in
          back_strike m.inputs earlier n strikes.0,
      λ c at. (
        lemma_live m.inputs earlier c (strikes_before m.inputs at.0 (learned c ∷ earlier) (subst (StrikesLive m.inputs) at.1 s)),
        back_lemma m.inputs earlier c,
      ),
    )
