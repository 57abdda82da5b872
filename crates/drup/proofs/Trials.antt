-- Trials: a conflict gives a row with no idle entry, and nothing shows that the lemma does not pass.
use Rattle.std.proofs.Common.{◌≡◌, ℕ, suc, ◌+◌, ◌≤◌, Bool, true, false, cond, List, [], ◌∷◌, map, length, sym, refl, ap, ◌∙◌, subst, inl, inr, arith}
use mathlib.Core.List.Memᴰ
use mathlib.Core.List.Memᴰ.{cases_cons as in-cons}
use mathlib.Core.List.Memᴰ.{tail as there}
use Rattle.std.proofs.lemmas.Bool.{cond_both}
use Rattle.cnf.specs.declared.literals.Literal.{Literal}
use Rattle.cnf.specs.Literals.{complement}
use Rattle.cnf.specs.Clauses.{Clause, ◌∈◌}
use Rattle.cnf.specs.Propagation.{Derivation, Falsified, Forces, Lean, Passes, StandsIn}
use Rattle.cnf.proofs.Arranging.{all_cons}
use Rattle.cnf.proofs.Complements.{complement_twice}
use Rattle.cnf.proofs.Derivations.{lean_before, lean_derives, narrowed, saturated}
use Rattle.cnf.specs.declared.literals.Forced.{Forced}
use Rattle.drup.specs.History.{LiveClause, Step, table, text}
use Rattle.drup.specs.Backward.{Conflict, ConflictOver, Nothing, Right, RightOver, asked, gathered, stands_in, trail}
use Rattle.drup.proofs.Standing.{stands_in_false, stands_in_true}

-- what was assumed stays on the trail
pub assumed_stays : (assumed : List Literal) (answers : List Forced) (l : Literal) → l ∈ assumed → l ∈ trail assumed answers
assumed_stays assumed [] l m = m
assumed_stays assumed (f ∷ earlier) l m = there (assumed_stays assumed earlier l m)

-- what holds of the number of every right answer and of a row holds of the row that is gathered
pub gathered_alive : (text text' : ℕ → Clause) (alive : ℕ → Type 0) (assumed : List Literal) (answers : List Forced) (row : List ℕ)
    → RightOver alive text assumed answers → ((n : ℕ) → n ∈ row → alive n) → (n : ℕ) → n ∈ gathered text' answers row → alive n
gathered_alive text text' alive assumed [] row right live = live
gathered_alive text text' alive assumed (f ∷ earlier) row right live =
    gathered_alive text text' alive assumed earlier _ right.2
    (cond_both (stands_in (complement f.literal) (map text' row)) (f.number ∷ row) row (λ (r : List ℕ). (n : ℕ) → n ∈ r → alive n)
    (λ e. all_cons alive right.0 live) (λ e. live))

-- so the row of a conflict holds only numbers that are alive
pub row_alive : (text text' : ℕ → Clause) (alive : ℕ → Type 0) (assumed : List Literal) (answers : List Forced) (conflict : ℕ)
    → ConflictOver alive text assumed answers conflict → (n : ℕ) → n ∈ gathered text' answers (conflict ∷ []) → alive n
row_alive text text' alive assumed answers conflict found =
    gathered_alive text text' alive assumed answers (conflict ∷ []) found.right (all_cons alive found.live (λ n m. absurd (Memᴰ.not-nil m)))

-- a row has at most as many numbers as there were answers, the conflict among them
pub gathered_few : (text : ℕ → Clause) (answers : List Forced) (row : List ℕ) → length (gathered text answers row) ≤ length answers + length row
gathered_few text [] row = omega arith
gathered_few text (f ∷ earlier) row =
    let more = gathered_few text earlier (f.number ∷ row) in
    let less = gathered_few text earlier row in
    cond_both (stands_in (complement f.literal) (map text row)) (f.number ∷ row) row
    (λ (r : List ℕ). length (gathered text earlier r) ≤ suc (length earlier) + length row) (λ e. omega arith) (λ e. omega arith)

-- so an engine has answered at least as often as the row has numbers
pub row_few : (text : ℕ → Clause) (answers : List Forced) (conflict : ℕ) → length (gathered text answers (conflict ∷ [])) ≤ asked answers
row_few text answers conflict = let h = gathered_few text answers (conflict ∷ []) in omega arith

module _ (inputs : List Clause) (steps : List Step) (assumed : List Literal) where
  -- a lean row under the whole trail is gathered into one under what was assumed
  gathered_lean :
      (answers : List Forced) (row : List ℕ) → Right inputs steps assumed answers
      → Lean (LiveClause inputs steps) (trail assumed answers) (map (text (table inputs steps)) row)
      → Lean (LiveClause inputs steps) assumed (map (text (table inputs steps)) (gathered (text (table inputs steps)) answers row))
  gathered_lean [] row right d = d
  gathered_lean (f ∷ earlier) row right d =
      gathered_lean earlier
      (cond (stands_in (complement f.literal) (map (text (table inputs steps)) row)) (f.number ∷ row) row)
      right.2
      (chosen (stands_in (complement f.literal) (map (text (table inputs steps)) row)) refl)
    where
      l : Literal
      l = f.literal

      texts : List Clause
      texts = map (text (table inputs steps)) row

      chosen :
          (b : Bool) → stands_in (complement l) texts ≡ b
          → Lean (LiveClause inputs steps) (trail assumed earlier) (map (text (table inputs steps)) (cond b (f.number ∷ row) row))
      chosen true e =
          lean_before (LiveClause inputs steps) (trail assumed earlier) (text (table inputs steps) f.number) l texts
          (f.number, right.0, refl) right.1 (stands_in_true (complement l) texts e) d
      chosen false e =
          narrowed (LiveClause inputs steps) (l ∷ trail assumed earlier) (trail assumed earlier) texts (λ k m. there m)
          (λ k st m. elim (in-cons m) [
            | inl p ↦ absurd (stands_in_false (complement l) texts e
                (subst (λ (x : Literal). StandsIn x texts) (sym (complement_twice k) ∙ ap complement p) st))
            | inr m' ↦ m'
          ])
          d

  module _ (answers : List Forced) (n : ℕ) (conflict : Conflict inputs steps assumed answers n) where
    -- the row of a conflict is a derivation with no idle entry
    pub conflict_lean :
        Lean (LiveClause inputs steps) assumed (map (text (table inputs steps)) (gathered (text (table inputs steps)) answers (n ∷ [])))
    conflict_lean =
        gathered_lean answers (n ∷ []) conflict.right ((n, conflict.live, refl), conflict.false_there)

  -- nothing shows that no derivation exists
  pub nothing_derives :
      (answers : List Forced) → Nothing inputs steps assumed answers → (row : List Clause)
      → Derivation (LiveClause inputs steps) assumed row → ⊥
  nothing_derives answers nothing row d =
      let clash =
      saturated (trail assumed answers) assumed row
      (λ c l s f. nothing.none_forces s.0 l s.1 (subst (λ (x : Clause). Forces (trail assumed answers) x l) (sym s.2) f))
      (assumed_stays assumed answers) d in
      nothing.none_false clash.1.0 clash.1.1 (subst (Falsified (trail assumed answers)) (sym clash.1.2) clash.2)

-- so a trial that ends in a conflict shows that the lemma passes
pub conflict_passes :
    (inputs : List Clause) (steps : List Step) (c : Clause) (answers : List Forced) (n : ℕ)
    → Conflict inputs steps (map complement c) answers n → Passes (LiveClause inputs steps) c
conflict_passes inputs steps c answers n conflict =
    let row : List Clause = map (text (table inputs steps)) (gathered (text (table inputs steps)) answers (n ∷ [])) in
    (row, lean_derives (LiveClause inputs steps) (map complement c) row (conflict_lean inputs steps (map complement c) answers n conflict))
