-- Looking for a live copy of a clause, and for the empty lemma.
use Rattle.std.proofs.Common.{◌≡◌, ℕ, zero, suc, ◌<◌, ◌≤◌, Bool, true, false, cond, not, ◌&&◌, eqb, List, [], ◌∷◌, length, Some, None, Option, sym, refl, ap, ◌∙◌, inl, inr, arith}
use Rattle.std.specs.Prelude.{MatchOption}
use Rattle.std.proofs.lemmas.Bool.{ne_eqb}
use Rattle.cnf.specs.Clauses.{Clause}
use Rattle.drup.specs.History.{Step, learned, same_clause, is_struck, live_copy, ended}
use Rattle.drup.proofs.Numbers.{at_most}
use Rattle.job.specs.History.{down_from}
use Rattle.job.proofs.Histories.{length_down}

-- whether the clause with this number is a live copy
abbrev pub is_copy : (c : Clause) (text : ℕ → Clause) (steps : List Step) → (n : ℕ) → Bool
is_copy c text steps n = same_clause c (text n) && not (is_struck n steps)

module _ (c : Clause) (text : ℕ → Clause) (steps : List Step) where
  -- one number down
  pub copy_down : (m : ℕ) → live_copy c (down_from text (suc m)) steps ≡ cond (is_copy c text steps (suc m)) (suc m) (live_copy c (down_from text m) steps)
  copy_down m = ap (λ (k : ℕ). cond (same_clause c (text (suc m)) && not (is_struck (suc k) steps)) (suc k) (live_copy c (down_from text m) steps)) (length_down text m)

  -- past numbers that are none
  copy_passed : (m n : ℕ) → m ≤ n → ((k : ℕ) → m < k → k ≤ n → is_copy c text steps k ≡ false)
      → live_copy c (down_from text n) steps ≡ live_copy c (down_from text m) steps
  copy_passed m zero h none = let e : 0 ≡ m = omega arith in ap (λ (k : ℕ). live_copy c (down_from text k) steps) e
  copy_passed m (suc n) h none =
      elim (at_most m n h) [
        | inl e ↦ ap (λ (k : ℕ). live_copy c (down_from text k) steps) (sym e)
        | inr less ↦
            copy_down n ∙ ap (λ (b : Bool). cond b (suc n) (live_copy c (down_from text n) steps)) (none (suc n) (omega arith) (omega arith))
            ∙ copy_passed m n less (λ k low high. none k low (omega arith))
      ]

  copy_here : (i : ℕ) → 1 ≤ i → is_copy c text steps i ≡ true → live_copy c (down_from text i) steps ≡ i
  copy_here zero low e = absurd (omega arith)
  copy_here (suc m) low e = copy_down m ∙ ap (λ (b : Bool). cond b (suc m) (live_copy c (down_from text m) steps)) e

  -- the highest number of a live copy
  pub copy_found : (n : ℕ) (r : Option ℕ)
      → MatchOption r ((k : ℕ) → 1 ≤ k → k ≤ n → is_copy c text steps k ≡ false)
      (λ i. (1 ≤ i) × (i ≤ n) × (is_copy c text steps i ≡ true) × ((k : ℕ) → i < k → k ≤ n → is_copy c text steps k ≡ false))
      → MatchOption r (live_copy c (down_from text n) steps ≡ 0) (λ i. (i ≡ live_copy c (down_from text n) steps) × (1 ≤ i))
  copy_found n None none = copy_passed 0 n (omega arith) (λ k low high. none k (omega arith) high)
  copy_found n (Some i) found = (sym (copy_passed i n found.1 found.3 ∙ copy_here i found.0 found.2), found.0)

-- an empty lemma ends a job
pub ended_lemma : (c : Clause) (earlier : List Step) → eqb (length c) 0 ≡ ended (learned c ∷ earlier)
ended_lemma [] earlier = refl
ended_lemma (l ∷ c) earlier = ne_eqb (suc (length c)) 0 (λ e. omega arith)
