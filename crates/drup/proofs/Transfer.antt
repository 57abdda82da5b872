-- A trial over clauses as an engine shows them, by number, is the trial over the live clauses, if the engine shows just those.
use Rattle.std.proofs.Common.{◌≡◌, ℕ, Bool, true, false, cond, List, [], ◌∷◌, map, sym, refl, ap, ◌∙◌, subst}
use mathlib.Core.List.Memᴰ.{head as here}
use mathlib.Core.List.Memᴰ.{tail as there}
use Rattle.cnf.specs.declared.literals.Literal.{Literal}
use Rattle.cnf.specs.Literals.{complement}
use Rattle.cnf.specs.Clauses.{Clause, ◌∈◌}
use Rattle.cnf.specs.Propagation.{Falsified, Forces}
use Rattle.cnf.proofs.Arranging.{all_cons}
use Rattle.cnf.specs.declared.literals.Forced.{Forced}
use Rattle.drup.specs.Backward.{ConflictOver, NothingOver, RightOver, gathered, stands_in, trail}

module _ (alive alive' : ℕ → Type 0) (text text' : ℕ → Clause)
    (to : (n : ℕ) → alive n → alive' n) (same : (n : ℕ) → alive' n → text n ≡ text' n) (assumed : List Literal) where
  pub right_to : (answers : List Forced) → RightOver alive text assumed answers → RightOver alive' text' assumed answers
  right_to [] r = tt
  right_to (f ∷ earlier) r =
      let l = to f.number r.0 in
      (l, subst (λ (c : Clause). Forces (trail assumed earlier) c f.literal) (same f.number l) r.1, right_to earlier r.2)

  pub conflict_to :
      (answers : List Forced) (n : ℕ) → ConflictOver alive text assumed answers n → ConflictOver alive' text' assumed answers n
  conflict_to answers n c =
      let l = to n c.live in
      record {
        right = right_to answers c.right;
        live = l;
        false_there = subst (Falsified (trail assumed answers)) (same n l) c.false_there;
      }

  pub nothing_to :
      ((n : ℕ) → alive' n → alive n)
      → (answers : List Forced) → NothingOver alive text assumed answers → NothingOver alive' text' assumed answers
  nothing_to from answers c =
      record {
        right = right_to answers c.right;
        none_false = λ n l f. c.none_false n (from n l) (subst (Falsified (trail assumed answers)) (sym (same n l)) f);
        none_forces = λ n k l f.
            c.none_forces n k (from n l) (subst (λ (x : Clause). Forces (trail assumed answers) x k) (sym (same n l)) f);
      }

  same_texts : (row : List ℕ) → ((n : ℕ) → n ∈ row → alive' n) → map text row ≡ map text' row
  same_texts [] live = refl
  same_texts (n ∷ row) live = rw (same n (live n (here refl)), same_texts row (λ k x. live k (there x))) refl

  -- and so is the row of its conflict
  pub gathered_to :
      (answers : List Forced) (row : List ℕ) → RightOver alive text assumed answers → ((n : ℕ) → n ∈ row → alive' n)
      → gathered text answers row ≡ gathered text' answers row
  gathered_to [] row r live = refl
  gathered_to (f ∷ earlier) row r live =
      ap (λ (cs : List Clause). gathered text earlier (cond (stands_in (complement f.literal) cs) (f.number ∷ row) row)) (same_texts row live)
      ∙ pick (stands_in (complement f.literal) (map text' row))
      (gathered_to earlier (f.number ∷ row) r.2 (all_cons alive' (to f.number r.0) live))
      (gathered_to earlier row r.2 live)
    where
      pick :
          (b : Bool) → gathered text earlier (f.number ∷ row) ≡ gathered text' earlier (f.number ∷ row)
          → gathered text earlier row ≡ gathered text' earlier row
          → gathered text earlier (cond b (f.number ∷ row) row) ≡ gathered text' earlier (cond b (f.number ∷ row) row)
      pick true p q = p
      pick false p q = q
