-- The conflict of a trial and its row: what a caller can take from them.
use Rattle.std.proofs.Common.{◌≡◌, ℕ, ◌≤◌, Bool, true, false, cond, List, [], ◌∷◌, map, length, refl, ap, ◌∙◌, arith}
use mathlib.Core.List.Memᴰ
use mathlib.Core.List.Memᴰ.{head as here}
use mathlib.Core.List.Memᴰ.{tail as there}
use Rattle.cnf.specs.declared.literals.Literal.{Literal}
use Rattle.cnf.specs.declared.literals.Forced.{Forced}
use Rattle.cnf.specs.Literals.{complement}
use Rattle.cnf.specs.Clauses.{Clause, ◌∈◌, Within, IsClause}
use Rattle.cnf.proofs.Arranging.{all_cons}
use Rattle.drup.specs.Backward.{RightOver, ConflictOver, stands_in, gathered}
use Rattle.engine.specs.Meaning.{Meaning, highest, On, text_of, WellFormed}
use Rattle.engine.proofs.Keeping.{on_within, on_clause}
use Rattle.trial.specs.Numbered.{Numbered}
use Rattle.trial.specs.Gathering.{AllWithin, AllKnown}

-- clauses of a job are in range
pub clauses_within : (top : ℕ) (clauses : List Clause) → top ≤ 512 → ((c : Clause) → c ∈ clauses → IsClause top c) → AllWithin clauses
clauses_within top clauses h each c m k i = let w = (each c m).within k i in (w.0, omega arith)

-- right answers, of which each number has a clause that is in range, are known
pub right_known : (clauses : List Clause) (alive : ℕ → Type 0) (text : ℕ → Clause) (assumed : List Literal)
    → ((n : ℕ) → alive n → Numbered clauses n × Within highest (text n))
    → (answers : List Forced) → RightOver alive text assumed answers → AllKnown clauses answers
right_known clauses alive text assumed live [] right = λ f m. absurd (Memᴰ.not-nil m)
right_known clauses alive text assumed live (f ∷ earlier) right =
    let h = live f.number right.0 in
    all_cons (λ (x : Forced). Numbered clauses x.number × (x.literal.variable ≤ highest))
    (h.0, (h.1 f.literal right.1.stands).1)
    (right_known clauses alive text assumed live earlier right.2)

-- so are those of a trial over the texts of an engine, if each of its texts has a clause with its number
module _ (m : Meaning) (well : WellFormed m) (clauses : List Clause) (all : length m.texts ≤ length clauses) where
  pub on_numbered : (n : ℕ) → On m n → Numbered clauses n
  on_numbered n o = let h = on_within m well n o in (h.0, omega arith)

  pub answers_known : (assumed : List Literal) (answers : List Forced) → RightOver (On m) (text_of m) assumed answers → AllKnown clauses answers
  answers_known assumed answers right =
      right_known clauses (On m) (text_of m) assumed (λ n o. (on_numbered n o, (on_clause m well n o).within)) answers right

-- of a row that is gathered only the texts of its numbers count
module _ (text text₁ text₂ : ℕ → Clause) (alive : ℕ → Type 0) (same : (n : ℕ) → alive n → text₁ n ≡ text₂ n) (assumed : List Literal) where
  same_texts : (row : List ℕ) → ((n : ℕ) → n ∈ row → alive n) → map text₁ row ≡ map text₂ row
  same_texts [] live = refl
  same_texts (n ∷ row) live = rw (same n (live n (here refl)), same_texts row (λ k m. live k (there m))) refl

  pub gathered_same : (answers : List Forced) (row : List ℕ) → RightOver alive text assumed answers → ((n : ℕ) → n ∈ row → alive n)
      → gathered text₁ answers row ≡ gathered text₂ answers row
  gathered_same [] row right live = refl
  gathered_same (f ∷ earlier) row right live =
      ap (λ (cs : List Clause). gathered text₁ earlier (cond (stands_in (complement f.literal) cs) (f.number ∷ row) row)) (same_texts row live)
      ∙ pick (stands_in (complement f.literal) (map text₂ row))
      (gathered_same earlier (f.number ∷ row) right.2 (all_cons alive right.0 live))
      (gathered_same earlier row right.2 live)
    where
      pick : (b : Bool) → gathered text₁ earlier (f.number ∷ row) ≡ gathered text₂ earlier (f.number ∷ row)
          → gathered text₁ earlier row ≡ gathered text₂ earlier row
          → gathered text₁ earlier (cond b (f.number ∷ row) row) ≡ gathered text₂ earlier (cond b (f.number ∷ row) row)
      pick true p q = p
      pick false p q = q

  pub row_same : (answers : List Forced) (conflict : ℕ) → ConflictOver alive text assumed answers conflict
      → gathered text₁ answers (conflict ∷ []) ≡ gathered text₂ answers (conflict ∷ [])
  row_same answers conflict found =
      gathered_same answers (conflict ∷ []) found.right (all_cons alive found.live (λ n m. absurd (Memᴰ.not-nil m)))
