-- A derivation forces each variable at most once, so it is short.
use Rattle.std.proofs.Common.{ℕ, suc, ◌+◌, ◌≤◌, List, [], ◌∷◌, length, arith}
use Rattle.cnf.specs.declared.literals.Literal.{Literal}
use Rattle.cnf.specs.Clauses.{Clause, Within}
use Rattle.cnf.specs.Propagation.{Derivation}
use Rattle.cnf.specs.Arranging.{names}
use Rattle.cnf.proofs.Derivations.{forced_new}
use Rattle.cnf.specs.declared.literals.Forced.{Forced}
use Rattle.drup.specs.Backward.{RightOver, asked, trail}
use Rattle.drup.proofs.Counting.{counted, counted_more, counted_most}

-- how many of the variables from 1 to the highest have a value
abbrev pub assigned : ℕ → List Literal → ℕ
assigned highest trail = counted highest (λ x. names x trail)

-- a derivation has at most one entry more than there are variables
pub short :
    (highest : ℕ) (s : Clause → Type 0) → ((c : Clause) → s c → Within highest c)
    → (trail : List Literal) (row : List Clause) → Derivation s trail row → length row + assigned highest trail ≤ suc highest
short highest s within trail [] d = elim d [ ]
short highest s within trail (c ∷ []) d = let h = counted_most highest (λ x. names x trail) in omega arith
short highest s within trail (c ∷ e ∷ row) d =
    let l = d.1.0 in
    let f = d.1.1 in
    let w = within c d.0 l f.stands in
    let h = counted_more highest l.variable (λ x. names x trail) w.0 w.1 (forced_new trail c l f) in
    let k = short highest s within (l ∷ trail) (e ∷ row) d.1.2 in
    omega arith

-- each forced literal has a new variable, so a trial asks at most once more than there are variables
module _ (highest : ℕ) (live : ℕ → Type 0) (text : ℕ → Clause) (assumed : List Literal) where
  forced_few :
      ((n : ℕ) → live n → Within highest (text n))
      → (answers : List Forced) → RightOver live text assumed answers → length answers ≤ assigned highest (trail assumed answers)
  forced_few within [] right = omega arith
  forced_few within (f ∷ earlier) right =
      let l = f.literal in
      let w = within f.number right.0 l right.1.stands in
      let new = forced_new (trail assumed earlier) (text f.number) l right.1 in
      let h = counted_more highest l.variable (λ x. names x (trail assumed earlier)) w.0 w.1 new in
      let k = forced_few within earlier right.2 in
      omega arith

  pub asked_few :
      ((n : ℕ) → live n → Within highest (text n))
      → (answers : List Forced) → RightOver live text assumed answers → asked answers ≤ suc highest
  asked_few within answers right =
      let h = forced_few within answers right in
      let k = counted_most highest (λ x. names x (trail assumed answers)) in
      omega arith
