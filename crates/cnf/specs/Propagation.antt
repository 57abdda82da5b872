-- Unit propagation: what a clause does under a trail, and the derivation of a conflict.
use Rattle.std.specs.Prelude.{List, [], ◌∷◌, map, ◌≢◌}
use Rattle.cnf.specs.declared.literals.Literal.{Literal}
use Rattle.cnf.specs.Literals.{complement}
use Rattle.cnf.specs.Clauses.{Clause, ◌∈◌}

-- every literal of c is false
abbrev pub Falsified : (trail : List Literal) → Clause → Type 0
Falsified trail c = (k : Literal) → k ∈ c → complement k ∈ trail

-- l has no value, and every other literal of c is false
pub record Forces (trail : List Literal) (c : Clause) (l : Literal) : Type 0 where
  pub stands : l ∈ c
  pub not_true : l ∈ trail → ⊥
  pub not_false : complement l ∈ trail → ⊥
  pub others : (k : Literal) → k ∈ c → (k ≢ l) → complement k ∈ trail

-- a row of clauses of the set s, each but the last forcing one literal, the last falsified
abbrev pub Derivation : (s : Clause → Type 0) → (trail : List Literal) → List Clause → Type 0
Derivation s trail [] = ⊥
Derivation s trail (c ∷ []) = s c × Falsified trail c
Derivation s trail (c ∷ d ∷ row) = s c × ((l : Literal) × Forces trail c l × Derivation s (l ∷ trail) (d ∷ row))

-- l stands in some clause of the row
abbrev pub StandsIn : Literal → List Clause → Type 0
StandsIn l row = (c : Clause) × (c ∈ row) × (l ∈ c)

-- a derivation without an idle entry: the complement of what each forces stands in a later clause of the row
abbrev pub Lean : (s : Clause → Type 0) → (trail : List Literal) → List Clause → Type 0
Lean s trail [] = ⊥
Lean s trail (c ∷ []) = s c × Falsified trail c
Lean s trail (c ∷ d ∷ row) =
    s c × ((l : Literal) × Forces trail c l × StandsIn (complement l) (d ∷ row) × Lean s (l ∷ trail) (d ∷ row))

-- a lemma passes over a set of clauses: its literals taken as false, a conflict is derived
abbrev pub Passes : (s : Clause → Type 0) → Clause → Type 0
Passes s c = (row : List Clause) × Derivation s (map complement c) row
