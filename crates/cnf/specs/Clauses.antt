-- Clauses and assignments.
use Rattle.std.specs.Prelude.{◌≡◌, ℕ, ◌+◌, ◌<◌, ◌≤◌, Bool, not, List, [], ◌∷◌, length}
use mathlib.Core.List.{Memᴰ}
use Rattle.cnf.specs.declared.literals.Literal.{Literal}

infix 40 ◌∈◌
-- a is an element of xs
abbrev pub ◌∈◌ : {A : Type 0} → A → List A → Type 0
a ∈ xs = Memᴰ a xs

-- a clause: the disjunction of its literals, which stand by rising variable, no variable twice
abbrev pub Clause : Type 0
Clause = List Literal

-- each literal has a lower variable than all after it
abbrev pub Rising : Clause → Type 0
Rising [] = Unit {0}
Rising (l ∷ c) = ((k : Literal) → k ∈ c → l.variable < k.variable) × Rising c

-- the variables lie from 1 to the highest
abbrev pub Within : (highest : ℕ) → List Literal → Type 0
Within highest ls = (k : Literal) → k ∈ ls → (1 ≤ k.variable) × (k.variable ≤ highest)

-- a clause over the variables from 1 to the highest
pub record IsClause (highest : ℕ) (c : Clause) : Type 0 where
  pub rising : Rising c
  pub within : Within highest c

-- the same literals, in any order
abbrev pub SameLiterals : List Literal → List Literal → Type 0
SameLiterals ks ls = ((l : Literal) → l ∈ ks → l ∈ ls) × ((l : Literal) → l ∈ ls → l ∈ ks)

-- an assignment gives each variable a truth value
abbrev pub Assignment : Type 0
Assignment = ℕ → Bool

-- a literal is true if its variable has the value that it asks for
abbrev pub IsTrue : Assignment → Literal → Type 0
IsTrue v l = v l.variable ≡ not l.negated

-- some literal of c is true
abbrev pub Satisfies : Assignment → Clause → Type 0
Satisfies v c = (l : Literal) × (l ∈ c) × IsTrue v l

-- no assignment satisfies every clause of the list
abbrev pub Unsatisfiable : List Clause → Type 0
Unsatisfiable cs = (v : Assignment) → ((c : Clause) → c ∈ cs → Satisfies v c) → ⊥

-- how many literals the clauses hold in all
abbrev pub literals : List Clause → ℕ
literals [] = 0
literals (c ∷ cs) = length c + literals cs
