-- A test of a clause in a type's invariant.
use Rattle.std.specs.Prelude.{ℕ, Bool, true, ◌&&◌, List, [], ◌∷◌, nat_le, nat_lt}
use Rattle.cnf.specs.declared.literals.Literal.{Literal}

-- the variables rise, from above the lowest up to the highest
abbrev pub ascending : (lowest highest : ℕ) → List Literal → Bool
ascending lowest highest [] = true
ascending lowest highest (l ∷ c) =
    (nat_lt lowest l.variable && nat_le l.variable highest) && ascending l.variable highest c
