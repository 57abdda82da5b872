-- Literals and their order.
use Rattle.std.specs.Prelude.{Bool, not, ◌&&◌, ◌||◌, ◌==◌, nat_lt}
use Rattle.std.specs.Bool.{beq}
use Rattle.cnf.specs.declared.literals.Literal.{Literal}

-- the literal that is true exactly when l is false
abbrev pub complement : Literal → Literal
complement l = record { variable = l.variable; negated = not l.negated }

-- by rising variable; of a variable's two literals the positive one comes first
abbrev pub earlier : Literal → Literal → Bool
earlier k l = nat_lt k.variable l.variable || (k.variable == l.variable && (not k.negated && l.negated))

-- the same variable and the same sign
abbrev pub same_literal : Literal → Literal → Bool
same_literal k l = k.variable == l.variable && beq k.negated l.negated
