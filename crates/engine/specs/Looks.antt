-- What a text does under a trail, as tests that can be computed.
use Rattle.std.specs.Prelude.{ℕ, Bool, false, cond, not, ◌||◌, List, take, drop, Some, None, Option}
use Rattle.std.specs.List.{list_any, list_all, find}
use Rattle.cnf.specs.declared.literals.Literal.{Literal}
use Rattle.cnf.specs.Literals.{complement, same_literal}
use Rattle.cnf.specs.Clauses.{Clause}
use Rattle.cnf.specs.Arranging.{names}

-- the text of this length that starts at this place
abbrev pub text_at : List Literal → (start length : ℕ) → Clause
text_at places start length = take length (drop start places)

-- l is false: its complement is on the trail
abbrev pub is_false : (trail : List Literal) → Literal → Bool
is_false trail l = list_any (same_literal (complement l)) trail

-- l is the spared literal, if there is one
abbrev pub is_spared : (spared : Option Literal) → Literal → Bool
is_spared None l = false
is_spared (Some k) l = same_literal l k

-- every literal but the spared one is false
abbrev pub all_false_but : (trail : List Literal) → (spared : Option Literal) → Clause → Bool
all_false_but trail spared c = list_all (λ l. is_spared spared l || is_false trail l) c

-- every literal is false
abbrev pub falsified : (trail : List Literal) → Clause → Bool
falsified trail c = all_false_but trail None c

-- the first literal whose variable has no value
abbrev pub first_open : (trail : List Literal) → Clause → Option Literal
first_open trail c = find (λ l. not (names l.variable trail)) c

-- this literal, if every other literal is false
abbrev pub if_others_false : (trail : List Literal) → Clause → Option Literal → Option Literal
if_others_false trail c None = None
if_others_false trail c (Some l) = cond (all_false_but trail (Some l) c) (Some l) None

-- the literal that is forced
abbrev pub forced : (trail : List Literal) → Clause → Option Literal
forced trail c = if_others_false trail c (first_open trail c)
