-- What a table of seen literals says.
use Rattle.std.specs.Prelude.{◌≡◌, Bool, false, cond, List, slice_index_or}
use Rattle.cnf.specs.declared.literals.Literal.{Literal}
use Rattle.cnf.specs.Clauses.{Clause}
use Rattle.drup.specs.Backward.{stands_in}
use Rattle.trial.specs.declared.seen.Signs.{Signs}
use Rattle.trial.specs.declared.seen.Seen.{Seen}

-- no sign was seen
abbrev pub no_signs : Signs
no_signs = record { positive = false; negative = false }

-- the sign of this literal is one of these
abbrev pub has_sign : Signs → Literal → Bool
has_sign signs l = cond l.negated signs.negative signs.positive

-- l was seen
abbrev pub sees : Seen → Literal → Bool
sees s l = has_sign (slice_index_or s.signs l.variable no_signs) l

-- what stands in these clauses was seen, and nothing else
abbrev pub SeesJust : Seen → List Clause → Type 0
SeesJust s clauses = (l : Literal) → sees s l ≡ stands_in l clauses
