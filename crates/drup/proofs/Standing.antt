-- The tests that gather a row: what they find is there, and what they do not find is not.
use Rattle.std.proofs.Common.{◌≡◌, true, false, List, sym, ◌∙◌, true≢false}
use Rattle.cnf.specs.declared.literals.Literal.{Literal}
use Rattle.cnf.specs.Clauses.{Clause, ◌∈◌}
use Rattle.cnf.specs.Propagation.{StandsIn}
use Rattle.cnf.proofs.Complements.{found_has, found_true}
use Rattle.cnf.proofs.Passing.{none_passes, some_passes}
use Rattle.drup.specs.Backward.{holds, stands_in}

pub holds_true : (l : Literal) (c : Clause) → holds l c ≡ true → l ∈ c
holds_true = found_true

pub holds_false : {l : Literal} {c : Clause} → l ∈ c → holds l c ≡ false → ⊥
holds_false m n = true≢false (sym (found_has m) ∙ n)

pub stands_in_true : (l : Literal) (row : List Clause) → stands_in l row ≡ true → StandsIn l row
stands_in_true l row e = let r = some_passes (holds l) row e in (r.0, r.1, found_true l r.0 r.2)

pub stands_in_false : (l : Literal) (row : List Clause) → stands_in l row ≡ false → StandsIn l row → ⊥
stands_in_false l row e (c, m, n) = holds_false n (none_passes (holds l) m e)
