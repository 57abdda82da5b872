-- What the forward check accepts is refuted.
use Rattle.std.proofs.Common.{◌≡◌, true, List, [], ◌∷◌, refl, subst}
use mathlib.Core.Bool.{false≢true}
use mathlib.Core.List.Memᴰ
use mathlib.Core.List.Memᴰ.{head as here}
use Rattle.cnf.specs.Clauses.{Assignment, Clause, Satisfies, Unsatisfiable, ◌∈◌}
use Rattle.cnf.proofs.Arranging.{all_cons}
use Rattle.cnf.proofs.Derivations.{passing_sound}
use Rattle.drup.specs.History.{LiveClause, Step, ended, learned, struck, table, text}
use Rattle.drup.specs.Forward.{AllPass}
use Rattle.drup.specs.Laws.{AcceptanceRefutes}
use Rattle.drup.proofs.Numbers.{text_in_table}

-- if every lemma passes, whatever satisfies the inputs satisfies every clause
pub all_follow :
    (v : Assignment) (inputs : List Clause) (steps : List Step) → AllPass inputs steps
    → ((c : Clause) → c ∈ inputs → Satisfies v c) → (c : Clause) → c ∈ table inputs steps → Satisfies v c
all_follow v inputs [] passes sat = sat
all_follow v inputs (struck n ∷ earlier) passes sat = all_follow v inputs earlier passes sat
all_follow v inputs (learned d ∷ earlier) passes sat =
    all_cons (Satisfies v)
    (passing_sound v (LiveClause inputs earlier) d
    (λ c live. subst (Satisfies v) live.2
    (all_follow v inputs earlier passes.1 sat (text (table inputs earlier) live.0)
    (text_in_table (table inputs earlier) live.0 live.1.numbered live.1.entered)))
    passes.0)
    (all_follow v inputs earlier passes.1 sat)

-- so no assignment satisfies the inputs of an accepted job
pub refuted : (inputs : List Clause) (steps : List Step) → ended steps ≡ true → AllPass inputs steps → Unsatisfiable inputs
refuted inputs [] e passes v sat = false≢true e
refuted inputs (struck n ∷ earlier) e passes v sat = false≢true e
refuted inputs (learned (l ∷ c) ∷ earlier) e passes v sat = false≢true e
refuted inputs (learned [] ∷ earlier) e passes v sat =
    Memᴰ.not-nil (all_follow v inputs (learned [] ∷ earlier) passes sat [] (here refl)).1

pub acceptance_refutes_lem : AcceptanceRefutes
acceptance_refutes_lem m a = refuted m.inputs m.steps a.0 a.1
