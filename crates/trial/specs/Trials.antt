-- Trials of any clauses over any engine.
use Rattle.std.specs.Prelude.{◌≡◌, ℕ, suc, ◌+◌, ◌≤◌, Bool, true, false, List, [], ◌∷◌, length, Some, None, Ok, Err, Option, Result}
use Rattle.cnf.specs.declared.literals.Literal.{Literal}
use Rattle.cnf.specs.declared.faults.ClauseFault.TheVariants.{OutOfRange, Repeated}
use Rattle.cnf.specs.Clauses.{Clause}
use Rattle.cnf.specs.Arranging.{beyond, in_range_until, twice, new_until, arranged}
use Rattle.cnf.specs.Propagation.{Passes}
use Rattle.engine.specs.declared.faults.EngineFault.{EngineFault}
use Rattle.engine.specs.declared.faults.EngineFault.TheVariants.{Clause as Faulty, TrialOpen}
use Rattle.engine.specs.Meaning.{Meaning, highest, On, text_of, with_opened, counted_by, rule, first_broken}

-- the texts that are on
abbrev pub OnText : Meaning → Clause → Type 0
OnText m c = (n : ℕ) × On m n × (text_of m n ≡ c)

-- a yes or no that is right
abbrev pub Decides : Bool → (P : Type 0) → Type 0
Decides true P = P
Decides false P = P → ⊥

-- A trial tells whether the clause passes over the texts that are on; it leaves no trial and an empty trail, and has asked
-- once for each literal that was forced, and once more.
abbrev pub Tried : Meaning → Clause → (conflict : Bool) → Meaning → Type 0
Tried m c b n =
    Decides b (Passes (OnText m) c)
    × ((forced : ℕ) × (length c + forced ≤ highest) × (n ≡ with_opened false (counted_by (suc forced) m)))

-- why a trial of literals is refused, if it is
abbrev pub no_try : Meaning → List Literal → Option EngineFault
no_try m ls =
    first_broken (
    rule m.opened TrialOpen
    ∷ rule (beyond highest ls) (Faulty (OutOfRange (in_range_until highest ls)))
    ∷ rule (twice ls) (Faulty (Repeated (new_until [] ls)))
    ∷ [])

-- such a trial: before, literals, result, after
abbrev pub Tries : Meaning → List Literal → Result Bool EngineFault → Meaning → Type 0
Tries m ls (Ok b) n = (no_try m ls ≡ None) × Tried m (arranged ls) b n
Tries m ls (Err e) n = (no_try m ls ≡ Some e) × (n ≡ m)
