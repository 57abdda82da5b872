-- What holds of every machine that calls can reach.
use Rattle.std.proofs.Common.{◌≡◌, ℕ, zero, suc, ◌+◌, ◌≤◌, true, false, ltb, leb, List, [], ◌∷◌, length, refl, ap, true≢false, arith}
use mathlib.Core.List.Memᴰ
use mathlib.Core.List.Memᴰ.{tail as there}
use Rattle.std.proofs.lemmas.Bool.{leb-false, ltb-false, or_parts}
use Rattle.cnf.specs.declared.literals.Literal.{Literal}
use Rattle.cnf.specs.Clauses.{Clause, IsClause, Within, ◌∈◌, literals}
use Rattle.cnf.specs.Arranging.{arranged, beyond, twice}
use Rattle.cnf.proofs.Arranging.{all_cons, arranged_clause, arranged_length}
use Rattle.drup.specs.History.{Live, Step, begun, ended, learned, struck, table, text}
use Rattle.drup.specs.Forward.{Call, Machine, Rule, after, clause, clauses, fed, first_broken, full, lemma, opened, refused, rule, rules, strike, told, unless, withdraw, without_last}
use Rattle.drup.specs.WellFormed.{Formed, NoEmpty, OnlyLastEmpty, StaysWellFormed, WellFormed}
use Rattle.drup.proofs.Numbers.{text_in_table}

-- a new machine is well-formed
pub opened_well : (variables clause_places literal_places : ℕ) → WellFormed (opened variables clause_places literal_places)
opened_well v n q =
    record { all_clauses = λ c m. absurd (Memᴰ.not-nil m); places = omega arith; room = omega arith; only_last = tt }

-- a job that has not ended has no empty lemma
pub not_ended : (steps : List Step) → OnlyLastEmpty steps → ended steps ≡ false → NoEmpty steps
not_ended [] o e = tt
not_ended (learned [] ∷ earlier) o e = absurd (true≢false e)
not_ended (learned (l ∷ c) ∷ earlier) o e = o
not_ended (struck n ∷ earlier) o e = o

pub no_empty_only_last : (steps : List Step) → NoEmpty steps → OnlyLastEmpty steps
no_empty_only_last [] n = tt
no_empty_only_last (learned [] ∷ earlier) n = absurd n
no_empty_only_last (learned (l ∷ c) ∷ earlier) n = n
no_empty_only_last (struck k ∷ earlier) n = n

-- no rule of the list is broken
abbrev pub Unbroken : List Rule → Type 0
Unbroken [] = Unit {0}
Unbroken (rule n broken ∷ rules) = (broken ≡ false) × Unbroken rules

-- the numbers of rules begin at 1
abbrev Numbered : List Rule → Type 0
Numbered [] = Unit {0}
Numbered (rule n broken ∷ rules) = (1 ≤ n) × Numbered rules

-- a call that is not turned down breaks no rule
pub unbroken : (rules : List Rule) → Numbered rules → first_broken rules ≡ 0 → Unbroken rules
unbroken [] n e = tt
unbroken (rule k true ∷ rules) n e = absurd (omega arith)
unbroken (rule k false ∷ rules) n e = (refl, unbroken rules n.1 e)

-- a call that breaks no rule is not turned down
pub none_broken : (rules : List Rule) → Unbroken rules → first_broken rules ≡ 0
none_broken [] u = refl
none_broken (rule n broken ∷ rules) u = rw u.0 (none_broken rules u.1)

-- a call that is not turned down
pub taken : (m : Machine) (call : Call) → refused m call ≡ 0 → told m call ≡ after m call
taken m call e = ap (λ (n : ℕ). unless n (after m call) m) e

-- a clause that is entered has its place
entered :
    (m : Machine) (ls : List Literal) → WellFormed m → beyond m.variables ls ≡ false → twice ls ≡ false → full m ls ≡ false
    → ((c : Clause) → c ∈ (arranged ls ∷ clauses m) → IsClause m.variables c)
    × (length (arranged ls ∷ clauses m) ≤ m.clause_places)
    × (literals (arranged ls ∷ clauses m) ≤ m.literal_places)
entered m ls w b t f =
    let n = or_parts (leb m.clause_places (length (clauses m))) (ltb m.literal_places (length ls + literals (clauses m))) f in
    let h = leb-false m.clause_places (length (clauses m)) n.0 in
    let k = ltb-false m.literal_places (length ls + literals (clauses m)) n.1 in (
      all_cons (IsClause m.variables) (arranged_clause m.variables ls b t) w.all_clauses,
      h,
      rw (arranged_length ls) k,
    )

-- an input clause comes before all steps
input_entered :
    (m : Machine) (steps : List Step) (c : Clause) → begun steps ≡ false
    → ((d : Clause) → d ∈ (c ∷ table m.inputs steps) → IsClause m.variables d)
    × (length (c ∷ table m.inputs steps) ≤ m.clause_places)
    × (literals (c ∷ table m.inputs steps) ≤ m.literal_places)
    → Formed m.variables m.clause_places m.literal_places (c ∷ m.inputs) steps
input_entered m [] c e n = record { all_clauses = n.0; places = n.1; room = n.2; only_last = tt }
input_entered m (s ∷ earlier) c e n = absurd (true≢false e)

-- the latest step is taken back
pub withdrawn :
    (variables clause_places literal_places : ℕ) (inputs : List Clause) (steps : List Step)
    → Formed variables clause_places literal_places inputs steps
    → Formed variables clause_places literal_places inputs (without_last steps)
withdrawn v n q inputs [] w = w
withdrawn v n q inputs (learned c ∷ earlier) w =
    record {
      all_clauses = λ d k. w.all_clauses d (there k);
      places = omega arith;
      room = omega arith;
      only_last = no_empty_only_last earlier w.only_last;
    }
withdrawn v n q inputs (struck k ∷ earlier) w =
    record { all_clauses = w.all_clauses; places = w.places; room = w.room; only_last = no_empty_only_last earlier w.only_last }

-- an accepted call keeps a machine well-formed
pub after_well : (m : Machine) (call : Call) → WellFormed m → refused m call ≡ 0 → WellFormed (after m call)
after_well m (clause ls) w e =
    let (b, (t, (begun, (f, u)))) = unbroken (rules m (clause ls)) (omega arith) e in
    input_entered m m.steps (arranged ls) begun (entered m ls w b t f)
after_well m (lemma ls) w e =
    let (b, (t, (on, (f, u)))) = unbroken (rules m (lemma ls)) (omega arith) e in
    let n = entered m ls w b t f in
    record { all_clauses = n.0; places = n.1; room = n.2; only_last = not_ended m.steps w.only_last on }
after_well m (strike ls) w e =
    let (b, (t, (on, u))) = unbroken (rules m (strike ls)) (omega arith) e in
    record { all_clauses = w.all_clauses; places = w.places; room = w.room; only_last = not_ended m.steps w.only_last on }
after_well m withdraw w e = withdrawn m.variables m.clause_places m.literal_places m.inputs m.steps w

-- so does any call
pub told_well : (m : Machine) (call : Call) → WellFormed m → WellFormed (told m call)
told_well m call w = go (refused m call) refl
  where
    go : (n : ℕ) → refused m call ≡ n → WellFormed (unless n (after m call) m)
    go zero e = after_well m call w e
    go (suc n) e = w

-- and any row of calls
pub fed_well : (m : Machine) (calls : List Call) → WellFormed m → WellFormed (fed m calls)
fed_well m [] w = w
fed_well m (call ∷ earlier) w = told_well (fed m earlier) call (fed_well m earlier w)

-- the clauses live behind the steps of a well-formed job are over its variables
pub live_within :
    (v n q : ℕ) (inputs : List Clause) (steps : List Step) → Formed v n q inputs steps
    → (k : ℕ) → Live inputs steps k → Within v (text (table inputs steps) k)
live_within v n q inputs steps w k live =
    (w.all_clauses (text (table inputs steps) k) (text_in_table (table inputs steps) k live.numbered live.entered)).within

pub stays_well_formed : StaysWellFormed
stays_well_formed = (opened_well, told_well)
