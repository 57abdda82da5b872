-- Passing and unit propagation: a derivation is a run that falsifies a clause, and a run to its end misses no conflict.
use Rattle.std.proofs.Common.{◌≡◌, ℕ, List, [], ◌∷◌, ◌++◌, map, sym, refl, ap, subst, inl, inr}
use mathlib.Core.List.Memᴰ
use Rattle.cnf.specs.declared.literals.Literal.{Literal}
use Rattle.cnf.specs.Literals.{complement}
use Rattle.cnf.specs.Clauses.{Clause, Within}
use Rattle.cnf.specs.Propagation.{Derivation, Forces}
use Rattle.cnf.proofs.Derivations.{derives_before, passing_sound, saturated}
use Rattle.cnf.specs.declared.literals.Forced.{Forced}
use Rattle.drup.specs.History.{Live, LiveClause, Step, table, text}
use Rattle.drup.specs.Forward.{Machine, fed, opened}
use Rattle.drup.specs.WellFormed.{Formed}
use Rattle.drup.specs.Propagating.{EveryRunClashes, FoundByPropagation, PassingIsPropagation, PassingIsSound, Propagated, SomeRunClashes, SomeRunEnds}
use Rattle.drup.specs.Backward.{Right, trail}
use Rattle.drup.proofs.WellFormed.{fed_well, live_within, opened_well, withdrawn}
use Rattle.drup.proofs.Ending.{exhausts}

module _ (s : Clause → Type 0) (assumed : List Literal) where
  -- what a derivation forces is a run
  derivation_run :
      (forced : List Literal) (row : List Clause) → Propagated s assumed forced → Derivation s (forced ++ assumed) row
      → SomeRunClashes s assumed
  derivation_run forced [] p d = elim d [ ]
  derivation_run forced (c ∷ []) p d = (forced, p, (c, d.0, d.1))
  derivation_run forced (c ∷ e ∷ row) p d = derivation_run (d.1.0 ∷ forced) (e ∷ row) ((c, d.0, d.1.1), p) d.1.2

  -- the forcing clauses of a run go before a derivation under its trail
  run_derivation :
      (forced : List Literal) (row : List Clause) → Propagated s assumed forced → Derivation s (forced ++ assumed) row
      → (all : List Clause) × Derivation s assumed all
  run_derivation [] row p d = (row, d)
  run_derivation (l ∷ forced) row (by, p) d =
      run_derivation forced (by.0 ∷ row) p (derives_before s (forced ++ assumed) by.0 l row by.1 by.2 d)

  clash_derives : SomeRunClashes s assumed → (row : List Clause) × Derivation s assumed row
  clash_derives (forced, p, clash) = run_derivation forced (clash.0 ∷ []) p (clash.1, clash.2)

  -- a run to its end falsifies a clause if anything can be derived
  derives_every : (row : List Clause) → Derivation s assumed row → EveryRunClashes s assumed
  derives_every row d forced p (inl clash) = clash
  derives_every row d forced p (inr none) = saturated (forced ++ assumed) assumed row none (λ l. Memᴰ.append_right forced) d

  -- where a run comes to its end, both are so
  found : (c : Clause) → map complement c ≡ assumed → SomeRunEnds s assumed → FoundByPropagation s c
  found c e ends =
      record {
        some_run = rw e (
          λ p. derivation_run [] p.0 tt p.1,
          clash_derives,
        );
        every_run = rw e (
          λ p. derives_every p.0 p.1,
          λ every. clash_derives (ends.0, ends.1, every ends.0 ends.1 (inr ends.2)),
        );
        some_end = rw e ends;
      }

module _ (inputs : List Clause) (earlier : List Step) (assumed : List Literal) where
  -- the literals of right answers
  abbrev forced_by : List Forced → List Literal
  forced_by answers = map (λ f. f.literal) answers

  same_trail : (answers : List Forced) → trail assumed answers ≡ forced_by answers ++ assumed
  same_trail [] = refl
  same_trail (f ∷ answers) = ap {B = List Literal} (λ ls. f.literal ∷ ls) (same_trail answers)

  -- right answers are a run
  answers_run : (answers : List Forced) → Right inputs earlier assumed answers → Propagated (LiveClause inputs earlier) assumed (forced_by answers)
  answers_run [] right = tt
  answers_run (f ∷ answers) right = (
    (
      text (table inputs earlier) f.number,
      (f.number, right.0, refl),
      subst (λ (ls : List Literal). Forces ls (text (table inputs earlier) f.number) f.literal) (same_trail answers) right.1,
    ),
    answers_run answers right.2,
  )

  -- so a run comes to its end
  ends : (highest : ℕ) → ((n : ℕ) → Live inputs earlier n → Within highest (text (table inputs earlier) n))
      → SomeRunEnds (LiveClause inputs earlier) assumed
  ends highest within =
      let (all, right, none) = exhausts inputs earlier highest within assumed in (
        forced_by all,
        answers_run all right,
        λ c l live f.
            none live.0 l live.1
            (rw (same_trail all) (subst (λ (x : Clause). Forces (forced_by all ++ assumed) x l) (sym live.2) f)),
      )

-- an earlier part of a well-formed job is well-formed
part_formed :
    (v n q : ℕ) (inputs : List Clause) (later earlier : List Step) → Formed v n q inputs (later ++ earlier) → Formed v n q inputs earlier
part_formed v n q inputs [] earlier w = w
part_formed v n q inputs (s ∷ later) earlier w =
    part_formed v n q inputs later earlier (withdrawn v n q inputs (s ∷ (later ++ earlier)) w)

-- the theorem
pub passing_is_propagation_lem : PassingIsPropagation
passing_is_propagation_lem v n q calls earlier (later, e) c =
    let m : Machine = fed (opened v n q) calls in
    let well = fed_well (opened v n q) calls (opened_well v n q) in
    let formed =
    part_formed m.variables m.clause_places m.literal_places m.inputs later earlier
    (subst (Formed m.variables m.clause_places m.literal_places m.inputs) e well) in
    found (LiveClause m.inputs earlier) (map complement c) c refl
    (ends m.inputs earlier (map complement c) m.variables
    (live_within m.variables m.clause_places m.literal_places m.inputs earlier formed))

pub passing_is_sound_lem : PassingIsSound
passing_is_sound_lem inputs earlier c passes v sat = passing_sound v (LiveClause inputs earlier) c sat passes
