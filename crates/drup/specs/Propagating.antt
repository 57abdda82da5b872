-- Unit propagation as it is run, and what it says of a lemma. A derivation names only the clauses that lead to a conflict;
-- a run forces literals in any order, needed or not, until a clause is falsified or nothing more is forced.
use Rattle.std.specs.Prelude.{ℕ, ◌⊎◌, ◌↔◌, List, [], ◌∷◌, ◌++◌, map}
use Rattle.cnf.specs.declared.literals.Literal.{Literal}
use Rattle.cnf.specs.Literals.{complement}
use Rattle.cnf.specs.Clauses.{Clause, Assignment, Satisfies}
use Rattle.cnf.specs.Propagation.{Falsified, Forces, Passes}
use Rattle.drup.specs.History.{Step, LiveClause, Before}
use Rattle.drup.specs.Forward.{Machine, opened, Call, fed}

-- over a set of clauses
module _ (s : Clause → Type 0) where
  -- these literals, newest first, were forced one after another, each by a clause of the set under the trail so far
  abbrev pub Propagated : (assumed forced : List Literal) → Type 0
  Propagated assumed [] = Unit {0}
  Propagated assumed (l ∷ forced) =
      ((c : Clause) × s c × Forces (forced ++ assumed) c l) × Propagated assumed forced

  -- some clause of the set is falsified
  abbrev pub Clashes : (trail : List Literal) → Type 0
  Clashes trail = (c : Clause) × s c × Falsified trail c

  -- no clause of the set forces another literal: the trail is a fixed point
  abbrev pub NoneForced : (trail : List Literal) → Type 0
  NoneForced trail = (c : Clause) (l : Literal) → s c → Forces trail c l → ⊥

  -- a run may stop: a clause is falsified, or nothing more is forced
  abbrev pub AtEnd : (trail : List Literal) → Type 0
  AtEnd trail = Clashes trail ⊎ NoneForced trail

  -- some run from the assumed literals falsifies a clause
  abbrev pub SomeRunClashes : (assumed : List Literal) → Type 0
  SomeRunClashes assumed = (forced : List Literal) × Propagated assumed forced × Clashes (forced ++ assumed)

  -- every run to an end does, in whatever order
  abbrev pub EveryRunClashes : (assumed : List Literal) → Type 0
  EveryRunClashes assumed =
      (forced : List Literal) → Propagated assumed forced → AtEnd (forced ++ assumed) → Clashes (forced ++ assumed)

  -- some run comes to a fixed point
  abbrev pub SomeRunEnds : (assumed : List Literal) → Type 0
  SomeRunEnds assumed = (forced : List Literal) × Propagated assumed forced × NoneForced (forced ++ assumed)

  -- whether a lemma passes is what unit propagation with its literals false finds out
  pub record FoundByPropagation (c : Clause) : Type 0 where
    pub some_run : Passes s c ↔ SomeRunClashes (map complement c)
    pub every_run : Passes s c ↔ EveryRunClashes (map complement c)
    pub some_end : SomeRunEnds (map complement c)

  -- every assignment that satisfies the set satisfies c
  abbrev pub Implied : Clause → Type 0
  Implied c = (v : Assignment) → ((d : Clause) → s d → Satisfies v d) → Satisfies v c

-- after any calls, at any step: a lemma passes exactly if one run of unit propagation over the clauses live there
-- falsifies a clause, and exactly if every run to its end does; and a run always comes to its end
abbrev pub PassingIsPropagation : Type 0
PassingIsPropagation =
    (variables clause_places literal_places : ℕ) (calls : List Call) (earlier : List Step)
    → let m : Machine = fed (opened variables clause_places literal_places) calls in
    Before earlier m.steps → (c : Clause) → FoundByPropagation (LiveClause m.inputs earlier) c

-- a lemma that passes is implied by the clauses live at its step
abbrev pub PassingIsSound : Type 0
PassingIsSound =
    (inputs : List Clause) (earlier : List Step) (c : Clause)
    → Passes (LiveClause inputs earlier) c → Implied (LiveClause inputs earlier) c
