-- Three slips of a backward check, each beside the rule on a small job where the outcomes part. A slip goes as the rule
-- does but for one choice.
use Rattle.std.specs.Prelude.{◌≡◌, ℕ, suc, ◌+◌, true, false, ◌⊎◌, ◌↔◌, List, [], ◌∷◌, map, length}
use Rattle.cnf.specs.Literals.{complement}
use Rattle.cnf.specs.Clauses.{Clause}
use Rattle.cnf.specs.declared.literals.Forced.{Forced}
use Rattle.drup.specs.History.{Step, learned, struck, table, next_number, text, is_struck, Live}
use Rattle.drup.specs.Forward.{Machine, opened, Call, clause, lemma, strike, fed, Accepts}
use Rattle.drup.specs.Backward.{ConflictOver, NothingOver, asked, gathered, Verdict, with_row, Report, report, Outcome, accepted, fails}
use Rattle.drup.specs.Box.{empty_kept, Checks}
use Rattle.drup.specs.Jobs.{pos, neg}

-- the choices of a check: the clauses that a lemma c, learned behind these steps, is tried over, and the row of a conflict
-- at clause n
pub record Manner : Type 1 where
  pub alive : (c : Clause) → (earlier : List Step) → ℕ → Type 0
  pub texts : (c : Clause) → (earlier : List Step) → ℕ → Clause
  pub row_of : (text : ℕ → Clause) → List Forced → (n : ℕ) → List ℕ

-- the rule: over the clauses live at the lemma's step; what the conflict needs, from the latest answer back
abbrev pub by_rule : Machine → Manner
by_rule m = record {
  alive = λ c earlier. Live m.inputs earlier;
  texts = λ c earlier. text (table m.inputs earlier);
  row_of = λ text answers n. gathered text answers (n ∷ []);
}

-- the first slip: what was struck stays so, and a lemma is tried over those of its clauses that live at the end
abbrev pub live_at_end : Machine → Manner
live_at_end m = record {
  alive = λ c earlier n. Live m.inputs earlier n × (is_struck n m.steps ≡ false);
  texts = (by_rule m).texts;
  row_of = (by_rule m).row_of;
}

-- the forced numbers, in their order, and then these
abbrev pub all_forced : List Forced → List ℕ → List ℕ
all_forced [] row = row
all_forced (f ∷ earlier) row = all_forced earlier (f.number ∷ row)

-- the second slip: every clause that forced a literal is kept
abbrev pub every_forced : Machine → Manner
every_forced m = record {
  alive = (by_rule m).alive;
  texts = (by_rule m).texts;
  row_of = λ text answers n. all_forced answers (n ∷ []);
}

-- the third slip: a lemma is tried before it is turned off, so that it may prove itself
abbrev pub itself_too : Machine → Manner
itself_too m = record {
  alive = λ c earlier. Live m.inputs (learned c ∷ earlier);
  texts = λ c earlier. text (table m.inputs (learned c ∷ earlier));
  row_of = (by_rule m).row_of;
}

-- from the last step to the first, in this manner
abbrev pub BackwardIn : Manner → (inputs : List Clause) → List Step → (so_far : Verdict) → (count : ℕ) → Outcome → Type 0
BackwardIn manner inputs [] so_far count outcome = outcome ≡ accepted so_far (report inputs so_far count)
BackwardIn manner inputs (struck n ∷ earlier) so_far count outcome = BackwardIn manner inputs earlier so_far count outcome
BackwardIn manner inputs (learned c ∷ earlier) so_far count outcome =
    ((so_far.kept (next_number inputs earlier) ≡ false) × BackwardIn manner inputs earlier so_far count outcome)
    ⊎ ((so_far.kept (next_number inputs earlier) ≡ true)
    × (answers : List Forced) × (n : ℕ)
    × ConflictOver (manner.alive c earlier) (manner.texts c earlier) (map complement c) answers n
    × BackwardIn manner inputs earlier
    (with_row (record { lemma_number = next_number inputs earlier; antecedents = manner.row_of (manner.texts c earlier) answers n }) so_far)
    (count + asked answers) outcome)
    ⊎ ((so_far.kept (next_number inputs earlier) ≡ true)
    × (answers : List Forced) × NothingOver (manner.alive c earlier) (manner.texts c earlier) (map complement c) answers
    × (outcome ≡ fails (suc (length earlier)) (count + asked answers)))

-- a check in this manner comes to an outcome
abbrev pub ChecksIn : (Machine → Manner) → Machine → Outcome → Type 0
ChecksIn manner m outcome = BackwardIn (manner m) m.inputs m.steps (empty_kept m) 0 outcome

-- in the rule's manner a check comes to what it comes to by the rule
abbrev pub RuleIsManner : Type 0
RuleIsManner = (m : Machine) (outcome : Outcome) → ChecksIn by_rule m outcome ↔ Checks m outcome

-- a clause is struck behind the lemma that needs it
abbrev pub struck_behind : List Call
struck_behind =
    lemma []
    ∷ strike (pos 1 ∷ [])
    ∷ lemma (pos 2 ∷ [])
    ∷ clause (neg 2 ∷ [])
    ∷ clause (neg 1 ∷ pos 2 ∷ [])
    ∷ clause (pos 1 ∷ [])
    ∷ []

-- the rule accepts, and fails with no right answers; the slip fails at the lemma
pub record TriedAtEnd (m : Machine) : Type 0 where
  pub rule_accepts : (v : Verdict) × (r : Report) × Checks m (accepted v r)
  pub rule_never_fails : (step answers : ℕ) → Checks m (fails step answers) → ⊥
  pub slip_fails : ChecksIn live_at_end m (fails 1 4)

-- the first clause has nothing to do with the conflict
abbrev pub one_unneeded : List Call
one_unneeded = lemma [] ∷ clause (neg 2 ∷ []) ∷ clause (pos 2 ∷ []) ∷ clause (pos 1 ∷ []) ∷ []

-- the rule accepts, and keeps the first clause with no right answers; the slip keeps it
pub record KeptEveryForced (m : Machine) : Type 0 where
  pub rule_accepts : (v : Verdict) × (r : Report) × Checks m (accepted v r)
  pub rule_never_keeps : (v : Verdict) (r : Report) → Checks m (accepted v r) → v.kept 1 ≡ false
  pub slip_keeps : (v : Verdict) × (r : Report) × ChecksIn every_forced m (accepted v r) × (v.kept 1 ≡ true)

-- the first lemma does not pass, and is not needed
abbrev pub lemma_unneeded : List Call
lemma_unneeded =
    lemma []
    ∷ lemma (pos 2 ∷ [])
    ∷ lemma (pos 3 ∷ [])
    ∷ clause (neg 1 ∷ neg 2 ∷ [])
    ∷ clause (pos 1 ∷ neg 2 ∷ [])
    ∷ clause (neg 1 ∷ pos 2 ∷ [])
    ∷ clause (pos 1 ∷ pos 2 ∷ [])
    ∷ []

-- the rule accepts, though the forward check, which tries every lemma, does not; with the same answers the slip fails
pub record KeptUnneededLemma (m : Machine) : Type 0 where
  pub rule_accepts : (v : Verdict) × (r : Report) × Checks m (accepted v r)
  pub forward_does_not : Accepts m → ⊥
  pub slip_fails : ChecksIn every_forced m (fails 1 7)

-- no clause at all
abbrev pub no_clause : List Call
no_clause = lemma [] ∷ []

-- the rule fails, and accepts with no right answers; the slip accepts
pub record ProvedItself (m : Machine) : Type 0 where
  pub rule_fails : Checks m (fails 1 1)
  pub rule_never_accepts : (v : Verdict) (r : Report) → Checks m (accepted v r) → ⊥
  pub slip_accepts : (v : Verdict) × (r : Report) × ChecksIn itself_too m (accepted v r)

-- a slip shows on a job
abbrev pub ShowsOn : (Machine → Type 0) → (variables : ℕ) → List Call → Type 0
ShowsOn Slip variables calls = Slip (fed (opened variables 16 16) calls)

-- trying a lemma over the clauses live at the end fails where the rule accepts
abbrev pub TriedAtEndFails : Type 0
TriedAtEndFails = ShowsOn TriedAtEnd 2 struck_behind

-- keeping every forced clause keeps one that the rule never does, and fails where the rule accepts
abbrev pub EveryForcedKeepsMore : Type 0
EveryForcedKeepsMore = ShowsOn KeptEveryForced 2 one_unneeded × ShowsOn KeptUnneededLemma 3 lemma_unneeded

-- letting a lemma prove itself accepts where the rule never does
abbrev pub ItselfProvesAll : Type 0
ItselfProvesAll = ShowsOn ProvedItself 0 no_clause
