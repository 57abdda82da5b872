-- Every check comes to an end: there is always a right answer, and each forced literal has a new variable.
use Rattle.std.proofs.Common.{◌≡◌, ℕ, zero, suc, ◌+◌, ◌≤◌, ◌⊎◌, List, [], ◌∷◌, map, length, sym, refl, ◌∙◌, subst, inl, inr, true≢false, arith}
use Rattle.std.proofs.lemmas.Bool.{cases_Bool}
use Rattle.cnf.specs.declared.literals.Literal.{Literal}
use Rattle.cnf.specs.Literals.{complement}
use Rattle.cnf.specs.Clauses.{Clause, Within}
use Rattle.cnf.specs.Propagation.{Falsified, Forces}
use Rattle.cnf.specs.Arranging.{names}
use Rattle.cnf.proofs.Derivations.{falsified_or_not, forced_new, forces_or_not}
use Rattle.cnf.specs.declared.literals.Forced.{Forced}
use Rattle.drup.specs.History.{Live, Step, is_struck, learned, next_number, struck, table, text}
use Rattle.drup.specs.Forward.{Accepts, Machine, opened}
use Rattle.drup.specs.WellFormed.{Formed, WellFormed}
use Rattle.drup.specs.Backward.{Backward, Conflict, Nothing, Outcome, Report, Right, Verdict, accepted, asked, conflict_row, fails, report, trail, with_row}
use Rattle.drup.specs.Box.{Box, Checks, Happens, Lent, calls, check_refused, checked, empty_kept, verdict_of}
use Rattle.drup.specs.Agreement.{EveryCheckEnds}
use Rattle.drup.proofs.Numbers.{at_most}
use Rattle.drup.proofs.Counting.{counted_more, counted_most}
use Rattle.drup.proofs.Short.{assigned}
use Rattle.drup.proofs.WellFormed.{fed_well, live_within, opened_well, withdrawn}
use Rattle.drup.proofs.Visited.{fails_at, fails_not_accepts}
use Rattle.drup.proofs.Agreeing.{agreement}

module _ (inputs : List Clause) (steps : List Step) where
  -- clause n is live or not
  live_or_not : (n : ℕ) → 1 ≤ n → n ≤ length (table inputs steps) → Live inputs steps n ⊎ (Live inputs steps n → ⊥)
  live_or_not n low high =
      elim (cases_Bool (is_struck n steps)) [
        | inl e ↦ inr (λ live. true≢false (sym e ∙ live.unstruck))
        | inr e ↦ inl (record { numbered = low; entered = high; unstruck = e })
      ]

  -- some live clause is of the one kind, or all of them are of the other
  scan :
      (P Q : ℕ → Type 0) → ((n : ℕ) → P n ⊎ Q n)
      → (count : ℕ) → count ≤ length (table inputs steps)
      → ((n : ℕ) × Live inputs steps n × P n) ⊎ ((n : ℕ) → n ≤ count → Live inputs steps n → Q n)
  scan P Q decide zero high = inr (λ n h live. absurd (omega arith))
  scan P Q decide (suc count) high =
      elim (scan P Q decide count (omega arith)) [
        | inl found ↦ inl found
        | inr others ↦ elim (live_or_not (suc count) (omega arith) high) [
          | inr dead ↦ inr (λ n h live. elim (at_most n count h) [
            | inl e ↦ absurd (dead (subst (Live inputs steps) e live))
            | inr k ↦ others n k live
          ])
          | inl live ↦ elim (decide (suc count)) [
            | inl p ↦ inl (suc count, live, p)
            | inr q ↦ inr (λ n h l. elim (at_most n count h) [ inl e ↦ subst Q (sym e) q | inr k ↦ others n k l ])
          ]
        ]
      ]

  abbrev its_text : ℕ → Clause
  its_text = text (table inputs steps)

  -- no live clause forces a literal under a trail
  abbrev pub Exhausted : (trail : List Literal) → Type 0
  Exhausted trail = (n : ℕ) (l : Literal) → Live inputs steps n → Forces trail (its_text n) l → ⊥

  module _ (highest : ℕ) (within : (n : ℕ) → Live inputs steps n → Within highest (its_text n)) (assumed : List Literal) where
    -- from any right answers one can go on until nothing more is forced
    goes_on :
        (fuel : ℕ) (answers : List Forced) → Right inputs steps assumed answers
        → suc highest ≤ fuel + assigned highest (trail assumed answers)
        → (all : List Forced) × Right inputs steps assumed all × Exhausted (trail assumed all)
    goes_on zero answers right enough =
        absurd (let h = counted_most highest (λ x. names x (trail assumed answers)) in omega arith)
    goes_on (suc fuel) answers right enough =
        elim (scan (λ n. (l : Literal) × Forces (trail assumed answers) (its_text n) l)
        (λ n. (l : Literal) → Forces (trail assumed answers) (its_text n) l → ⊥)
        (λ n. forces_or_not (trail assumed answers) (its_text n))
        (length (table inputs steps)) (omega arith)) [
          | inl (n, live, f) ↦
              let next : Forced = record { literal = f.0; number = n } in
              let w = within n live f.0 f.1.stands in
              let new = forced_new (trail assumed answers) (its_text n) f.0 f.1 in
              let h = counted_more highest f.0.variable (λ x. names x (trail assumed answers)) w.0 w.1 new in
              goes_on fuel (next ∷ answers) (live, f.1, right) (omega arith)
          | inr none ↦ (answers, right, λ n l live. none n live.entered live l)
        ]

    pub exhausts : (all : List Forced) × Right inputs steps assumed all × Exhausted (trail assumed all)
    exhausts = goes_on (suc highest) [] tt (omega arith)

    -- so a trial comes to a conflict or to nothing
    trial : ((all : List Forced) × (n : ℕ) × Conflict inputs steps assumed all n) ⊎ ((all : List Forced) × Nothing inputs steps assumed all)
    trial =
        let (all, right, none) = exhausts in
        elim (scan (λ n. Falsified (trail assumed all) (its_text n)) (λ n. Falsified (trail assumed all) (its_text n) → ⊥)
        (λ n. falsified_or_not (trail assumed all) (its_text n))
        (length (table inputs steps)) (omega arith)) [
          | inl (n, live, f) ↦ inl (all, n, record { right = right; live = live; false_there = f })
          | inr whole ↦ inr (
            all,
            record { right = right; none_false = λ n live. whole n live.entered live; none_forces = none },
          )
        ]

-- a check comes to an outcome
comes_to :
    (v n q : ℕ) (inputs : List Clause) (steps : List Step) (so_far : Verdict) (count : ℕ)
    → Formed v n q inputs steps → (outcome : Outcome) × Backward inputs steps so_far count outcome
comes_to v n q inputs [] so_far count w = (accepted so_far (report inputs so_far count), refl)
comes_to v n q inputs (struck k ∷ earlier) so_far count w =
    comes_to v n q inputs earlier so_far count (withdrawn v n q inputs (struck k ∷ earlier) w)
comes_to v n q inputs (learned c ∷ earlier) so_far count w =
    let before = withdrawn v n q inputs (learned c ∷ earlier) w in
    let on = comes_to v n q inputs earlier in
    elim (cases_Bool (so_far.kept (next_number inputs earlier))) [
      | inr out ↦ let r = on so_far count before in (r.0, inl (out, r.1))
      | inl k ↦ elim (trial inputs earlier v (live_within v n q inputs earlier before) (map complement c)) [
        | inl t ↦
            let r = on (with_row (conflict_row inputs earlier t.0 t.1) so_far) (count + asked t.0) before in
            (r.0, inr (inl (k, t.0, t.1, t.2, r.1)))
        | inr t ↦ (fails (suc (length earlier)) (count + asked t.0), inr (inr (k, t.0, t.1, refl)))
      ]
    ]

module _ (m : Machine) (well : WellFormed m) where
  -- the check of a well-formed machine comes to an outcome
  check_comes_to : (outcome : Outcome) × Checks m outcome
  check_comes_to = comes_to m.variables m.clause_places m.literal_places m.inputs m.steps (empty_kept m) 0 well

  -- where the forward check accepts, the outcome is acceptance
  accepts_too : (outcome : Outcome) → Checks m outcome → Accepts m → (v : Verdict) × (r : Report) × Checks m (accepted v r)
  accepts_too (accepted v r) b a = (v, r, b)
  accepts_too (fails step answers) b a = absurd (fails_not_accepts m step answers (fails_at m well step answers b) a)

-- a box after a check that came to an outcome
abbrev leaves : Box → Outcome → Box
leaves box outcome = record { machine = box.machine; verdict = verdict_of outcome }

-- and that is an event
happens :
    (box : Box) (lent : Lent) (outcome : Outcome) → check_refused box.machine lent ≡ 0 → Checks box.machine outcome
    → Happens box (checked lent outcome) (leaves box outcome)
happens box lent outcome r b = (r, b, refl)

-- the theorem
pub every_check_ends_lem : EveryCheckEnds
every_check_ends_lem variables clause_places literal_places events box lent run r =
    let new : Machine = opened variables clause_places literal_places in
    let same = (agreement variables clause_places literal_places events box run).same in
    let well : WellFormed box.machine = rw same (fed_well new (calls events) (opened_well variables clause_places literal_places)) in
    let o = check_comes_to box.machine well in (
      (o.0, leaves box o.0, happens box lent o.0 r o.1),
      λ a.
          let t = accepts_too box.machine well o.0 o.1 (rw same a) in
          (t.0, t.1, leaves box (accepted t.0 t.1), happens box lent (accepted t.0 t.1) r t.2),
    )
