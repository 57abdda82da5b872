-- The three slips part from the rule.
use Rattle.std.proofs.Common.{◌≡◌, ℕ, ◌+◌, Bool, true, false, not, ◌&&◌, ◌↔◌, List, [], ◌∷◌, ◌++◌, map, sym, refl, subst, inl, inr, true≢false, arith}
use mathlib.Core.List.Memᴰ
use mathlib.Core.List.Memᴰ.{cases_cons as in-cons}
use mathlib.Core.List.Memᴰ.{head as here}
use Rattle.std.proofs.lemmas.Bool.{and_parts, cases_Bool, not-true}
use Rattle.cnf.specs.declared.literals.Literal.{Literal}
use Rattle.cnf.specs.Literals.{complement}
use Rattle.cnf.specs.Clauses.{Clause, ◌∈◌}
use Rattle.cnf.specs.Propagation.{Lean}
use Rattle.cnf.proofs.Arranging.{all_cons}
use Rattle.cnf.specs.declared.literals.Forced.{Forced}
use Rattle.drup.specs.History.{Live, LiveClause, Step, is_struck, learned, struck, table, text}
use Rattle.drup.specs.Forward.{Accepts, Call, Machine, fed, opened, without_last}
use Rattle.drup.specs.WellFormed.{WellFormed}
use Rattle.drup.specs.Backward.{Backward, Conflict, ConflictOver, Nothing, NothingOver, Outcome, Row, Verdict, asked, conflict_row, report, trail, with_row}
use Rattle.drup.specs.Box.{empty_kept}
use Rattle.drup.specs.Agreement.{Leads, RightRow, antecedent, is_empty}
use Rattle.drup.specs.Jobs.{neg, pos, row}
use Rattle.drup.specs.Slips.{BackwardIn, EveryForcedKeepsMore, ItselfProvesAll, KeptEveryForced, KeptUnneededLemma, RuleIsManner, TriedAtEndFails, by_rule, lemma_unneeded, no_clause, one_unneeded, struck_behind}
use Rattle.drup.proofs.Numbers.{at_most, text_in_table}
use Rattle.drup.proofs.Standing.{holds_false}
use Rattle.drup.proofs.Deciding.{Idle, conflict_true, idle_by_true, idle_by_two, live_conflict, live_nothing, lives, lives_true, nothing_true}
use Rattle.drup.proofs.Trials.{conflict_passes, nothing_derives}
use Rattle.drup.proofs.WellFormed.{fed_well, opened_well}
use Rattle.drup.proofs.Visited.{accepted_visited, fails_at, fails_not_accepts}
use Rattle.drup.proofs.Trimmed.{certified}
use Rattle.drup.proofs.Jobs.{by, job_b_lem}

-- the rule's manner is the rule
in_manner :
    (m : Machine) (steps : List Step) (so_far : Verdict) (count : ℕ) (outcome : Outcome)
    → BackwardIn (by_rule m) m.inputs steps so_far count outcome ↔ Backward m.inputs steps so_far count outcome
in_manner m [] so_far count outcome = (λ b. b, λ b. b)
in_manner m (struck n ∷ earlier) so_far count outcome = in_manner m earlier so_far count outcome
in_manner m (learned c ∷ earlier) so_far count outcome =
    let on : (so_far : Verdict) (count : ℕ) → BackwardIn (by_rule m) m.inputs earlier so_far count outcome ↔ Backward m.inputs earlier so_far count outcome =
    λ so_far count. in_manner m earlier so_far count outcome in (
      λ b. elim b [
        | inl (k, b) ↦ inl (k, (on so_far count).0 b)
        | inr (inl (k, answers, n, right, b)) ↦
            inr (inl (k, answers, n, right, (on (with_row (conflict_row m.inputs earlier answers n) so_far) (count + asked answers)).0 b))
        | inr (inr end) ↦ inr (inr end)
      ],
      λ b. elim b [
        | inl (k, b) ↦ inl (k, (on so_far count).1 b)
        | inr (inl (k, answers, n, right, b)) ↦
            inr (inl (k, answers, n, right, (on (with_row (conflict_row m.inputs earlier answers n) so_far) (count + asked answers)).1 b))
        | inr (inr end) ↦ inr (inr end)
      ],
    )

pub rule_is_manner : RuleIsManner
rule_is_manner m outcome = in_manner m m.steps (empty_kept m) 0 outcome

-- the machine of a small job
abbrev job : (variables : ℕ) → List Call → Machine
job variables calls = fed (opened variables 16 16) calls

reached : (variables : ℕ) (calls : List Call) → WellFormed (job variables calls)
reached variables calls = fed_well (opened variables 16 16) calls (opened_well variables 16 16)

-- the first slip
abbrev behind : Machine
behind = job 2 struck_behind

abbrev before_empty : List Step
before_empty = without_last behind.steps

-- by the rule: under nothing 3 forces -2, and 4 is false; under -2 the clause 1, live there, forces 1, and 2 is false
empty_conflict : Conflict behind.inputs before_empty [] (by (neg 2) 3 ∷ []) 4
empty_conflict = live_conflict behind.inputs before_empty [] (by (neg 2) 3 ∷ []) 4 refl

lemma_conflict : Conflict behind.inputs [] (neg 2 ∷ []) (by (pos 1) 1 ∷ []) 2
lemma_conflict = live_conflict behind.inputs [] (neg 2 ∷ []) (by (pos 1) 1 ∷ []) 2 refl

-- what is alive in the manner of the slip
module _ (earlier : List Step) where
  abbrev AliveAtEnd : ℕ → Type 0
  AliveAtEnd n = Live behind.inputs earlier n × (is_struck n behind.steps ≡ false)

  abbrev alive_at_end : ℕ → Bool
  alive_at_end n = lives behind.inputs earlier n && not (is_struck n behind.steps)

  alive_true : (n : ℕ) → alive_at_end n ≡ true → AliveAtEnd n
  alive_true n e =
      let a = and_parts (lives behind.inputs earlier n) (not (is_struck n behind.steps)) e in
      (lives_true behind.inputs earlier n a.0, not-true (is_struck n behind.steps) a.1)

-- by the slip: under -2 the clause 2 forces -1; the clause 1, which was struck, is missed, and the others are true
slip_conflict : ConflictOver (AliveAtEnd before_empty) (text (table behind.inputs before_empty)) [] (by (neg 2) 3 ∷ []) 4
slip_conflict =
    conflict_true (AliveAtEnd before_empty) (alive_at_end before_empty) (alive_true before_empty)
    (text (table behind.inputs before_empty)) [] (by (neg 2) 3 ∷ []) 4 refl

slip_nothing : NothingOver (AliveAtEnd []) (text behind.inputs) (neg 2 ∷ []) (by (neg 1) 2 ∷ [])
slip_nothing =
    nothing_true (AliveAtEnd []) (alive_at_end []) (alive_true []) (text behind.inputs) (neg 2 ∷ []) (by (neg 1) 2 ∷ []) refl all_idle
  where
    all_idle : (n : ℕ) → AliveAtEnd [] n → Idle (neg 1 ∷ neg 2 ∷ []) (text behind.inputs n)
    all_idle n (live, unstruck) =
        elim (at_most n 2 live.entered) [
          | inl e ↦ rw e (idle_by_true (neg 1 ∷ neg 2 ∷ []) (neg 2 ∷ []) (neg 2) refl refl)
          | inr h ↦ elim (at_most n 1 h) [
            | inl e ↦ rw e (idle_by_true (neg 1 ∷ neg 2 ∷ []) (neg 1 ∷ pos 2 ∷ []) (neg 1) refl refl)
            | inr k ↦ let e : n ≡ 1 = omega (arith, live.numbered) in absurd (true≢false (rw e at unstruck))
          ]
        ]

pub tried_at_end : TriedAtEndFails
tried_at_end =
    let m : Machine = behind in
    let v : Verdict = with_row (row 4 (1 ∷ 2 ∷ [])) (with_row (row 5 (3 ∷ 4 ∷ [])) (empty_kept m)) in
    let accepts : Accepts m = (
      refl,
      (
        conflict_passes m.inputs before_empty [] (by (neg 2) 3 ∷ []) 4 empty_conflict,
        (conflict_passes m.inputs [] (pos 2 ∷ []) (by (pos 1) 1 ∷ []) 2 lemma_conflict, tt),
      ),
    ) in
    record {
      rule_accepts = (
        v,
        report m.inputs v 4,
        inr (inl (refl, by (neg 2) 3 ∷ [], 4, empty_conflict, inr (inl (refl, by (pos 1) 1 ∷ [], 2, lemma_conflict, refl)))),
      );
      rule_never_fails = λ step answers b.
          fails_not_accepts m step answers (fails_at m (reached 2 struck_behind) step answers b) accepts;
      slip_fails =
          inr (inl (refl, by (neg 2) 3 ∷ [], 4, slip_conflict, inr (inr (refl, by (neg 1) 2 ∷ [], slip_nothing, refl))));
    }

-- the clauses of a lean row are of the set
lean_in : (s : Clause → Type 0) (trail : List Literal) (row : List Clause) → Lean s trail row → (c : Clause) → c ∈ row → s c
lean_in s trail [] d = absurd d
lean_in s trail (c ∷ []) d = all_cons s d.0 (λ e m. absurd (Memᴰ.not-nil m))
lean_in s trail (c ∷ e ∷ row) d = all_cons s d.0 (lean_in s (d.1.0 ∷ trail) (e ∷ row) d.1.3)

-- a unit clause whose literal's complement stands nowhere is in no lean row
never_used :
    (s : Clause → Type 0) (k : Literal) → ((c : Clause) → s c → complement k ∈ c → ⊥)
    → (trail : List Literal) → (complement k ∈ trail → ⊥) → (row : List Clause) → Lean s trail row → (k ∷ []) ∈ row → ⊥
never_used s k nowhere trail not_there [] d m = Memᴰ.not-nil m
never_used s k nowhere trail not_there (c ∷ []) d m =
    elim (in-cons m) [
      | inl p ↦ not_there (d.1 k (subst (λ (x : Clause). k ∈ x) p (here refl)))
      | inr x ↦ Memᴰ.not-nil x
    ]
never_used s k nowhere trail not_there (c ∷ e ∷ row) d m =
    let l = d.1.0 in
    let f = d.1.1 in
    let used = d.1.2 in
    elim (in-cons m) [
      | inl p ↦ elim (in-cons (subst (λ (x : Clause). l ∈ x) (sym p) f.stands)) [
        | inl same ↦
            nowhere used.0 (lean_in s (l ∷ trail) (e ∷ row) d.1.3 used.0 used.1)
            (subst (λ (x : Literal). complement x ∈ used.0) same used.2)
        | inr x ↦ Memᴰ.not-nil x
      ]
      | inr x ↦
          never_used s k nowhere (l ∷ trail)
          (λ y. elim (in-cons y) [
            | inl q ↦ nowhere c d.0 (subst (λ (x : Literal). x ∈ c) (sym q) f.stands)
            | inr z ↦ not_there z
          ])
          (e ∷ row) d.1.3 x
    ]

-- a job of one step has one lemma
only_step :
    (c d : Clause) (later earlier : List Step) → learned d ∷ [] ≡ later ++ (learned c ∷ earlier) → (c ≡ d) × (earlier ≡ [])
only_step c d [] earlier e = (cc, cc)
only_step c d (s ∷ []) earlier e = let z : ◌≡◌ {A = ℕ} 0 1 = cc in absurd (omega arith)
only_step c d (s ∷ t ∷ later) earlier e = let z : ◌≡◌ {A = ℕ} 0 1 = cc in absurd (omega arith)

-- the second slip
abbrev unneeded : Machine
unneeded = job 2 one_unneeded

-- by the rule: 1 forces 1, 2 forces 2, and 3 is false, which needs the last two
abbrev forced_both : List Forced
forced_both = by (pos 2) 2 ∷ by (pos 1) 1 ∷ []

needed_conflict : Conflict unneeded.inputs [] [] forced_both 3
needed_conflict = live_conflict unneeded.inputs [] [] forced_both 3 refl

-- the complement of the first clause's literal stands nowhere
nowhere : (c : Clause) → LiveClause unneeded.inputs [] c → neg 1 ∈ c → ⊥
nowhere c (n, live, e) =
    subst Without e
    (all_cons Without (λ m. holds_false m refl)
    (all_cons Without (λ m. holds_false m refl)
    (all_cons Without (λ m. holds_false m refl) (λ d m. absurd (Memᴰ.not-nil m))))
    (text unneeded.inputs n) (text_in_table unneeded.inputs n live.numbered live.entered))
  where
    Without : Clause → Type 0
    Without d = neg 1 ∈ d → ⊥

-- so no row leads from it
not_led : (rows : List Row) → ((r : Row) → r ∈ rows → RightRow unneeded r) → Leads 4 rows 1 → ⊥
not_led rows right (is_empty p) = omega arith
not_led rows right (antecedent led x k l) =
    let (c, earlier, place, d) = right led x in
    let one = only_step c [] place.0 earlier place.1 in
    let P : Clause → List Step → Type 0 =
    λ c earlier.
    Lean (LiveClause unneeded.inputs earlier) (map complement c)
    (map (text (table unneeded.inputs earlier)) led.antecedents) in
    let lean : P [] [] = subst (λ (x : Clause). P x []) one.0 (subst (P c) one.1 d.lean) in
    never_used (LiveClause unneeded.inputs []) (pos 1) nowhere [] Memᴰ.not-nil
    (map (text unneeded.inputs) led.antecedents) lean (Memᴰ.map (text unneeded.inputs) k)

unneeded_clause : KeptEveryForced unneeded
unneeded_clause =
    let m : Machine = unneeded in
    let few : Verdict = with_row (row 4 (2 ∷ 3 ∷ [])) (empty_kept m) in
    let many : Verdict = with_row (row 4 (1 ∷ 2 ∷ 3 ∷ [])) (empty_kept m) in
    record {
      rule_accepts = (few, report m.inputs few 3, inr (inl (refl, forced_both, 3, needed_conflict, refl)));
      rule_never_keeps = λ v r b.
          let visited = (accepted_visited m (reached 2 one_unneeded) v r b).0 in
          elim (cases_Bool (v.kept 1)) [ inl k ↦ absurd (not_led v.rows visited.right (visited.leads 1 k)) | inr e ↦ e ];
      slip_keeps = (many, report m.inputs many 3, inr (inl (refl, forced_both, 3, needed_conflict, refl)), refl);
    }

-- under nothing 5 forces 3, 6 forces 2, 3 forces 1, and 4 is false; under -2 the clause 1 forces 1, and 2 is false
abbrev idle_lemma : Machine
idle_lemma = job 3 lemma_unneeded

abbrev forced_three : List Forced
forced_three = by (pos 1) 3 ∷ by (pos 2) 6 ∷ by (pos 3) 5 ∷ []

three_conflict : Conflict idle_lemma.inputs (without_last idle_lemma.steps) [] forced_three 4
three_conflict = live_conflict idle_lemma.inputs (without_last idle_lemma.steps) [] forced_three 4 refl

two_conflict : Conflict idle_lemma.inputs (learned (pos 3 ∷ []) ∷ []) (neg 2 ∷ []) (by (pos 1) 1 ∷ []) 2
two_conflict = live_conflict idle_lemma.inputs (learned (pos 3 ∷ []) ∷ []) (neg 2 ∷ []) (by (pos 1) 1 ∷ []) 2 refl

-- under -3 every clause has two literals that are not false
idle_nothing : Nothing idle_lemma.inputs [] (neg 3 ∷ []) []
idle_nothing = live_nothing idle_lemma.inputs [] (neg 3 ∷ []) [] refl all_idle
  where
    all_idle : (n : ℕ) → Live idle_lemma.inputs [] n → Idle (neg 3 ∷ []) (text idle_lemma.inputs n)
    all_idle n live =
        elim (at_most n 3 live.entered) [
          | inl e ↦ rw e (idle_by_two (neg 3 ∷ []) (neg 1 ∷ neg 2 ∷ []) (neg 1) (neg 2) refl refl refl)
          | inr h ↦ elim (at_most n 2 h) [
            | inl e ↦ rw e (idle_by_two (neg 3 ∷ []) (pos 1 ∷ neg 2 ∷ []) (pos 1) (neg 2) refl refl refl)
            | inr g ↦ elim (at_most n 1 g) [
              | inl e ↦ rw e (idle_by_two (neg 3 ∷ []) (neg 1 ∷ pos 2 ∷ []) (neg 1) (pos 2) refl refl refl)
              | inr k ↦
                  let e : n ≡ 1 = omega (arith, live.numbered) in
                  rw e (idle_by_two (neg 3 ∷ []) (pos 1 ∷ pos 2 ∷ []) (pos 1) (pos 2) refl refl refl)
            ]
          ]
        ]

unneeded_lemma : KeptUnneededLemma idle_lemma
unneeded_lemma =
    let m : Machine = idle_lemma in
    let v : Verdict = with_row (row 6 (1 ∷ 2 ∷ [])) (with_row (row 7 (6 ∷ 3 ∷ 4 ∷ [])) (empty_kept m)) in
    record {
      rule_accepts = (
        v,
        report m.inputs v 6,
        inr (inl (refl, forced_three, 4, three_conflict, inr (inl (refl, by (pos 1) 1 ∷ [], 2, two_conflict, inl (refl, refl))))),
      );
      forward_does_not = λ a. let p = a.1.1.1.0 in nothing_derives m.inputs [] (neg 3 ∷ []) [] idle_nothing p.0 p.1;
      slip_fails =
          inr (inl (
            refl,
            forced_three,
            4,
            three_conflict,
            inr (inl (refl, by (pos 1) 1 ∷ [], 2, two_conflict, inr (inr (refl, [], idle_nothing, refl)))),
          ));
    }

pub kept_every_forced : EveryForcedKeepsMore
kept_every_forced = (unneeded_clause, unneeded_lemma)

-- the third slip: the empty lemma is false itself
pub proved_itself : ItselfProvesAll
proved_itself =
    let m : Machine = job 0 no_clause in
    let v : Verdict = with_row (row 1 (1 ∷ [])) (empty_kept m) in
    let itself : List Step = learned [] ∷ [] in
    let clash = conflict_true (Live [] itself) (lives [] itself) (lives_true [] itself) (text ([] ∷ [])) [] [] 1 refl in
    record {
      rule_fails = job_b_lem;
      rule_never_accepts = λ v r b.
          (certified m v r (reached 0 no_clause) refl b).unsatisfiable (λ x. true) (λ c x. absurd (Memᴰ.not-nil x));
      slip_accepts = (v, report [] v 1, inr (inl (refl, [], 1, clash, refl)));
    }
