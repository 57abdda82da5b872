-- The check as a whole: its parts put together.
use Rattle.std.proofs.Common.{◌≡◌, ℕ, zero, suc, Ok, Err, Result, is_ok, ◌≤◌, Bool, true, false, ◌||◌, eqb, List, [], ◌∷◌, length, replicate, sym, refl, ap, ◌∙◌, subst, arith}
use mathlib.Core.Bool.{false≢true}
use mathlib.Core.List.Memᴰ
use Rattle.cnf.specs.Clauses.{Clause, ◌∈◌}
use Rattle.cnf.proofs.Arranging.{all_cons}
use Rattle.drup.specs.History.{Step, learned, struck, table, ended}
use Rattle.drup.specs.Marks.{lone, marked}
use Rattle.drup.specs.Reading.{marks_of, verdict_at, box_of}
use Rattle.drup.proofs.Reading.{none_marked, accepted_read, fails_read}
use Rattle.engine.specs.Meaning.{Meaning, with_on}
use Rattle.job.specs.declared.rows.ClauseRow.{ClauseRow}
use Rattle.job.specs.declared.jobs.reports.Tally.{Tally}
use Rattle.job.specs.View.{View, texts, marks, with_judged}
use Rattle.job.specs.History.{inputs_of, steps_of, machine_of, box_in}
use Rattle.job.specs.CheckLists.{unmarked, arcs_of, Framed}
use Rattle.job.specs.CheckShowing.{Holds}
use Rattle.job.specs.CheckFrame.{filled, Lit, Large}
use Rattle.job.specs.CheckWalking.{Roomy, Ready, Walked}
use Rattle.job.specs.Checking.{begun, wiped, Allowed, Comes, Idle, told, lent_by, event_of, Leaves}
use Rattle.job.specs.declared.jobs.reports.Report.{Report}
use Rattle.job.specs.declared.faults.JobFault.{JobFault}
use Rattle.job.specs.declared.faults.JobFault.TheVariants.{Fails}
use Rattle.drup.specs.Forward.{Machine}
use Rattle.drup.specs.Backward.{accepted, fails}
use Rattle.drup.specs.Box.{Checks, checked, check_refused, Happens}
use Rattle.job.proofs.CheckFit.{Fit}
use Rattle.job.proofs.CheckFraming.{texts_framed, clauses_framed, machine_framed, rooms_framed, unmarked_length, framed_begun, framed_wiped}
use Rattle.job.proofs.CheckMarking.{marks_in, all_marked_lem}
use Rattle.job.proofs.CheckSurround.{lit_holds, lit_shows, lit_uncounted}

-- one number alone
pub one_only : (x most n : ℕ) → 1 ≤ x → x ≤ most → n ∈ (x ∷ []) → (1 ≤ n) × (n ≤ most)
one_only x most n a b m = all_cons (λ k. (1 ≤ k) × (k ≤ most)) (a, b) (λ k i. absurd (Memᴰ.not-nil i)) n m

marks_unmarked : (c : ℕ) (rows : List ClauseRow) → c ≤ length rows → marks_in c (unmarked c rows) ≡ replicate c false
marks_unmarked zero rows h = refl
marks_unmarked (suc c) [] h = absurd (omega arith)
marks_unmarked (suc c) (r ∷ rows) h = ap (λ (x : List Bool). false ∷ x) (marks_unmarked c rows (omega arith))

no_marks : (c : ℕ) (rows : List ClauseRow) → c ≤ length rows → marks_of (marks_in c (unmarked c rows)) ≡ (λ n. false)
no_marks c rows h = ap marks_of (marks_unmarked c rows h) ∙ none_marked c

marks_begun : (s : View) → Fit s → 1 ≤ s.clauses → marks_of (marks (begun s)) ≡ lone s.clauses
marks_begun s o h =
    all_marked_lem s.clauses (s.clauses ∷ []) (unmarked s.clauses s.rows) (let l = unmarked_length s.clauses s.rows in omega (arith, o.rooms.0))
    (λ n x. one_only s.clauses s.clauses n h (omega arith) x)
    ∙ ap (marked (s.clauses ∷ [])) (no_marks s.clauses s.rows o.rooms.0)
    ∙ (λ i n. alone (eqb n s.clauses) i)
  where
    alone : (b : Bool) → ((b || false) || false) ≡ b
    alone true = refl
    alone false = refl

-- a job that has ended has a clause
pub ended_some : (s : View) → Fit s → ended (steps_of s) ≡ true → 1 ≤ s.clauses
ended_some s o e = let h = some_learned (inputs_of s) (steps_of s) e in let a = o.all_in in omega arith
  where
    some_learned : (inputs : List Clause) (steps : List Step) → ended steps ≡ true → 1 ≤ length (table inputs steps)
    some_learned inputs [] e = absurd (false≢true e)
    some_learned inputs (learned c ∷ earlier) e = omega arith
    some_learned inputs (struck n ∷ earlier) e = absurd (false≢true e)

module _ (s : View) (o : Fit s) (m : Meaning) (a : Allowed s m) (s₁ : View) (o₁ : Fit s₁) (e : s₁ ≡ begun s) where
  some : 1 ≤ s.clauses
  some = ended_some s o a.is_ended

  pub framed_first : Framed s s₁
  framed_first = subst (Framed s) (sym e) (framed_begun s some)

  pub large_first : Large s₁ m
  large_first =
      let c = clauses_framed s s₁ framed_first in
      let u : s₁.used ≡ s.used = ap (λ (x : View). x.used) e in
      (omega (arith, a.large.0), omega (arith, a.large.1))

  pub rooms_first : Roomy s₁
  rooms_first = rooms_framed s s₁ framed_first a.rooms

  pub ended_first : ended (steps_of s₁) ≡ true
  ended_first = ap (λ x. ended x.steps) (machine_framed s s₁ framed_first) ∙ a.is_ended

  pub ready : (m₁ : Meaning) → Lit s₁ (filled (texts s₁) m) s₁.clauses m₁ → Ready s₁ m₁
  ready m₁ g = record {
    kept =
        ap (λ (x : View). marks_of (marks x)) e ∙ marks_begun s o some
        ∙ ap lone (sym (clauses_framed s s₁ framed_first) ∙ o₁.all_in);
    no_arcs = ap (λ (x : View). x.arcs) e ∙ ap (λ (k : ℕ). replicate k 0) (sym framed_first.same_places);
    rooms = rooms_first;
    holds = lit_holds s₁ o₁ m m₁ g;
    shows = lit_shows s₁ o₁ m m₁ g;
    uncounted = lit_uncounted s₁ o₁ m m₁ g;
  }

-- what the way back leaves of the engine
pub walked_holds : (s : View) (r : Result Tally ℕ) (s' : View) (m' : Meaning) → Walked s r s' m' → Holds m' s × (length m'.on ≡ length m'.texts)
walked_holds s (Ok t) s' m' w = (w.holds, w.shows.level)
walked_holds s (Err step) s' m' w = (w.holds, w.level)

pub idle_after : (s s₁ : View) (m₂ m₃ : Meaning) → Framed s s₁ → Holds m₂ s₁ → (c : ℕ) → c ≡ s.clauses → m₃ ≡ with_on (replicate c false) m₂ → Idle s m₃
idle_after s s₁ m₂ m₃ f h c q e = record {
  its_texts = ap (λ (x : Meaning). x.texts) e ∙ h.same ∙ texts_framed s s₁ f;
  none_on = ap (λ (x : Meaning). x.on) e ∙ ap (λ (k : ℕ). replicate k false) q;
  no_trail = ap (λ (x : Meaning). x.trail) e ∙ h.idle;
  shut = ap (λ (x : Meaning). x.opened) e ∙ h.shut;
}

pub framed_judged : (s s' : View) (b : Bool) → Framed s s' → Framed (with_judged b s) (with_judged b s')
framed_judged s s' b f = record {
  but_for = ap (with_judged b) f.but_for;
  same_rows = f.same_rows;
  same_beyond = f.same_beyond;
  same_places = f.same_places;
}

-- what a check leaves, once its run came to an end
module _ (s : View) (m : Meaning) (free : check_refused (machine_of s) (lent_by s m) ≡ 0) (s₂ : View) (m₂ : Meaning) where
  accepted_out : (r : Report) → Comes s (Ok r) s₂ m₂ → Idle s m₂
      → Happens (box_in s) (event_of (lent_by s m) (Ok r) (with_judged true s₂) m₂) (box_in (with_judged true s₂)) × Leaves s m (Ok r) (with_judged true s₂) m₂
  accepted_out r come idle =
      let same = machine_framed s s₂ come.0.framed in
      let v = verdict_at (machine_of s) (marks s₂) s₂.arcs in (
        subst (λ (x : Machine). Happens (box_in s) (checked (lent_by s m) (accepted (verdict_at x (marks s₂) s₂.arcs) (told r))) (box_of x true (marks s₂) s₂.arcs))
            (sym same) (accepted_read (machine_of s) s.judged (marks s) (marks s₂) s.arcs s₂.arcs (lent_by s m) free v (told r) come.0.checks refl),
        (
          framed_judged s s₂ true come.0.framed,
          come.0.arc_list ∙ ap (λ (x : Machine). arcs_of s (verdict_at x (marks s₂) s₂.arcs).rows) (sym same),
          come.1,
          idle,
        ),
      )

  failed_out : (step : ℕ) → s₂ ≡ wiped s → Checks (machine_of s) (fails step m₂.answers) → Idle s m₂
      → Happens (box_in s) (event_of (lent_by s m) (Err (Fails step)) (with_judged false s₂) m₂) (box_in (with_judged false s₂)) × Leaves s m (Err (Fails step)) (with_judged false s₂) m₂
  failed_out step wipes checks idle =
      let same = machine_framed s s₂ (subst (λ (x : View). Framed s x) (sym wipes) (framed_wiped s)) in (
        subst (λ (x : Machine). Happens (box_in s) (checked (lent_by s m) (fails step m₂.answers)) (box_of x false (marks s₂) s₂.arcs))
            (sym same) (fails_read (machine_of s) s.judged (marks s) (marks s₂) s.arcs s₂.arcs (lent_by s m) free step m₂.answers checks),
        (ap (with_judged false) wipes, idle),
      )

  pub outcome : (r : Result Report JobFault) (b : Bool) → Comes s r s₂ m₂ → Idle s m₂ → b ≡ is_ok r
      → Happens (box_in s) (event_of (lent_by s m) r (with_judged b s₂) m₂) (box_in (with_judged b s₂)) × Leaves s m r (with_judged b s₂) m₂
  outcome (Ok r) b come idle e =
      subst (λ (x : Bool). Happens (box_in s) (event_of (lent_by s m) (Ok r) (with_judged x s₂) m₂) (box_in (with_judged x s₂)) × Leaves s m (Ok r) (with_judged x s₂) m₂)
      (sym e) (accepted_out r come idle)
  outcome (Err fault) b come idle e =
      let (step, is, checks) = come.1 in
      subst (λ (x : Bool). Happens (box_in s) (event_of (lent_by s m) (Err fault) (with_judged x s₂) m₂) (box_in (with_judged x s₂)) × Leaves s m (Err fault) (with_judged x s₂) m₂)
      (sym e)
      (subst (λ (x : JobFault). Happens (box_in s) (event_of (lent_by s m) (Err x) (with_judged false s₂) m₂) (box_in (with_judged false s₂)) × Leaves s m (Err x) (with_judged false s₂) m₂)
      (sym is) (failed_out step come.0 checks idle))
