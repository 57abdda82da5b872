-- The box agrees with the forward check after every event of every run.
use Rattle.std.proofs.Common.{◌≡◌, ℕ, zero, suc, true, List, [], ◌∷◌, sym, ap, ◌∙◌, subst, arith}
use mathlib.Core.Option.{none, some}
use Rattle.std.proofs.lemmas.Bool.{not-false}
use Rattle.drup.specs.History.{ended}
use Rattle.drup.specs.Forward.{Call, Machine, after, fed, opened, refused, told, unless}
use Rattle.drup.specs.WellFormed.{WellFormed}
use Rattle.drup.specs.Backward.{Outcome, Verdict, accepted, fails, report}
use Rattle.drup.specs.Box.{Box, Checks, Event, Happens, Lent, Run, called, calls, check_refused, check_rules, checked, unchecked, verdict_of}
use Rattle.drup.specs.Agreement.{Agreement, Certified, LatestAnswered}
use Rattle.drup.proofs.WellFormed.{fed_well, opened_well, unbroken}
use Rattle.drup.proofs.Visited.{fails_at, fails_not_accepts}
use Rattle.drup.proofs.Trimmed.{certified, reported}

-- a check that is not turned down has the empty lemma at the end
check_ended : (m : Machine) (lent : Lent) → check_refused m lent ≡ 0 → ended m.steps ≡ true
check_ended m lent e = not-false (ended m.steps) (unbroken (check_rules m lent) (omega arith) e).0

-- no verdict is not some verdict
none_not_some : {A : Type 0} {v : Verdict} → none ≡ some v → A
none_not_some e = let z : ◌≡◌ {A = ℕ} 0 1 = cc in absurd (omega arith)

-- what a box and a forward machine share
record Agree (forward : Machine) (box : Box) : Type 0 where
  same : box.machine ≡ forward
  worth : (v : Verdict) → box.verdict ≡ some v → Certified forward v

-- a call leaves them in agreement
agree_called :
    (forward : Machine) (before box : Box) (call : Call) (n : ℕ) → Agree forward before → Happens before (called call n) box
    → Agree (told forward call) box
agree_called forward before box call zero a (r, e) =
    let z : refused forward call ≡ 0 = ap (λ (m : Machine). refused m call) (sym a.same) ∙ sym r in
    record {
      same = ap (λ (x : Box). x.machine) e ∙ ap (λ (m : Machine). after m call) a.same ∙ sym (ap (λ (k : ℕ). unless k (after forward call) forward) z);
      worth = λ v p. none_not_some (sym (ap (λ (x : Box). x.verdict) e) ∙ p);
    }
agree_called forward before box call (suc n) a (r, e) =
    let z : refused forward call ≡ suc n = ap (λ (m : Machine). refused m call) (sym a.same) ∙ sym r in
    let t : told forward call ≡ forward = ap (λ (k : ℕ). unless k (after forward call) forward) z in
    record {
      same = ap (λ (x : Box). x.machine) e ∙ a.same ∙ sym t;
      worth = λ v p. subst (λ (m : Machine). Certified m v) (sym t) (a.worth v (sym (ap (λ (x : Box). x.verdict) e) ∙ p));
    }

-- so does a check
agree_checked :
    (forward : Machine) (before box : Box) (lent : Lent) (outcome : Outcome)
    → WellFormed forward → Agree forward before → Happens before (checked lent outcome) box → Agree forward box
agree_checked forward before box lent outcome w a (r, b, e) =
    record {
      same = ap (λ (x : Box). x.machine) e ∙ a.same;
      worth = λ v p. certify v outcome (sym (ap (λ (x : Box). x.verdict) e) ∙ p) (subst (λ (m : Machine). Checks m outcome) a.same b);
    }
  where
    certify : (v : Verdict) (outcome : Outcome) → verdict_of outcome ≡ some v → Checks forward outcome → Certified forward v
    certify v (accepted new report) p c =
        let s : new ≡ v = cc in
        certified forward v report w (check_ended forward lent (subst (λ (m : Machine). check_refused m lent ≡ 0) a.same r)) (rw s at c)
    certify v (fails step answers) p c = none_not_some p

module _ (new : Machine) (well : WellFormed new) where
  -- after every run
  agree : (events : List Event) (box : Box) → Run new events box → Agree (fed new (calls events)) box
  agree [] box e =
      record {
        same = ap (λ (x : Box). x.machine) e;
        worth = λ v p. none_not_some (sym (ap (λ (x : Box). x.verdict) e) ∙ p);
      }
  agree (called call n ∷ earlier) box (before, run, h) =
      agree_called (fed new (calls earlier)) before box call n (agree earlier before run) h
  agree (unchecked lent n ∷ earlier) box (before, run, h) = subst (Agree (fed new (calls earlier))) (sym h.2) (agree earlier before run)
  agree (checked lent outcome ∷ earlier) box (before, run, h) =
      agree_checked (fed new (calls earlier)) before box lent outcome (fed_well new (calls earlier) well) (agree earlier before run) h

  -- the latest answer fits the forward machine
  answered : (events : List Event) (box : Box) → Run new events box → LatestAnswered new events
  answered [] box run = tt
  answered (called call n ∷ earlier) box (before, run, h) =
      h.0 ∙ ap (λ (m : Machine). refused m call) (agree earlier before run).same
  answered (unchecked lent n ∷ earlier) box (before, run, h) =
      h.0 ∙ ap (λ (m : Machine). check_refused m lent) (agree earlier before run).same
  answered (checked lent (accepted v report) ∷ earlier) box (before, run, h) =
      reported (fed new (calls earlier)) v report (fed_well new (calls earlier) well)
      (subst (λ (m : Machine). Checks m (accepted v report)) (agree earlier before run).same h.1)
  answered (checked lent (fails step answers) ∷ earlier) box (before, run, h) =
      let forward : Machine = fed new (calls earlier) in
      let f =
      fails_at forward (fed_well new (calls earlier) well) step answers
      (subst (λ (m : Machine). Checks m (fails step answers)) (agree earlier before run).same h.1) in
      (f, fails_not_accepts forward step answers f)

-- the main theorem
pub agreement : Agreement
agreement variables clause_places literal_places events box run =
    let new : Machine = opened variables clause_places literal_places in
    let well = opened_well variables clause_places literal_places in
    let a = agree new well events box run in
    record { same = a.same; verdict_stands = a.worth; latest_answered = answered new well events box run }
