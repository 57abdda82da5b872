-- Calls replayed on a new job.
use Rattle.std.proofs.Common.{◌≡◌, ℕ, zero, suc, ◌+◌, Bool, true, false, cond, not, eqb, ltb, List, [], ◌∷◌, length, get_or, Ok, Err, Result, sym, refl, ap, ◌∙◌, subst, arith}
use mathlib.Core.Option.{none}
use Rattle.std.proofs.lemmas.Bool.{eqb-true}
use Rattle.cnf.specs.declared.literals.Literal.{Literal}
use Rattle.cnf.specs.declared.faults.ClauseFault.TheVariants.{OutOfRange, Repeated}
use Rattle.cnf.specs.Clauses.{Clause}
use Rattle.cnf.specs.Arranging.{Arrangement, arrangement}
use Rattle.drup.specs.History.{ended}
use Rattle.drup.specs.Forward.{Machine, opened, Call, clause, lemma, strike, withdraw, rule, first_broken, after, unless}
use Rattle.drup.specs.Backward.{fails}
use Rattle.drup.specs.Box.{Box, Event, Lent, called, unchecked, checked, too_small, Happens, Run}
use Rattle.drup.proofs.Agreeing.{agreement}
use Rattle.engine.specs.Meaning.{Meaning}
use Rattle.job.specs.declared.faults.JobFault.{JobFault}
use Rattle.job.specs.declared.faults.JobFault.TheVariants.{Clause as Faulty, TooSmall, Limits, Begun, Ended, Full, NoneLive, NoStep, NotEnded, Fails, NotJudged, TrialOpen}
use Rattle.job.specs.declared.jobs.orders.Order.{Order}
use Rattle.job.specs.declared.jobs.reports.Report.{Report}
use Rattle.job.specs.Faults.{number_of, place_of}
use Rattle.job.specs.Calls.{refusal, refusal_place, done_of, with_clause, is_full, clause_answer, lemma_answer, copy_in, found_or, strike_answer, withdraw_answer}
use Rattle.job.specs.View.{View}
use Rattle.job.specs.History.{steps_of, box_in}
use Rattle.job.specs.Checking.{event_of}
use Rattle.job.specs.Replaying.{blank_order, IsCheck, IsOrdered, number_in, fault_place, place_in, Came, Played, AgreesThroughout}

-- a check's event
module _ (lent : Lent) (s' : View) (m' : Meaning) where
  pub event_check : (r : Result Report JobFault) → IsCheck (event_of lent r s' m')
  event_check (Ok r) = tt
  event_check (Err fault) = go (eqb (number_of fault) 14)
    where
      go : (b : Bool) → IsCheck (cond b (checked lent (fails (place_of fault) m'.answers)) (unchecked lent (number_of fault)))
      go true = tt
      go false = tt

  pub event_number : (r : Result Report JobFault) → refusal r ≡ number_in (event_of lent r s' m')
  event_number (Ok r) = refl
  event_number (Err fault) = go (eqb (number_of fault) 14) refl
    where
      go : (b : Bool) → eqb (number_of fault) 14 ≡ b → number_of fault ≡ number_in (cond b (checked lent (fails (place_of fault) m'.answers)) (unchecked lent (number_of fault)))
      go true e = eqb-true (number_of fault) 14 e
      go false e = refl

-- an answer with what it gives left out
pub done_refusal : {A : Type 0} (r : Result A JobFault) → refusal (done_of r) ≡ refusal r
done_refusal (Ok x) = refl
done_refusal (Err fault) = refl

done_place : {A : Type 0} (r : Result A JobFault) → refusal_place (done_of r) ≡ refusal_place r
done_place (Ok x) = refl
done_place (Err fault) = refl

-- the places of the calls' refusals
place_with : {A : Type 0} (a : Arrangement) (next : Clause → Result A JobFault) → ((c : Clause) → refusal_place (next c) ≡ 0)
    → refusal_place (with_clause a next) ≡ fault_place a
place_with (Ok c) next without = without c
place_with (Err fault) next without = refl

place_else : {A : Type 0} (b : Bool) (fault : JobFault) (r : Result A JobFault) → place_of fault ≡ 0 → refusal_place r ≡ 0
    → refusal_place (cond b (Err fault) r) ≡ 0
place_else true fault r e f = e
place_else false fault r e f = f

place_found : (n : ℕ) → refusal_place (found_or NoneLive n) ≡ 0
place_found zero = refl
place_found (suc n) = refl

module _ (s : View) (ls : List Literal) where
  pub place_clause : refusal_place (clause_answer s ls) ≡ fault_place (arrangement s.variables ls)
  place_clause = place_with (arrangement s.variables ls) _ (λ c. place_else (ltb 0 s.taken) Begun _ refl (place_else (is_full s (length c)) Full _ refl refl))

  pub place_lemma : refusal_place (lemma_answer s ls) ≡ fault_place (arrangement s.variables ls)
  place_lemma = place_with (arrangement s.variables ls) _ (λ c. place_else (ended (steps_of s)) Ended _ refl (place_else (is_full s (length c)) Full _ refl refl))

  pub place_strike : refusal_place (strike_answer s ls) ≡ fault_place (arrangement s.variables ls)
  place_strike = place_with (arrangement s.variables ls) _ (λ c. place_else (ended (steps_of s)) Ended _ refl (place_found (copy_in s c)))

pub place_withdraw : (s : View) → refusal_place (withdraw_answer s) ≡ 0
place_withdraw s = place_else (eqb s.taken 0) NoStep _ refl refl

-- a check that is turned down before it begins has no place
no_place : (fault : JobFault) (a b d : Bool) → number_of fault ≡ first_broken (rule 13 a ∷ rule 6 b ∷ rule 19 d ∷ []) → place_of fault ≡ 0
no_place (Faulty (OutOfRange p)) true b d e = absurd (omega arith)
no_place (Faulty (OutOfRange p)) false true d e = absurd (omega arith)
no_place (Faulty (OutOfRange p)) false false true e = absurd (omega arith)
no_place (Faulty (OutOfRange p)) false false false e = absurd (omega arith)
no_place (Faulty (Repeated p)) true b d e = absurd (omega arith)
no_place (Faulty (Repeated p)) false true d e = absurd (omega arith)
no_place (Faulty (Repeated p)) false false true e = absurd (omega arith)
no_place (Faulty (Repeated p)) false false false e = absurd (omega arith)
no_place (Fails step) true b d e = absurd (omega arith)
no_place (Fails step) false true d e = absurd (omega arith)
no_place (Fails step) false false true e = absurd (omega arith)
no_place (Fails step) false false false e = absurd (omega arith)
no_place TooSmall a b d e = refl
no_place Limits a b d e = refl
no_place Begun a b d e = refl
no_place Ended a b d e = refl
no_place Full a b d e = refl
no_place NoneLive a b d e = refl
no_place NoStep a b d e = refl
no_place NotEnded a b d e = refl
no_place NotJudged a b d e = refl
no_place TrialOpen a b d e = refl

pub place_check : (variables : ℕ) (box box' : Box) (lent : Lent) (s' : View) (m' : Meaning) (r : Result Report JobFault) → Happens box (event_of lent r s' m') box'
    → refusal_place r ≡ place_in variables (event_of lent r s' m')
place_check variables box box' lent s' m' (Ok r) h = refl
place_check variables box box' lent s' m' (Err fault) h = go (eqb (number_of fault) 14) h
  where
    go : (b : Bool) → Happens box (cond b (checked lent (fails (place_of fault) m'.answers)) (unchecked lent (number_of fault))) box'
        → place_of fault ≡ place_in variables (cond b (checked lent (fails (place_of fault) m'.answers)) (unchecked lent (number_of fault)))
    go true h = refl
    go false h = no_place fault (not (ended box.machine.steps)) (too_small box.machine lent) lent.trial_open h.0

-- what came of an order that is known, by the answer of its call
pub came : {A : Type 0} (s s' : View) (order known : Order) (answer : Result A JobFault) (r : Result (Unit {0}) JobFault) (event : Event) → order ≡ known
    → IsOrdered known event → Happens (box_in s) event (box_in s') → r ≡ done_of answer → refusal answer ≡ number_in event
    → refusal_place answer ≡ place_in s.variables event → Came s order r s'
came s s' order known answer r event e of h d n p = record {
  event = event;
  ordered = subst (λ (o : Order). IsOrdered o event) (sym e) of;
  happened = h;
  tells = (ap refusal d ∙ done_refusal answer ∙ n, ap refusal_place d ∙ done_place answer ∙ p);
}

-- no event changes the highest variable
variables_happen : (box : Box) (event : Event) (box' : Box) → Happens box event box' → box'.machine.variables ≡ box.machine.variables
variables_happen box (called call n) box' h = ap (λ (b : Box). b.machine.variables) h.1 ∙ go n ∙ same call
  where
    same : (call : Call) → (after box.machine call).variables ≡ box.machine.variables
    same (clause ls) = refl
    same (lemma ls) = refl
    same (strike ls) = refl
    same withdraw = refl

    go : (n : ℕ) → (unless n (record { machine = after box.machine call; verdict = none }) box).machine.variables ≡ (after box.machine call).variables
    go zero = refl
    go (suc n) = sym (same call)
variables_happen box (unchecked lent n) box' h = ap (λ (b : Box). b.machine.variables) h.2
variables_happen box (checked lent outcome) box' h = ap (λ (b : Box). b.machine.variables) h.2

variables_run : (new : Machine) (events : List Event) (box : Box) → Run new events box → box.machine.variables ≡ new.variables
variables_run new [] box r = ap (λ (b : Box). b.machine.variables) r
variables_run new (event ∷ earlier) box (before, r, h) = variables_happen before event box h ∙ variables_run new earlier before r

-- one order more
pub played_more : (new : Machine) (orders : List Order) (i : ℕ) (r r' : Result (Unit {0}) JobFault) (s s' : View) → Played new orders i r s
    → Came s (get_or orders i blank_order) r' s' → Played new orders (i + 1) r' s'
played_more new orders i r r' s s' p c = record {
  events = c.event ∷ p.events;
  all = (let a = p.all in omega arith);
  ordered = (subst (λ (k : ℕ). IsOrdered (get_or orders k blank_order) c.event) (sym p.all) c.ordered, p.ordered);
  run = (box_in s, p.run, c.happened);
  tells = (c.tells.0, c.tells.1 ∙ ap (λ (v : ℕ). place_in v c.event) (variables_run new p.events (box_in s) p.run));
}

-- and every run agrees
pub agrees_throughout : (v n q : ℕ) (events : List Event) (box : Box) → Run (opened v n q) events box → AgreesThroughout (opened v n q) events box
agrees_throughout v n q [] box r = agreement v n q [] box r
agrees_throughout v n q (event ∷ earlier) box (before, r, h) =
    (agreement v n q (event ∷ earlier) box (before, r, h), (before, agrees_throughout v n q earlier before r, h))
