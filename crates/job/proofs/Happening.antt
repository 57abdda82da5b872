-- What happens to a job's box at a call.
use Rattle.std.proofs.Common.{◌≡◌, ℕ, zero, suc, ◌+◌, ◌-◌, ◌<◌, ◌≤◌, Bool, true, false, cond, not, eqb, ltb, leb, List, [], ◌∷◌, length, is_ok, Ok, Err, Result, sym, refl, ap, ◌∙◌, inl, inr, arith}
use mathlib.Core.Option.{none}
use Rattle.std.proofs.lemmas.Bool.{ltb-false, leb-false, or_parts, eqb-false, not-false, cases_eq, eq-eqb, ne_eqb, lt-ltb, ltb-true}
use Rattle.cnf.specs.declared.literals.Literal.{Literal}
use Rattle.cnf.specs.declared.faults.ClauseFault.TheVariants.{OutOfRange, Repeated}
use Rattle.cnf.specs.Clauses.{Clause}
use Rattle.cnf.specs.Arranging.{beyond, twice, in_range_until, new_until, arranged}
use Rattle.drup.specs.History.{struck, begun, ended}
use Rattle.drup.specs.Forward.{Machine, Call, clause, lemma, strike, withdraw, full, target, rules, refused, after, unless}
use Rattle.drup.specs.Box.{Happens, called}
use Rattle.drup.specs.Reading.{box_of}
use Rattle.drup.proofs.WellFormed.{unbroken}
use Rattle.job.specs.declared.faults.JobFault.{JobFault}
use Rattle.job.specs.declared.faults.JobFault.TheVariants.{Clause as Faulty, TooSmall, Limits, Begun, Ended, Full, NoneLive, NoStep, NotEnded, Fails, NotJudged, TrialOpen}
use Rattle.job.specs.declared.rows.StepRow.{StepRow}
use Rattle.job.specs.declared.rows.StepRow.TheVariants.{Lemma, Strike}
use Rattle.job.specs.Faults.{number_of}
use Rattle.job.specs.View.{View, text_in, texts, marks}
use Rattle.job.specs.History.{steps_of, machine_of, box_in}
use Rattle.job.specs.Sound.{Sound}
use Rattle.job.specs.Calls.{refusal, with_clause, is_full, clause_answer, lemma_answer, copy_in, found_or, strike_answer, last_step, withdraw_answer, with_input, with_lemma, with_strike, without}
use Rattle.job.proofs.Entries.{inputs_input, steps_input, inputs_lemma, steps_lemma}
use Rattle.job.proofs.Strikes.{inputs_strike, steps_strike}
use Rattle.job.proofs.Withdrawals.{without_last_lem, inputs_without_lemma, steps_without_lemma, inputs_without_strike, steps_without_strike}
use Rattle.job.proofs.Standing.{begun_taken, full_same, copy_target, copy_is_live}

-- a fault has a number
refused_stays : {A : Type 0} (fault : JobFault) (new old : A) → unless (number_of fault) new old ≡ old
refused_stays (Faulty (OutOfRange place)) new old = refl
refused_stays (Faulty (Repeated place)) new old = refl
refused_stays TooSmall new old = refl
refused_stays Limits new old = refl
refused_stays Begun new old = refl
refused_stays Ended new old = refl
refused_stays Full new old = refl
refused_stays NoneLive new old = refl
refused_stays NoStep new old = refl
refused_stays NotEnded new old = refl
refused_stays (Fails step) new old = refl
refused_stays NotJudged new old = refl
refused_stays TrialOpen new old = refl

-- a call that answers by its refusal, changes the machine if it is accepted, and else nothing
happens : {A : Type 0} (s s' : View) (call : Call) (r : Result A JobFault) → refusal r ≡ refused (machine_of s) call
    → (is_ok r ≡ true → (machine_of s' ≡ after (machine_of s) call) × (s'.judged ≡ false)) → (is_ok r ≡ false → s' ≡ s)
    → Happens (box_in s) (called call (refusal r)) (box_in s')
happens s s' call (Ok x) e yes-then no-then =
    let (m, j) = yes-then refl in
    (e, new_box_lem (machine_of s') (after (machine_of s) call) s'.judged (marks s') s'.arcs m j)
  where
    new_box_lem : (m n : Machine) (judged : Bool) (marks : List Bool) (arcs : List ℕ) → m ≡ n → judged ≡ false
        → box_of m judged marks arcs ≡ record { machine = n; verdict = none }
    new_box_lem m n judged marks arcs p q = rw q (ap (λ (x : Machine). record { machine = x; verdict = none }) p)
happens s s' call (Err fault) e yes-then no-then =
    (e, ap box_in (no-then refl) ∙ sym (refused_stays fault (record { machine = after (machine_of s) call; verdict = none }) (box_in s)))

-- the rules of a call that names a clause
by_rules : (b t g f : Bool) (p q n : ℕ) (c : Clause) (next : Clause → Result ℕ JobFault) (stop place : JobFault)
    → next c ≡ cond g (Err stop) (cond f (Err place) (Ok n))
    → refusal (with_clause (cond b (Err (OutOfRange p)) (cond t (Err (Repeated q)) (Ok c))) next)
    ≡ cond b 4 (cond t 5 (cond g (number_of stop) (cond f (number_of place) 0)))
by_rules true t g f p q n c next stop place e = refl
by_rules false true g f p q n c next stop place e = refl
by_rules false false true f p q n c next stop place e = ap refusal e
by_rules false false false true p q n c next stop place e = ap refusal e
by_rules false false false false p q n c next stop place e = ap refusal e

module _ (s : View) (o : Sound s) (ls : List Literal) where
  clause_refusal : refusal (clause_answer s ls) ≡ refused (machine_of s) (clause ls)
  clause_refusal =
      by_rules (beyond s.variables ls) (twice ls) (ltb 0 s.taken) (is_full s (length (arranged ls))) (in_range_until s.variables ls) (new_until [] ls) (s.clauses + 1) (arranged ls)
      (λ c. cond (ltb 0 s.taken) (Err Begun) (cond (is_full s (length c)) (Err Full) (Ok (s.clauses + 1)))) Begun Full refl
      ∙ ap (λ (g : Bool). cond (beyond s.variables ls) 4 (cond (twice ls) 5 (cond g 8 (cond (is_full s (length (arranged ls))) 10 0)))) (sym (begun_taken (text_in (texts s)) s.steps s.taken))
      ∙ ap (λ (f : Bool). cond (beyond s.variables ls) 4 (cond (twice ls) 5 (cond (begun (steps_of s)) 8 (cond f 10 0)))) (sym (full_same s o ls))

  lemma_refusal : refusal (lemma_answer s ls) ≡ refused (machine_of s) (lemma ls)
  lemma_refusal =
      by_rules (beyond s.variables ls) (twice ls) (ended (steps_of s)) (is_full s (length (arranged ls))) (in_range_until s.variables ls) (new_until [] ls) (s.clauses + 1) (arranged ls)
      (λ c. cond (ended (steps_of s)) (Err Ended) (cond (is_full s (length c)) (Err Full) (Ok (s.clauses + 1)))) Ended Full refl
      ∙ ap (λ (f : Bool). cond (beyond s.variables ls) 4 (cond (twice ls) 5 (cond (ended (steps_of s)) 9 (cond f 10 0)))) (sym (full_same s o ls))

  strike_refusal : refusal (strike_answer s ls) ≡ refused (machine_of s) (strike ls)
  strike_refusal =
      by_rules (beyond s.variables ls) (twice ls) (ended (steps_of s)) (eqb (copy_in s (arranged ls)) 0) (in_range_until s.variables ls) (new_until [] ls) (copy_in s (arranged ls)) (arranged ls)
      (λ c. cond (ended (steps_of s)) (Err Ended) (found_or NoneLive (copy_in s c))) Ended NoneLive
      (ap (λ (r : Result ℕ JobFault). cond (ended (steps_of s)) (Err Ended) r) (found (copy_in s (arranged ls))))
      ∙ ap (λ (n : ℕ). cond (beyond s.variables ls) 4 (cond (twice ls) 5 (cond (ended (steps_of s)) 9 (cond (eqb n 0) 11 0)))) (sym (copy_target s o (arranged ls)))
    where
      found : (n : ℕ) → found_or NoneLive n ≡ cond (eqb n 0) (Err NoneLive) (Ok n)
      found zero = refl
      found (suc n) = rw (ne_eqb (suc n) 0 (λ z. omega arith)) refl

  -- there is room
  room_left : full (machine_of s) ls ≡ false → (s.clauses < s.places) × (s.used + length (arranged ls) ≤ s.room)
  room_left e =
      let p = or_parts (leb s.places s.clauses) (ltb (s.room - s.used) (length (arranged ls))) (sym (full_same s o ls) ∙ e) in
      let a = leb-false s.places s.clauses p.0 in
      let b = ltb-false (s.room - s.used) (length (arranged ls)) p.1 in
      let c = o.counts.3 in
      (a, omega arith)

  pub clause_happens : (r : Result ℕ JobFault) (s' : View) → r ≡ clause_answer s ls → s' ≡ with_input (is_ok r) s (arranged ls)
      → Happens (box_in s) (called (clause ls) (refusal r)) (box_in s')
  clause_happens r s' answer after-that =
      happens s s' (clause ls) r (ap refusal answer ∙ clause_refusal) (accepted r (ap refusal answer ∙ clause_refusal) after-that)
      (λ no. after-that ∙ ap (λ (b : Bool). with_input b s (arranged ls)) no)
    where
      accepted : (r : Result ℕ JobFault) → refusal r ≡ refused (machine_of s) (clause ls) → s' ≡ with_input (is_ok r) s (arranged ls)
          → is_ok r ≡ true → (machine_of s' ≡ after (machine_of s) (clause ls)) × (s'.judged ≡ false)
      accepted (Err fault) e now bad = let z : ◌≡◌ {A = ℕ} 0 1 = cc in absurd (omega arith)
      accepted (Ok n) e now ok =
          let (b, (t, (first, (f, u)))) = unbroken (rules (machine_of s) (clause ls)) (omega arith) (sym e) in
          let zero_steps = ltb-false 0 s.taken (sym (begun_taken (text_in (texts s)) s.steps s.taken) ∙ first) in
          let none_taken : s.taken ≡ 0 = omega arith in
          let room = room_left f in
          let i = inputs_input s o (arranged ls) none_taken room.0 room.1 in
          let st = steps_input s o (arranged ls) none_taken room.0 room.1 in (
            ap machine_of now
                ∙ (λ x. record { variables = s.variables; clause_places = s.places; literal_places = s.room; inputs = i x; steps = st x }),
            ap (λ (v : View). v.judged) now,
          )

  pub lemma_happens : (r : Result ℕ JobFault) (s' : View) → r ≡ lemma_answer s ls → s' ≡ with_lemma (is_ok r) s (arranged ls)
      → Happens (box_in s) (called (lemma ls) (refusal r)) (box_in s')
  lemma_happens r s' answer after-that =
      happens s s' (lemma ls) r (ap refusal answer ∙ lemma_refusal) (accepted r (ap refusal answer ∙ lemma_refusal) after-that)
      (λ no. after-that ∙ ap (λ (b : Bool). with_lemma b s (arranged ls)) no)
    where
      accepted : (r : Result ℕ JobFault) → refusal r ≡ refused (machine_of s) (lemma ls) → s' ≡ with_lemma (is_ok r) s (arranged ls)
          → is_ok r ≡ true → (machine_of s' ≡ after (machine_of s) (lemma ls)) × (s'.judged ≡ false)
      accepted (Err fault) e now bad = let z : ◌≡◌ {A = ℕ} 0 1 = cc in absurd (omega arith)
      accepted (Ok n) e now ok =
          let (b, (t, (on, (f, u)))) = unbroken (rules (machine_of s) (lemma ls)) (omega arith) (sym e) in
          let room = room_left f in
          let i = inputs_lemma s o (arranged ls) room.0 room.1 in
          let st = steps_lemma s o (arranged ls) room.0 room.1 in (
            ap machine_of now
                ∙ (λ x. record { variables = s.variables; clause_places = s.places; literal_places = s.room; inputs = i x; steps = st x }),
            ap (λ (v : View). v.judged) now,
          )

  positive : (n : ℕ) → (n ≡ 0 → ⊥) → 1 ≤ n
  positive zero some = absurd (some refl)
  positive (suc n) some = omega arith

  pub strike_happens : (r : Result ℕ JobFault) (s' : View) → r ≡ strike_answer s ls → s' ≡ with_strike (is_ok r) s (copy_in s (arranged ls))
      → Happens (box_in s) (called (strike ls) (refusal r)) (box_in s')
  strike_happens r s' answer after-that =
      happens s s' (strike ls) r (ap refusal answer ∙ strike_refusal) (accepted r (ap refusal answer ∙ strike_refusal) after-that)
      (λ no. after-that ∙ ap (λ (b : Bool). with_strike b s (copy_in s (arranged ls))) no)
    where
      accepted : (r : Result ℕ JobFault) → refusal r ≡ refused (machine_of s) (strike ls) → s' ≡ with_strike (is_ok r) s (copy_in s (arranged ls))
          → is_ok r ≡ true → (machine_of s' ≡ after (machine_of s) (strike ls)) × (s'.judged ≡ false)
      accepted (Err fault) e now bad = let z : ◌≡◌ {A = ℕ} 0 1 = cc in absurd (omega arith)
      accepted (Ok n) e now ok =
          let (b, (t, (on, (some, u)))) = unbroken (rules (machine_of s) (strike ls)) (omega arith) (sym e) in
          let k = copy_target s o (arranged ls) in
          let apart = eqb-false (target (machine_of s) ls) 0 some in
          let was = copy_is_live s o (arranged ls) (copy_in s (arranged ls)) refl (positive (copy_in s (arranged ls)) (λ z. apart (k ∙ z))) in
          let i = inputs_strike s o (copy_in s (arranged ls)) was in
          let st = steps_strike s o (copy_in s (arranged ls)) was ∙ ap (λ (n : ℕ). struck n ∷ steps_of s) (sym k) in (
            ap machine_of now
                ∙ (λ x. record { variables = s.variables; clause_places = s.places; literal_places = s.room; inputs = i x; steps = st x }),
            ap (λ (v : View). v.judged) now,
          )

module _ (s : View) (o : Sound s) where
  withdraw_refusal : refusal (withdraw_answer s) ≡ refused (machine_of s) withdraw
  withdraw_refusal =
      elim (cases_eq s.taken 0) [
        | inl e ↦
            let b = begun_taken (text_in (texts s)) s.steps s.taken ∙ ap (ltb 0) e in
            ap (λ (x : Bool). refusal (cond x (Err NoStep) (Ok (last_step s)))) (eq-eqb s.taken 0 e)
            ∙ ap (λ (x : Bool). cond (not x) 12 0) (sym b)
        | inr ne ↦
            let b = begun_taken (text_in (texts s)) s.steps s.taken ∙ lt-ltb 0 s.taken (omega arith) in
            ap (λ (x : Bool). refusal (cond x (Err NoStep) (Ok (last_step s)))) (ne_eqb s.taken 0 ne)
            ∙ ap (λ (x : Bool). cond (not x) 12 0) (sym b)
      ]

  pub withdraw_happens : (r : Result StepRow JobFault) (s' : View) → r ≡ withdraw_answer s → s' ≡ without (is_ok r) s (last_step s)
      → Happens (box_in s) (called withdraw (refusal r)) (box_in s')
  withdraw_happens r s' answer after-that =
      happens s s' withdraw r (ap refusal answer ∙ withdraw_refusal) (accepted r (ap refusal answer ∙ withdraw_refusal) after-that)
      (λ no. after-that ∙ ap (λ (b : Bool). without b s (last_step s)) no)
    where
      by_step : 0 < s.taken → (row : StepRow) → last_step s ≡ row
          → (machine_of (without true s row) ≡ after (machine_of s) withdraw) × ((without true s row).judged ≡ false)
      by_step some (Lemma n) last =
          let i = inputs_without_lemma s o some n last in
          let st = steps_without_lemma s o some n last ∙ sym (without_last_lem s o some) in
          ((λ x. record { variables = s.variables; clause_places = s.places; literal_places = s.room; inputs = i x; steps = st x }), refl)
      by_step some (Strike n) last =
          let i = inputs_without_strike s o some n last in
          let st = steps_without_strike s o some n last ∙ sym (without_last_lem s o some) in
          ((λ x. record { variables = s.variables; clause_places = s.places; literal_places = s.room; inputs = i x; steps = st x }), refl)

      accepted : (r : Result StepRow JobFault) → refusal r ≡ refused (machine_of s) withdraw → s' ≡ without (is_ok r) s (last_step s)
          → is_ok r ≡ true → (machine_of s' ≡ after (machine_of s) withdraw) × (s'.judged ≡ false)
      accepted (Err fault) e now bad = let z : ◌≡◌ {A = ℕ} 0 1 = cc in absurd (omega arith)
      accepted (Ok row) e now ok =
          let (b, u) = unbroken (rules (machine_of s) withdraw) (omega arith) (sym e) in
          let some = ltb-true 0 s.taken (sym (begun_taken (text_in (texts s)) s.steps s.taken) ∙ not-false (begun (steps_of s)) b) in
          let r = by_step some (last_step s) refl in
          (ap machine_of now ∙ r.0, ap (λ (v : View). v.judged) now ∙ r.1)
