-- What a call answers, by the tests that its code makes.
use Rattle.std.proofs.Common.{◌≡◌, ℕ, zero, suc, ◌+◌, ◌-◌, ◌<◌, ◌≤◌, min, Bool, true, false, cond, ltb, leb, List, [], length, Ok, Err, Result, sym, refl, ap, ◌∙◌, subst, arith}
use Rattle.std.proofs.lemmas.Bool.{lt-ltb, le-ltb, ne_eqb, or_parts, leb-false, ltb-false}
use Rattle.cnf.specs.declared.literals.Literal.{Literal}
use Rattle.cnf.specs.declared.faults.ClauseFault.TheVariants.{OutOfRange, Repeated}
use Rattle.cnf.specs.Clauses.{Clause}
use Rattle.cnf.specs.Ascending.{ascending}
use Rattle.cnf.specs.Arranging.{Arrangement, beyond, twice, in_range_until, new_until, arranged, arrangement, ClauseOf}
use Rattle.cnf.proofs.Arranging.{arrangement_clause}
use Rattle.cnf.proofs.Rising.{clause_ascending}
use Rattle.drup.specs.History.{ended}
use Rattle.job.specs.declared.faults.JobFault.{JobFault}
use Rattle.job.specs.declared.faults.JobFault.TheVariants.{Begun, Ended, Full, NoneLive}
use Rattle.job.specs.View.{View}
use Rattle.job.specs.History.{steps_of}
use Rattle.job.specs.Calls.{with_clause, is_full, HasRoom, clause_answer, lemma_answer, copy_in, found_or, strike_answer, last_step, withdraw_answer}

-- literals that make a clause
pub record Makes (variables : ℕ) (ls : List Literal) (c : Clause) : Type 0 where
  pub is : arrangement variables ls ≡ Ok c
  pub same : c ≡ arranged ls
  pub rises : ascending 0 variables c ≡ true

arranged_is : (variables : ℕ) (ls : List Literal) (c : Clause) → arrangement variables ls ≡ Ok c → c ≡ arranged ls
arranged_is variables ls c e = go (beyond variables ls) (twice ls) e
  where
    go : (b t : Bool)
        → ◌≡◌ {A = Arrangement} (cond b (Err (OutOfRange (in_range_until variables ls))) (cond t (Err (Repeated (new_until [] ls))) (Ok (arranged ls)))) (Ok c)
        → c ≡ arranged ls
    go true t e = let z : ◌≡◌ {A = ℕ} 0 1 = cc in absurd (omega arith)
    go false true e = let z : ◌≡◌ {A = ℕ} 0 1 = cc in absurd (omega arith)
    go false false e = cc

pub makes : (variables : ℕ) (ls : List Literal) (c : Clause) (a : Arrangement) → variables ≤ 512 → Ok c ≡ a
    → a ≡ arrangement (min variables 512) ls → Makes variables ls c
makes variables ls c a h e f =
    let m : min variables 512 ≡ variables = omega arith in
    let is : arrangement variables ls ≡ Ok c = sym (e ∙ f ∙ ap (λ (n : ℕ). arrangement n ls) m) in
    record {
      is = is;
      same = arranged_is variables ls c is;
      rises = clause_ascending variables c (subst (ClauseOf variables ls) is (arrangement_clause variables ls)).0;
    }

-- what is said of their clause
said : {A : Type 0} (a : Arrangement) (c : Clause) (next : Clause → Result A JobFault) (r : Result A JobFault) → a ≡ Ok c → next c ≡ r
    → r ≡ with_clause a next
said a c next r e n = sym (ap (λ (b : Arrangement). with_clause b next) e ∙ n)

-- the answers of a call that enters a clause
module _ (s : View) (ls : List Literal) (c : Clause) (e : arrangement s.variables ls ≡ Ok c) where
  pub clause_begun : 0 < s.taken → Err Begun ≡ clause_answer s ls
  clause_begun h = said (arrangement s.variables ls) c _ (Err Begun) e (rw (lt-ltb 0 s.taken h) refl)

  pub clause_full : s.taken ≤ 0 → is_full s (length c) ≡ true → Err Full ≡ clause_answer s ls
  clause_full h f = said (arrangement s.variables ls) c _ (Err Full) e (rw (le-ltb 0 s.taken h, f) refl)

  pub clause_entered : s.taken ≤ 0 → is_full s (length c) ≡ false → Ok (s.clauses + 1) ≡ clause_answer s ls
  clause_entered h f = said (arrangement s.variables ls) c _ (Ok (s.clauses + 1)) e (rw (le-ltb 0 s.taken h, f) refl)

  pub lemma_ended : ended (steps_of s) ≡ true → Err Ended ≡ lemma_answer s ls
  lemma_ended h = said (arrangement s.variables ls) c _ (Err Ended) e (rw h refl)

  pub lemma_full : ended (steps_of s) ≡ false → is_full s (length c) ≡ true → Err Full ≡ lemma_answer s ls
  lemma_full h f = said (arrangement s.variables ls) c _ (Err Full) e (rw (h, f) refl)

  pub lemma_entered : ended (steps_of s) ≡ false → is_full s (length c) ≡ false → Ok (s.clauses + 1) ≡ lemma_answer s ls
  lemma_entered h f = said (arrangement s.variables ls) c _ (Ok (s.clauses + 1)) e (rw (h, f) refl)

  pub strike_ended : ended (steps_of s) ≡ true → Err Ended ≡ strike_answer s ls
  strike_ended h = said (arrangement s.variables ls) c _ (Err Ended) e (rw h refl)

  pub strike_none_live : ended (steps_of s) ≡ false → copy_in s c ≡ 0 → Err NoneLive ≡ strike_answer s ls
  strike_none_live h f = said (arrangement s.variables ls) c _ (Err NoneLive) e (rw (h, f) refl)

  pub strike_found : (n : ℕ) → ended (steps_of s) ≡ false → n ≡ copy_in s c → 1 ≤ n → Ok n ≡ strike_answer s ls
  strike_found n h f low = said (arrangement s.variables ls) c _ (Ok n) e (rw (h, ← f) (go n low))
    where
      go : (n : ℕ) → 1 ≤ n → found_or NoneLive n ≡ Ok n
      go zero low = absurd (omega arith)
      go (suc n) low = refl

-- there is room
pub room_for : (s : View) (count : ℕ) → s.used ≤ s.room → is_full s count ≡ false → HasRoom s count
room_for s count h e =
    let p = or_parts (leb s.places s.clauses) (ltb (s.room - s.used) count) e in
    let a = leb-false s.places s.clauses p.0 in
    let b = ltb-false (s.room - s.used) count p.1 in
    (a, omega arith)

pub withdraw_done : (s : View) → (s.taken ≡ 0 → ⊥) → Ok (last_step s) ≡ withdraw_answer s
withdraw_done s h = rw (ne_eqb s.taken 0 h) refl
