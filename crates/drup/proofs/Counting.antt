-- How many numbers from 1 to a highest pass a test.
use Rattle.std.proofs.Common.{◌≡◌, ℕ, zero, suc, ◌+◌, ◌≤◌, Bool, true, false, cond, ◌||◌, eqb, refl, inl, inr, arith}
use Rattle.std.proofs.lemmas.Bool.{eq-eqb}
use Rattle.drup.proofs.Numbers.{at_most}

-- how many numbers from 1 to k pass
unfoldable pub counted : ℕ → (ℕ → Bool) → ℕ
counted zero test = 0
counted (suc k) test = cond (test (suc k)) 1 0 + counted k test

-- no more than there are
pub counted_most : (k : ℕ) (test : ℕ → Bool) → counted k test ≤ k
unfolding counted
counted_most zero test = omega arith
counted_most (suc k) test = go (test (suc k)) (counted_most k test)
  where
    go : (b : Bool) → counted k test ≤ k → cond b 1 0 + counted k test ≤ suc k
    go true h = omega arith
    go false h = omega arith

-- another way to pass takes none away
one_more : (a b : Bool) → cond b 1 0 ≤ cond (a || b) 1 0
one_more true true = omega arith
one_more true false = omega arith
one_more false true = omega arith
one_more false false = omega arith

-- the same of the count
counted_grows : (k n : ℕ) (test : ℕ → Bool) → counted k test ≤ counted k (λ i. eqb i n || test i)
unfolding counted
counted_grows zero n test = omega arith
counted_grows (suc k) n test =
    let h = counted_grows k n test in
    let j = one_more (eqb (suc k) n) (test (suc k)) in
    omega arith

-- one more number that passes counts
pub counted_more :
    (k n : ℕ) (test : ℕ → Bool) → 1 ≤ n → n ≤ k → test n ≡ false → suc (counted k test) ≤ counted k (λ i. eqb i n || test i)
unfolding counted
counted_more zero n test low high new = absurd (omega arith)
counted_more (suc k) n test low high new =
    elim (at_most n k high) [
      | inl e ↦
          let h = counted_grows k n test in
          let t : test (suc k) ≡ false = rw e at new in
          let s : eqb (suc k) n ≡ true = rw e (eq-eqb (suc k) (suc k) refl) in
          rw (s, t) (omega arith)
      | inr le ↦
          let h = counted_more k n test low le new in
          let j = one_more (eqb (suc k) n) (test (suc k)) in
          omega arith
    ]
