-- The test of a clause in a type's invariant says what a clause is.
use Rattle.std.proofs.Common.{◌≡◌, ℕ, ◌<◌, ◌≤◌, true, ◌&&◌, ltb, leb, [], ◌∷◌, refl, arith}
use mathlib.Core.List.Memᴰ
use mathlib.Core.List.Memᴰ.{head as here}
use mathlib.Core.List.Memᴰ.{tail as there}
use Rattle.std.proofs.lemmas.Bool.{and_parts, and_from, ltb-true, leb-true, lt-ltb, le-leb}
use Rattle.cnf.specs.declared.literals.Literal.{Literal}
use Rattle.cnf.specs.Clauses.{Clause, ◌∈◌, Rising, IsClause}
use Rattle.cnf.specs.Ascending.{ascending}
use Rattle.cnf.proofs.Arranging.{all_cons}

-- each variable is above the lowest
above_all : (low high : ℕ) (c : Clause) → ascending low high c ≡ true → (k : Literal) → k ∈ c → (low < k.variable) × (k.variable ≤ high)
above_all low high [] e k m = absurd (Memᴰ.not-nil m)
above_all low high (l ∷ c) e k m =
    let p = and_parts (ltb low l.variable && leb l.variable high) (ascending l.variable high c) e in
    let q = and_parts (ltb low l.variable) (leb l.variable high) p.0 in
    let a = ltb-true low l.variable q.0 in
    let b = leb-true l.variable high q.1 in
    all_cons (λ k. (low < k.variable) × (k.variable ≤ high)) (a, b)
    (λ j n. let r = above_all l.variable high c p.1 j n in (omega arith, r.1)) k m

rises : (low high : ℕ) (c : Clause) → ascending low high c ≡ true → Rising c
rises low high [] e = tt
rises low high (l ∷ c) e =
    let p = and_parts (ltb low l.variable && leb l.variable high) (ascending l.variable high c) e in
    ((λ k m. (above_all l.variable high c p.1 k m).0), rises l.variable high c p.1)

pub ascending_clause : (high : ℕ) (c : Clause) → ascending 0 high c ≡ true → IsClause high c
ascending_clause high c e =
    record { rising = rises 0 high c e; within = λ k m. let r = above_all 0 high c e k m in (omega arith, r.1) }

ascends : (low high : ℕ) (c : Clause) → Rising c → ((k : Literal) → k ∈ c → (low < k.variable) × (k.variable ≤ high)) → ascending low high c ≡ true
ascends low high [] r w = refl
ascends low high (l ∷ c) r w =
    let h = w l (here refl) in
    and_from _ _ (and_from _ _ (lt-ltb low l.variable h.0) (le-leb l.variable high h.1))
    (ascends l.variable high c r.1 (λ k m. (r.0 k m, (w k (there m)).1)))

pub clause_ascending : (high : ℕ) (c : Clause) → IsClause high c → ascending 0 high c ≡ true
clause_ascending high c is = ascends 0 high c is.rising (λ k m. let r = is.within k m in (omega arith, r.1))
