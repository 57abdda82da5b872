-- Literals that can stand on one trail: how one more joins them, and how many there can be.
use Rattle.std.proofs.Common.{◌≡◌, ℕ, ◌+◌, ◌<◌, ◌≤◌, false, ◌||◌, eqb, ltb, List, [], ◌∷◌, ◌++◌, length, refl, ◌∙◌, arith}
use mathlib.Core.List.Memᴰ.{head as here}
use mathlib.Core.List.Memᴰ.{tail as there}
use Rattle.std.proofs.lemmas.Bool.{or_parts, or_from, ne_eqb, le-ltb, eqb-false, ltb-false}
use Rattle.std.proofs.lemmas.List.Folds.{list_any-append}
use Rattle.std.proofs.lemmas.List.{length-map, length_push}
use Rattle.cnf.specs.declared.literals.Literal.{Literal}
use Rattle.cnf.specs.Clauses.{Clause, ◌∈◌, Rising, IsClause}
use Rattle.cnf.specs.Arranging.{outside, names, beyond, repeats, arranged}
use Rattle.cnf.proofs.Arranging.{arranged_clause, arranged_length, clause_beyond, clause_twice}
use Rattle.cnf.specs.declared.literals.Forced.{Forced}
use Rattle.engine.specs.Meaning.{highest, values_of, Consistent}

beyond_push : (top : ℕ) (ls : List Literal) (l : Literal) → beyond top ls ≡ false → outside top l ≡ false → beyond top (ls ++ l ∷ []) ≡ false
beyond_push top ls l e f = list_any-append (outside top) ls (l ∷ []) ∙ or_from _ _ e (or_from _ _ f refl)

repeats_push : (before ls : List Literal) (l : Literal) → repeats before ls ≡ false → names l.variable before ≡ false
    → names l.variable ls ≡ false → repeats before (ls ++ l ∷ []) ≡ false
repeats_push before [] l e f g = or_from (names l.variable before) false f refl
repeats_push before (k ∷ ls) l e f g =
    let p = or_parts (names k.variable before) (repeats (k ∷ before) ls) e in
    let q = or_parts (eqb l.variable k.variable) (names l.variable ls) g in
    or_from (names k.variable before) _ p.0 (repeats_push (k ∷ before) ls l p.1 (or_from (eqb l.variable k.variable) _ q.0 f) q.1)

-- a literal in range whose variable is new joins
pub consistent_push : (ls : List Literal) (l : Literal) → Consistent ls → outside highest l ≡ false → names l.variable ls ≡ false
    → Consistent (ls ++ l ∷ [])
consistent_push ls l c f g = (beyond_push highest ls l c.0 f, repeats_push [] ls l c.1 refl g)

-- the test of a number is whether it lies from 1 to the last
pub number_in : (last n : ℕ) → 1 ≤ n → n ≤ last → (eqb n 0 || ltb last n) ≡ false
number_in last n low high = or_from (eqb n 0) (ltb last n) (ne_eqb n 0 (λ e. omega arith)) (le-ltb last n high)

pub number_is_in : (last n : ℕ) → (eqb n 0 || ltb last n) ≡ false → (1 ≤ n) × (n ≤ last)
number_is_in last n e =
    let p = or_parts (eqb n 0) (ltb last n) e in
    let a = eqb-false n 0 p.0 in
    let b = ltb-false last n p.1 in
    (omega arith, omega arith)

-- a literal within the range is not outside
pub within_inside : (l : Literal) → 1 ≤ l.variable → l.variable ≤ highest → outside highest l ≡ false
within_inside l low high = number_in highest l.variable low high

-- rising variables are at most as many as there are
rising_length : (low top : ℕ) (c : Clause) → low ≤ top → Rising c → ((k : Literal) → k ∈ c → (low < k.variable) × (k.variable ≤ top))
    → length c + low ≤ top
rising_length low top [] h r w = omega arith
rising_length low top (l ∷ c) h r w =
    let a = w l (here refl) in
    let b = rising_length l.variable top c a.1 r.1 (λ k m. (r.0 k m, (w k (there m)).1)) in
    omega arith

pub clause_length : (top : ℕ) (c : Clause) → IsClause top c → length c ≤ top
clause_length top c is =
    let h = rising_length 0 top c (omega arith) is.rising (λ k m. let w = is.within k m in (omega arith, w.1)) in
    omega arith

-- so there are at most as many literals as variables
pub consistent_length : (ls : List Literal) → Consistent ls → length ls ≤ highest
consistent_length ls c =
    let h = clause_length highest (arranged ls) (arranged_clause highest ls c.0 c.1) in
    let e = arranged_length ls in
    omega arith

-- there is room on a trail for a literal that can join
pub trail_room : (trail : List Forced) (l : Literal) → Consistent (values_of trail) → outside highest l ≡ false
    → names l.variable (values_of trail) ≡ false → length trail < highest
trail_room trail l c f g =
    let h = consistent_length (values_of trail ++ l ∷ []) (consistent_push (values_of trail) l c f g) in
    let a = length_push (values_of trail) l in
    let b = length-map trail (λ (e : Forced). e.literal) in
    omega arith

-- the literals of a clause are consistent
pub clause_consistent : (c : Clause) → IsClause highest c → Consistent c
clause_consistent c is = (clause_beyond highest c is, clause_twice highest c is)
