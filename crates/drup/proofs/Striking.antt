-- A struck finds the highest live clause with its literals.
use Rattle.std.proofs.Common.{◌≡◌, ℕ, suc, ◌≤◌, Bool, true, false, cond, not, ◌&&◌, eqb, List, [], ◌∷◌, length, sym, refl, ap, ◌∙◌, inl, inr, true≢false, arith}
use mathlib.Core.List.Memᴰ
use mathlib.Core.List.Memᴰ.{cases_cons as in-cons}
use mathlib.Core.List.Memᴰ.{head as here}
use mathlib.Core.List.Memᴰ.{tail as there}
use Rattle.std.proofs.lemmas.Bool.{and_parts, eqb-false, eqb-true, not-true}
use Rattle.cnf.specs.declared.literals.Literal.{Literal}
use Rattle.cnf.specs.Clauses.{Clause, Rising, SameLiterals, ◌∈◌}
use Rattle.cnf.specs.Arranging.{arranged, beyond, twice}
use Rattle.cnf.proofs.Arranging.{arranged_has, arranged_in, twice_rising}
use Rattle.std.specs.Cmp.Lexicographic.{pointwise_decides}
use Rattle.cnf.proofs.Complements.{same_literal_decides}
use Rattle.drup.specs.History.{Live, Step, ended, is_struck, live_copy, same_clause, text}
use Rattle.drup.specs.Forward.{Machine, clauses, fed, opened, rules, strike, target}
use Rattle.drup.specs.WellFormed.{WellFormed}
use Rattle.drup.specs.Laws.{HighestLive, StrikeLaw}
use Rattle.drup.proofs.Numbers.{at_most, text_in_table, text_newest, text_older}
use Rattle.drup.proofs.WellFormed.{fed_well, opened_well, taken, unbroken}

-- two rising clauses with the same literals are equal
heads : (k l : Literal) (c d : Clause) → Rising (k ∷ c) → Rising (l ∷ d) → k ∈ (l ∷ d) → l ∈ (k ∷ c) → k ≡ l
heads k l c d r s m n =
    elim (in-cons m) [
      | inl e ↦ e
      | inr x ↦ elim (in-cons n) [ inl e ↦ sym e | inr y ↦ absurd (let p = s.0 k x in let q = r.0 l y in omega arith) ]
    ]

-- what stands after the head stands after an equal head
rest :
    (k l : Literal) (c d : Clause) → Rising (k ∷ c) → k ≡ l → ((x : Literal) → x ∈ (k ∷ c) → x ∈ (l ∷ d)) → (x : Literal)
    → x ∈ c → x ∈ d
rest k l c d r e sub x m =
    elim (in-cons (sub x (there m))) [
      | inl p ↦ absurd (let h = r.0 x m in let q = ap (λ (y : Literal). y.variable) (p ∙ sym e) in omega arith)
      | inr n ↦ n
    ]

-- so their heads and their rests are equal
rising_unique : (c d : Clause) → Rising c → Rising d → SameLiterals c d → c ≡ d
rising_unique [] [] r s same = refl
rising_unique [] (l ∷ d) r s same = absurd (Memᴰ.not-nil (same.1 l (here refl)))
rising_unique (k ∷ c) [] r s same = absurd (Memᴰ.not-nil (same.0 k (here refl)))
rising_unique (k ∷ c) (l ∷ d) r s same =
    let e = heads k l c d r s (same.0 k (here refl)) (same.1 l (here refl)) in
    let t = rising_unique c d r.1 s.1 (rest k l c d r e same.0, rest l k d c s (sym e) same.1) in
    cc

-- so the literals of a call name one clause
named : (ls : List Literal) (c : Clause) → twice ls ≡ false → Rising c → SameLiterals ls c → arranged ls ≡ c
named ls c t r same =
    rising_unique (arranged ls) c (twice_rising ls t) r
    ((λ l m. same.0 l (arranged_in ls l m)), (λ l m. arranged_has ls l (same.1 l m)))

-- the test of two clauses is right
pub same_clause_decides : (c d : Clause) → (same_clause c d ≡ true → c ≡ d) × (c ≡ d → same_clause c d ≡ true)
same_clause_decides = pointwise_decides same_literal_decides

-- clause n of these is c and was not struck
record Copy (c : Clause) (cs : List Clause) (steps : List Step) (n : ℕ) : Type 0 where
  numbered : 1 ≤ n
  entered : n ≤ length cs
  unstruck : is_struck n steps ≡ false
  its_text : text cs n ≡ c

-- the search found the highest copy, or there is none
record Finds (c : Clause) (cs : List Clause) (steps : List Step) (n : ℕ) : Type 0 where
  highest : (k : ℕ) → Copy c cs steps k → k ≤ n
  found : (n ≡ 0 → ⊥) → Copy c cs steps n

-- a copy that is not the newest clause is one of the older
older : (c d : Clause) (cs : List Clause) (steps : List Step) (k : ℕ)
    → (same_clause c d && not (is_struck (suc (length cs)) steps)) ≡ false → Copy c (d ∷ cs) steps k → Copy c cs steps k
older c d cs steps k e copy =
    elim (at_most k (length cs) copy.entered) [
      | inl p ↦
          let t : d ≡ c = sym (text_newest d cs) ∙ ap (text (d ∷ cs)) (sym p) ∙ copy.its_text in
          let s : same_clause c d ≡ true = (same_clause_decides c d).1 (sym t) in
          let u : is_struck (suc (length cs)) steps ≡ false = rw p at copy.unstruck in
          absurd (true≢false (rw (s, u) at e))
      | inr h ↦
          record { numbered = copy.numbered; entered = h; unstruck = copy.unstruck; its_text = sym (text_older d cs k h) ∙ copy.its_text }
    ]

-- the search is right
finds : (c : Clause) (cs : List Clause) (steps : List Step) → Finds c cs steps (live_copy c cs steps)
finds c [] steps = record { highest = λ k copy. absurd (omega arith); found = λ d. absurd (d refl) }
finds c (d ∷ cs) steps = go (same_clause c d && not (is_struck (suc (length cs)) steps)) refl (finds c cs steps)
  where
    go :
        (b : Bool) → (same_clause c d && not (is_struck (suc (length cs)) steps)) ≡ b → Finds c cs steps (live_copy c cs steps)
        → Finds c (d ∷ cs) steps (cond b (suc (length cs)) (live_copy c cs steps))
    go true e below =
        let h = and_parts (same_clause c d) (not (is_struck (suc (length cs)) steps)) e in
        record {
          highest = λ k copy. copy.entered;
          found = λ n. record {
            numbered = omega arith;
            entered = omega arith;
            unstruck = not-true (is_struck (suc (length cs)) steps) h.1;
            its_text = text_newest d cs ∙ sym ((same_clause_decides c d).0 h.0);
          };
        }
    go false e below =
        record {
          highest = λ k copy. below.highest k (older c d cs steps k e copy);
          found = λ n.
              let r = below.found n in
              record {
                numbered = r.numbered;
                entered = (let h = r.entered in omega arith);
                unstruck = r.unstruck;
                its_text = text_older d cs (live_copy c cs steps) r.entered ∙ r.its_text;
              };
        }

module _ (m : Machine) (well : WellFormed m) (ls : List Literal) (once : twice ls ≡ false) where
  -- a live clause with these literals is a copy of the clause that they make
  live_copy_lem :
      (k : ℕ) → Live m.inputs m.steps k → SameLiterals ls (text (clauses m) k)
      → Copy (arranged ls) (clauses m) m.steps k
  live_copy_lem k live same =
      let rising = (well.all_clauses (text (clauses m) k) (text_in_table (clauses m) k live.numbered live.entered)).rising in
      record {
        numbered = live.numbered;
        entered = live.entered;
        unstruck = live.unstruck;
        its_text = sym (named ls (text (clauses m) k) once rising same);
      }

  -- the number that a struck takes, if it is not 0
  pub strikes :
      (target m ls ≡ 0 → ⊥)
      → HighestLive m ls (target m ls)
  strikes some =
      let f = finds (arranged ls) (clauses m) m.steps in
      let r = f.found some in
      record {
        live = record { numbered = r.numbered; entered = r.entered; unstruck = r.unstruck };
        same = rw r.its_text (arranged_has ls, arranged_in ls);
        highest = λ k live same. f.highest k (live_copy_lem k live same);
      }

  none_live : target m ls ≡ 0
      → (k : ℕ) → Live m.inputs m.steps k → SameLiterals ls (text (clauses m) k) → ⊥
  none_live e k live same =
      let h = (finds (arranged ls) (clauses m) m.steps).highest k (live_copy_lem k live same) in
      let n = live.numbered in
      omega arith

-- a rule of another number was not the one
other_rule : (broken : Bool) (n k next : ℕ) → (n ≡ k → ⊥) → cond broken n next ≡ k → (broken ≡ false) × (next ≡ k)
other_rule true n k next d e = absurd (d e)
other_rule false n k next d e = (refl, e)

-- the last rule is the one
eleven : (broken : Bool) → ◌≡◌ {A = ℕ} (cond broken 11 0) 11 → broken ≡ true
eleven true e = refl
eleven false e = absurd (omega arith)

-- the theorem
pub strike_law : StrikeLaw
strike_law variables clause_places literal_places calls ls =
    let m : Machine = fed (opened variables clause_places literal_places) calls in
    let well = fed_well (opened variables clause_places literal_places) calls (opened_well variables clause_places literal_places) in
    let n : ℕ = target m ls in (
      (λ e.
          let (b, (t, (on, (some, u)))) = unbroken (rules m (strike ls)) (omega arith) e in
          (n, strikes m well ls t (eqb-false n 0 some), taken m (strike ls) e)),
      (λ e.
          let (b, next) = other_rule (beyond m.variables ls) 4 11 (cond (twice ls) 5 (cond (ended m.steps) 9 (cond (eqb n 0) 11 0))) (omega arith) e in
          let (t, next') = other_rule (twice ls) 5 11 (cond (ended m.steps) 9 (cond (eqb n 0) 11 0)) (omega arith) next in
          let (on, next'') = other_rule (ended m.steps) 9 11 (cond (eqb n 0) 11 0) (omega arith) next' in
          none_live m well ls t (eqb-true n 0 (eleven (eqb n 0) next''))),
    )
