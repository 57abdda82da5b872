-- Gathering the row of a conflict.
use Rattle.std.proofs.Common.{◌≡◌, ℕ, zero, suc, ◌+◌, ◌<◌, ◌≤◌, Bool, true, false, cond, ◌||◌, List, [], ◌∷◌, ◌++◌, map, length, get_or, reverse, sym, refl, ap, ◌∙◌, subst, arith}
use mathlib.Core.List.Memᴰ.{head as here}
use mathlib.Core.List.Memᴰ.{tail as there}
use Rattle.std.proofs.lemmas.List.{length_push, reverse-append}
use Rattle.cnf.specs.declared.literals.Literal.{Literal}
use Rattle.cnf.specs.declared.literals.Forced.{Forced}
use Rattle.cnf.specs.Literals.{complement}
use Rattle.cnf.specs.Clauses.{Clause, ◌∈◌, Within}
use Rattle.drup.specs.Backward.{holds, gathered}
use Rattle.engine.specs.Meaning.{highest, text_in}
use Rattle.engine.specs.declared.trails.Trail.{Trail}
use Rattle.engine.specs.Trails.{entries_of}
use Rattle.engine.proofs.Keeping.{get_or_in}
use Rattle.trial.specs.Noted.{latest}
use Rattle.trial.specs.declared.seen.Seen.{Seen}
use Rattle.trial.specs.Numbered.{Numbered}
use Rattle.trial.specs.Seeing.{sees, SeesJust}
use Rattle.trial.specs.Gathering.{AllWithin, AllKnown}
use Rattle.trial.proofs.Noting.{latest_has}
use Rattle.trial.proofs.Seeing.{seen_more}

-- the clause with a number is one of the clauses
pub text_in_table : (clauses : List Clause) (n : ℕ) → Numbered clauses n → text_in clauses n ∈ clauses
text_in_table clauses zero h = absurd (omega arith)
text_in_table clauses (suc k) h = get_or_in clauses k [] (omega arith)

-- so its variables are in range
pub clause_within : {clauses : List Clause} {n : ℕ} {c : Clause} → c ≡ text_in clauses n → AllWithin clauses → Numbered clauses n → Within highest c
clause_within {clauses} {n} e within h = subst (Within highest) (sym e) (within (text_in clauses n) (text_in_table clauses n h))

-- an answer at a place is known
pub known_at : (clauses : List Clause) (a : Trail) → AllKnown clauses (latest a) → (k : ℕ) (d : Forced) → k < length (entries_of a)
    → (f : Forced) → f ≡ get_or (entries_of a) k d → Numbered clauses f.number × (f.literal.variable ≤ highest)
known_at clauses a known k d h f e = known f (subst (λ (x : Forced). x ∈ latest a) (sym e) (latest_has a k d h))

-- on the way back, with these answers left, oldest first, and these numbers found, from the last one to the first: the
-- answers are known, just the row's clauses were seen, the row comes to the goal, and there is room for it
pub record Gathers (clauses : List Clause) (goal : List ℕ) (left : List Forced) (s : Seen) (found : List ℕ) : Type 0 where
  pub known : AllKnown clauses (reverse left)
  pub seen : SeesJust s (map (text_in clauses) (reverse found))
  pub comes_to : gathered (text_in clauses) (reverse left) (reverse found) ≡ goal
  pub room : length found + length left ≤ highest + 1

-- the conflict alone
pub gather_first : {clauses : List Clause} {answers : List Forced} {conflict : ℕ} (s : Seen) {s' : Seen} {found : List ℕ} {c : Clause}
    → AllKnown clauses (reverse answers) → length answers ≤ highest → ((l : Literal) → sees s l ≡ false)
    → found ≡ conflict ∷ [] → c ≡ text_in clauses conflict → ((l : Literal) → sees s' l ≡ (holds l c || sees s l))
    → Gathers clauses (gathered (text_in clauses) (reverse answers) (conflict ∷ [])) answers s' found
gather_first {clauses} {answers} {conflict} s {s'} {found} {c} known few none one text more =
    let long = ap length one in
    let alone : reverse found ≡ conflict ∷ [] = ap reverse one in
    record {
      known = known;
      seen = subst (λ (row : List ℕ). SeesJust s' (map (text_in clauses) row)) (sym alone)
          (seen_more c (text_in clauses conflict) [] s s' text none more);
      comes_to = ap (gathered (text_in clauses) (reverse answers)) alone;
      room = omega arith;
    }

-- one answer back
module _ {clauses : List Clause} {goal : List ℕ} {left : List Forced} {s : Seen} {found : List ℕ} (inv : Gathers clauses goal left s found)
    (f : Forced) (earlier : List Forced) (e : left ≡ earlier ++ f ∷ []) where
  back : reverse left ≡ f ∷ reverse earlier
  back = ap reverse e ∙ reverse-append earlier (f ∷ [])

  fewer : length left ≡ length earlier + 1
  fewer = ap length e ∙ length_push earlier f

  -- it has a clause, and its literal is in range
  pub latest_known : Numbered clauses f.number × (f.literal.variable ≤ highest)
  latest_known = inv.known f (subst (λ (t : List Forced). f ∈ t) (sym back) (here refl))

  earlier_known : AllKnown clauses (reverse earlier)
  earlier_known k m = inv.known k (subst (λ (t : List Forced). k ∈ t) (sym back) (there m))

  chosen : (b : Bool) → sees s (complement f.literal) ≡ b
      → gathered (text_in clauses) (reverse earlier) (cond b (f.number ∷ reverse found) (reverse found)) ≡ goal
  chosen b p =
      ap (λ (x : Bool). gathered (text_in clauses) (reverse earlier) (cond x (f.number ∷ reverse found) (reverse found))) (sym p ∙ inv.seen (complement f.literal))
      ∙ ap (λ (t : List Forced). gathered (text_in clauses) t (reverse found)) (sym back)
      ∙ inv.comes_to

  -- its clause is left out
  pub gather_past : sees s (complement f.literal) ≡ false → Gathers clauses goal earlier s found
  gather_past p =
      let room = inv.room in
      let n = fewer in
      record { known = earlier_known; seen = inv.seen; comes_to = chosen false p; room = omega arith }

  -- or put ahead
  pub gather_in : sees s (complement f.literal) ≡ true → {c : Clause} {s' : Seen} {found' : List ℕ} → found' ≡ found ++ f.number ∷ []
      → c ≡ text_in clauses f.number → ((j : Literal) → sees s' j ≡ (holds j c || sees s j)) → Gathers clauses goal earlier s' found'
  gather_in p {c} {s'} {found'} one text more =
      let room = inv.room in
      let n = fewer in
      let longer = ap length one ∙ length_push found f.number in
      let ahead : reverse found' ≡ f.number ∷ reverse found = ap reverse one ∙ reverse-append found (f.number ∷ []) in
      record {
        known = earlier_known;
        seen = subst (λ (row : List ℕ). SeesJust s' (map (text_in clauses) row)) (sym ahead)
            (seen_more c (text_in clauses f.number) (map (text_in clauses) (reverse found)) s s' text inv.seen more);
        comes_to = ap (gathered (text_in clauses) (reverse earlier)) ahead ∙ chosen true p;
        room = omega arith;
      }
