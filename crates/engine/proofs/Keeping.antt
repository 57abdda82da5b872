-- What an engine stands for stays well formed by every call.
use Rattle.std.proofs.Common.{◌≡◌, ℕ, zero, suc, ◌+◌, ◌-◌, ◌<◌, ◌≤◌, Bool, true, false, cond, not, ltb, leb, List, [], ◌∷◌, ◌++◌, length, get_or, Some, None, Ok, Err, Option, Result, sym, refl, ◌∙◌, subst, inl, inr, ⊎_elim, arith}
use mathlib.Core.Bool.{false≢true}
use mathlib.Core.List.Memᴰ
use mathlib.Core.List.Memᴰ.{head as here}
use mathlib.Core.List.Memᴰ.{tail as there}
use native.Mathlib.Nat.{min-le_right}
use Rattle.std.proofs.lemmas.Bool.{or_parts, leb-false, ltb-false, not-false, cases_lt, both_ways}
use Rattle.std.proofs.lemmas.List.{length_push, length-set, map_push, get_or_past}
use Rattle.std.proofs.lemmas.Option.{none-some}
use Rattle.cnf.specs.declared.literals.Literal.{Literal}
use Rattle.cnf.specs.Clauses.{Clause, ◌∈◌, IsClause, literals}
use Rattle.cnf.specs.Arranging.{outside, names, beyond, twice, arranged}
use Rattle.cnf.specs.Propagation.{Forces}
use Rattle.cnf.proofs.Arranging.{arranged_clause, arranged_length, in_push}
use Rattle.cnf.proofs.Derivations.{forced_new}
use Rattle.cnf.specs.declared.literals.Forced.{Forced}
use Rattle.engine.specs.declared.answers.Answer.{Answer}
use Rattle.engine.specs.declared.answers.Answer.TheVariants.{Conflict, Forced as ForcedBy, Nothing}
use Rattle.engine.specs.declared.faults.EngineFault.{EngineFault}
use Rattle.engine.specs.Meaning.{Meaning, highest, most, text_of, On, values, entry, empty, cleared, with_text, with_mark, with_opened, joined_by, counted, no_room, shut, no_trial, no_put, no_on, no_off, no_assume, Says, answered, Does, Clears, Puts, TurnsOn, TurnsOff, Prefers, Opens, Assumes, Next, Ends, Consistent, WellFormed}
use Rattle.engine.proofs.Consistent.{consistent_push, within_inside}

-- a rule list that is not broken
pub unbroken : (b : Bool) (fault : EngineFault) (rest : Option EngineFault) → cond b (Some fault) rest ≡ None → (b ≡ false) × (rest ≡ None)
unbroken true fault rest e = absurd (none-some fault (sym e))
unbroken false fault rest e = (refl, e)

-- what holds before a call, and after one that is not refused, holds after it
pub does_keeps : {T : Type 0} (P : Meaning → Type 0) (refusal : Option EngineFault) (before after : Meaning) (r : Result T EngineFault) (m : Meaning)
    → P before → (refusal ≡ None → P after) → Does refusal before after r m → P m
does_keeps P refusal before after (Ok x) m p q d = subst P (sym d.1) (q d.0)
does_keeps P refusal before after (Err e) m p q d = subst P (sym d.1) p

-- an element that is there is one of the list
pub get_or_in : {A : Type 0} (xs : List A) (k : ℕ) (d : A) → k < length xs → get_or xs k d ∈ xs
get_or_in [] k d h = absurd (omega arith)
get_or_in (x ∷ xs) zero d h = here refl
get_or_in (x ∷ xs) (suc k) d h = there (get_or_in xs k d (omega arith))

pub literals_push : (cs : List Clause) (c : Clause) → literals (cs ++ c ∷ []) ≡ literals cs + length c
literals_push [] c = omega arith
literals_push (b ∷ cs) c = let h = literals_push cs c in omega arith

-- a mark that is on has its place among the marks
pub mark_within : (marks : List Bool) (k : ℕ) → get_or marks k false ≡ true → k < length marks
mark_within marks k e = ⊎_elim (λ h. h) (λ h. absurd (both_ways (get_or marks k false) (get_or_past marks k false h) e)) (cases_lt k (length marks))

pub empty_well : (t l : ℕ) → t ≤ 4096 → l ≤ 32768 → WellFormed (empty t l)
empty_well t l a b = record {
  clauses = λ c m. absurd (Memᴰ.not-nil m);
  marks = refl;
  few_texts = omega arith;
  few_literals = omega arith;
  consistent = (refl, refl);
  at_rest = λ e. refl;
  countable = omega arith;
  small = (a, b);
}

module _ (m : Meaning) (well : WellFormed m) where
  -- a number that is on has a text
  pub on_within : (n : ℕ) → On m n → (1 ≤ n) × (n ≤ length m.texts)
  on_within zero o = absurd (false≢true o)
  on_within (suc k) o = let h = mark_within m.on k o in let e = well.marks in (omega arith, omega arith)

  pub on_clause : (n : ℕ) → On m n → IsClause highest (text_of m n)
  on_clause zero o = absurd (false≢true o)
  on_clause (suc k) o =
      let h = mark_within m.on k o in
      let e = well.marks in
      well.clauses (get_or m.texts k []) (get_or_in m.texts k [] (omega arith))

  -- a forced literal is in range, and its variable has no value
  pub forced_inside : (n : ℕ) (l : Literal) → On m n → Forces (values m) (text_of m n) l → outside highest l ≡ false
  forced_inside n l o f = let w = (on_clause n o).within l f.stands in within_inside l w.0 w.1

  cleared_well : WellFormed (cleared m)
  cleared_well = empty_well m.text_limit m.literal_limit well.small.0 well.small.1

  text_well : (ls : List Literal) → no_put m ls ≡ None → WellFormed (with_text (arranged ls) m)
  text_well ls e =
      let a = unbroken m.opened _ _ e in
      let b = unbroken (beyond highest ls) _ _ a.1 in
      let c = unbroken (twice ls) _ _ b.1 in
      let d = unbroken (no_room m (length ls)) _ _ c.1 in
      let r = or_parts (leb m.text_limit (length m.texts)) (ltb m.literal_limit (literals m.texts + length ls)) d.0 in
      let p = leb-false m.text_limit (length m.texts) r.0 in
      let q = ltb-false m.literal_limit (literals m.texts + length ls) r.1 in
      let long = length_push m.texts (arranged ls) in
      let marks = length_push m.on false in
      let many = literals_push m.texts (arranged ls) in
      let same = arranged_length ls in
      let even = well.marks in
      record {
        clauses = λ k i. elim (in_push m.texts (arranged ls) k i) [
          | inl j ↦ well.clauses k j
          | inr j ↦ subst (IsClause highest) (sym j) (arranged_clause highest ls b.0 c.0)
        ];
        marks = omega arith;
        few_texts = omega arith;
        few_literals = omega arith;
        consistent = well.consistent;
        at_rest = well.at_rest;
        countable = well.countable;
        small = well.small;
      }

  mark_well : (n : ℕ) (b : Bool) → WellFormed (with_mark n b m)
  mark_well n b = record {
    clauses = well.clauses;
    marks = length-set m.on (n - 1) b ∙ well.marks;
    few_texts = well.few_texts;
    few_literals = well.few_literals;
    consistent = well.consistent;
    at_rest = well.at_rest;
    countable = well.countable;
    small = well.small;
  }

  opened_well : (b : Bool) → WellFormed (with_opened b m)
  opened_well b = record {
    clauses = well.clauses;
    marks = well.marks;
    few_texts = well.few_texts;
    few_literals = well.few_literals;
    consistent = (refl, refl);
    at_rest = λ e. refl;
    countable = well.countable;
    small = well.small;
  }

  joined_well : (l : Literal) (n : ℕ) → m.opened ≡ true → outside highest l ≡ false → names l.variable (values m) ≡ false → WellFormed (joined_by l n m)
  joined_well l n o f g = record {
    clauses = well.clauses;
    marks = well.marks;
    few_texts = well.few_texts;
    few_literals = well.few_literals;
    consistent = subst Consistent (sym (map_push (λ (e : Forced). e.literal) m.trail (entry l n))) (consistent_push (values m) l well.consistent f g);
    at_rest = λ e. absurd (both_ways m.opened e o);
    countable = well.countable;
    small = well.small;
  }

  counted_well : WellFormed (counted m)
  counted_well = record {
    clauses = well.clauses;
    marks = well.marks;
    few_texts = well.few_texts;
    few_literals = well.few_literals;
    consistent = well.consistent;
    at_rest = well.at_rest;
    countable = min-le_right (m.answers + 1) most;
    small = well.small;
  }

  pub clears_well : (r : Result (Unit {0}) EngineFault) (n : Meaning) → Clears m r n → WellFormed n
  clears_well r n = does_keeps WellFormed (shut m) m (cleared m) r n well (λ e. cleared_well)

  pub puts_well : (ls : List Literal) (r : Result (Unit {0}) EngineFault) (n : Meaning) → Puts m ls r n → WellFormed n
  puts_well ls r n = does_keeps WellFormed (no_put m ls) m (with_text (arranged ls) m) r n well (text_well ls)

  pub turns_on_well : (k : ℕ) (r : Result (Unit {0}) EngineFault) (n : Meaning) → TurnsOn m k r n → WellFormed n
  turns_on_well k r n = does_keeps WellFormed (no_on m k) m (with_mark k true m) r n well (λ e. mark_well k true)

  pub turns_off_well : (k : ℕ) (r : Result (Unit {0}) EngineFault) (n : Meaning) → TurnsOff m k r n → WellFormed n
  turns_off_well k r n = does_keeps WellFormed (no_off m k) m (with_mark k false m) r n well (λ e. mark_well k false)

  pub prefers_well : (k : ℕ) (r : Result (Unit {0}) EngineFault) (n : Meaning) → Prefers m k r n → WellFormed n
  prefers_well k r n = does_keeps WellFormed (no_off m k) m m r n well (λ e. well)

  pub opens_well : {T : Type 0} (r : Result T EngineFault) (n : Meaning) → Opens m r n → WellFormed n
  opens_well r n = does_keeps WellFormed (shut m) m (with_opened true m) r n well (λ e. opened_well true)

  pub assumes_well : (l : Literal) (r : Result (Unit {0}) EngineFault) (n : Meaning) → Assumes m l r n → WellFormed n
  assumes_well l r n = does_keeps WellFormed (no_assume m l) m (joined_by l 0 m) r n well (λ e.
      let a = unbroken (not m.opened) _ _ e in
      let b = unbroken (outside highest l) _ _ a.1 in
      let c = unbroken (names l.variable (values m)) _ _ b.1 in
      joined_well l 0 (not-false m.opened a.0) b.0 c.0)

  pub ends_well : (r : Result (Unit {0}) EngineFault) (n : Meaning) → Ends m r n → WellFormed n
  ends_well r n = does_keeps WellFormed (no_trial m) m (with_opened false m) r n well (λ e. opened_well false)

-- what a call finds that needs no trial open, and one that needs one
pub closed_trial : (m : Meaning) → shut m ≡ None → m.opened ≡ false
closed_trial m e = (unbroken m.opened _ _ e).0

pub open_trial : (m : Meaning) → no_trial m ≡ None → m.opened ≡ true
open_trial m e = not-false m.opened (unbroken (not m.opened) _ _ e).0

pub answered_well : (m : Meaning) → WellFormed m → m.opened ≡ true → (a : Answer) → Says m a → WellFormed (answered m a)
answered_well m well o (Conflict n) s = counted_well m well
answered_well m well o (ForcedBy f) s =
    let l = f.literal in
    let n = f.number in
    counted_well (joined_by l n m) (joined_well m well l n o (forced_inside m well n l s.0 s.1) (forced_new (values m) (text_of m n) l s.1))
answered_well m well o Nothing s = counted_well m well

pub next_well : (m : Meaning) → WellFormed m → (r : Result Answer EngineFault) (n : Meaning) → Next m r n → WellFormed n
next_well m well (Ok a) n d = subst WellFormed (sym d.2) (answered_well m well (open_trial m d.0) a d.1)
next_well m well (Err e) n d = subst WellFormed (sym d.1) well
