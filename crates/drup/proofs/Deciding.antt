-- Tests that decide whether answers are right, so that a worked trial is shown by computing it.
use Rattle.std.proofs.Common.{◌≡◌, ℕ, Bool, true, false, not, ◌&&◌, ◌||◌, leb, List, [], ◌∷◌, length, sym, ap, ◌∙◌, subst, inl, inr, true≢false}
use Rattle.std.proofs.lemmas.Bool.{and_parts, leb-true, not-true, or_cases, or_parts}
use Rattle.cnf.specs.declared.literals.Literal.{Literal}
use Rattle.cnf.specs.Literals.{complement, same_literal}
use Rattle.cnf.specs.Clauses.{Clause, ◌∈◌}
use Rattle.cnf.specs.Propagation.{Falsified, Forces}
use Rattle.std.specs.List.{list_all}
use Rattle.cnf.proofs.Passing.{each_passes}
use Rattle.cnf.proofs.Complements.{same_or_not, same_literal_self, same_literal_true}
use Rattle.cnf.specs.declared.literals.Forced.{Forced}
use Rattle.drup.specs.History.{Live, Step, is_struck, table, text}
use Rattle.drup.specs.Backward.{Conflict, ConflictOver, Nothing, NothingOver, RightOver, holds, trail}
use Rattle.drup.proofs.Standing.{holds_false, holds_true}

-- every literal of c is false
abbrev pub falsified : List Literal → Clause → Bool
falsified trail c = list_all (λ k. holds (complement k) trail) c

falsified_true : (trail : List Literal) (c : Clause) → falsified trail c ≡ true → Falsified trail c
falsified_true trail c e k m = holds_true (complement k) trail (each_passes (λ j. holds (complement j) trail) m e)

-- every literal of c but l is false
abbrev pub others_false : List Literal → Clause → Literal → Bool
others_false trail c l = list_all (λ k. same_literal k l || holds (complement k) trail) c

others_true :
    (trail : List Literal) (c : Clause) (l : Literal) → others_false trail c l ≡ true
    → (k : Literal) → k ∈ c → (k ≡ l → ⊥) → complement k ∈ trail
others_true trail c l e k m d =
    elim (or_cases (same_literal k l) (holds (complement k) trail) (each_passes (λ j. same_literal j l || holds (complement j) trail) m e)) [
      | inl s ↦ absurd (d (same_literal_true k l s))
      | inr h ↦ holds_true (complement k) trail h
    ]

-- c forces l
abbrev pub forces_it : List Literal → Clause → Literal → Bool
forces_it trail c l = holds l c && (not (holds l trail || holds (complement l) trail) && others_false trail c l)

forces_true : (trail : List Literal) (c : Clause) (l : Literal) → forces_it trail c l ≡ true → Forces trail c l
forces_true trail c l e =
    let a = and_parts (holds l c) (not (holds l trail || holds (complement l) trail) && others_false trail c l) e in
    let b = and_parts (not (holds l trail || holds (complement l) trail)) (others_false trail c l) a.1 in
    let n = or_parts (holds l trail) (holds (complement l) trail) (not-true (holds l trail || holds (complement l) trail) b.0) in
    record {
      stands = holds_true l c a.0;
      not_true = λ m. holds_false m n.0;
      not_false = λ m. holds_false m n.1;
      others = others_true trail c l b.1;
    }

-- c is not falsified, and forces nothing
pub record Idle (trail : List Literal) (c : Clause) : Type 0 where
  pub not_falsified : Falsified trail c → ⊥
  pub forces_none : (l : Literal) → Forces trail c l → ⊥

-- a literal that computing finds in a clause, with a complement that is not on the trail
open_in : (trail : List Literal) (c : Clause) (k : Literal)
    → (holds k c && not (holds (complement k) trail)) ≡ true → (k ∈ c) × (complement k ∈ trail → ⊥)
open_in trail c k e =
    let a = and_parts (holds k c) (not (holds (complement k) trail)) e in
    (holds_true k c a.0, λ m. holds_false m (not-true (holds (complement k) trail) a.1))

-- a clause with a true literal is idle
pub idle_by_true : (trail : List Literal) (c : Clause) (k : Literal)
    → (holds k c && not (holds (complement k) trail)) ≡ true → holds k trail ≡ true → Idle trail c
idle_by_true trail c k e t =
    let o = open_in trail c k e in
    record {
      not_falsified = λ f. o.1 (f k o.0);
      forces_none = λ l f. elim (same_or_not k l) [
        | inl p ↦ f.not_true (subst (λ (x : Literal). x ∈ trail) p (holds_true k trail t))
        | inr d ↦ o.1 (f.others k o.0 d)
      ];
    }

-- so is one with two literals that are not false
pub idle_by_two : (trail : List Literal) (c : Clause) (j k : Literal)
    → (holds j c && not (holds (complement j) trail)) ≡ true → (holds k c && not (holds (complement k) trail)) ≡ true
    → same_literal j k ≡ false → Idle trail c
idle_by_two trail c j k e g d =
    let o = open_in trail c j e in
    let p = open_in trail c k g in
    record {
      not_falsified = λ f. o.1 (f j o.0);
      forces_none = λ l f. elim (same_or_not j l) [
        | inl q ↦ p.1 (f.others k p.0 (λ r. true≢false (sym (same_literal_self l) ∙ ap (same_literal l) (sym r) ∙ ap (λ (x : Literal). same_literal x k) (sym q) ∙ d)))
        | inr n ↦ o.1 (f.others j o.0 n)
      ];
    }

-- over clauses by number, with a test of which are alive
module _ (alive : ℕ → Type 0) (lives : ℕ → Bool) (lives_true : (n : ℕ) → lives n ≡ true → alive n)
    (text : ℕ → Clause) (assumed : List Literal) where
  -- each answer is right under the trail before it
  abbrev pub all_right : List Forced → Bool
  all_right [] = true
  all_right (f ∷ earlier) =
      lives f.number && (forces_it (trail assumed earlier) (text f.number) f.literal && all_right earlier)

  right_true : (answers : List Forced) → all_right answers ≡ true → RightOver alive text assumed answers
  right_true [] e = tt
  right_true (f ∷ earlier) e =
      let c : Clause = text f.number in
      let a = and_parts (lives f.number) (forces_it (trail assumed earlier) c f.literal && all_right earlier) e in
      let b = and_parts (forces_it (trail assumed earlier) c f.literal) (all_right earlier) a.1 in
      (lives_true f.number a.0, forces_true (trail assumed earlier) c f.literal b.0, right_true earlier b.1)

  -- the answers end in a conflict at clause n
  abbrev pub conflict_at : List Forced → ℕ → Bool
  conflict_at answers n = all_right answers && (lives n && falsified (trail assumed answers) (text n))

  pub conflict_true : (answers : List Forced) (n : ℕ) → conflict_at answers n ≡ true → ConflictOver alive text assumed answers n
  conflict_true answers n e =
      let a = and_parts (all_right answers) (lives n && falsified (trail assumed answers) (text n)) e in
      let b = and_parts (lives n) (falsified (trail assumed answers) (text n)) a.1 in
      record {
        right = right_true answers a.0;
        live = lives_true n b.0;
        false_there = falsified_true (trail assumed answers) (text n) b.1;
      }

  -- the answers end in nothing
  pub nothing_true :
      (answers : List Forced) → all_right answers ≡ true → ((n : ℕ) → alive n → Idle (trail assumed answers) (text n))
      → NothingOver alive text assumed answers
  nothing_true answers e each =
      record {
        right = right_true answers e;
        none_false = λ n live. (each n live).not_falsified;
        none_forces = λ n l live. (each n live).forces_none l;
      }

-- clause n is live
module _ (inputs : List Clause) (steps : List Step) where
  abbrev pub lives : ℕ → Bool
  lives n = leb 1 n && (leb n (length (table inputs steps)) && not (is_struck n steps))

  pub lives_true : (n : ℕ) → lives n ≡ true → Live inputs steps n
  lives_true n e =
      let a = and_parts (leb 1 n) (leb n (length (table inputs steps)) && not (is_struck n steps)) e in
      let b = and_parts (leb n (length (table inputs steps))) (not (is_struck n steps)) a.1 in
      record {
        numbered = leb-true 1 n a.0;
        entered = leb-true n (length (table inputs steps)) b.0;
        unstruck = not-true (is_struck n steps) b.1;
      }

  module _ (assumed : List Literal) (answers : List Forced) where
    pub live_conflict :
        (n : ℕ) → conflict_at (Live inputs steps) lives lives_true (text (table inputs steps)) assumed answers n ≡ true
        → Conflict inputs steps assumed answers n
    live_conflict n e = conflict_true (Live inputs steps) lives lives_true (text (table inputs steps)) assumed answers n e

    pub live_nothing :
        all_right (Live inputs steps) lives lives_true (text (table inputs steps)) assumed answers ≡ true
        → ((n : ℕ) → Live inputs steps n → Idle (trail assumed answers) (text (table inputs steps) n))
        → Nothing inputs steps assumed answers
    live_nothing e each = nothing_true (Live inputs steps) lives lives_true (text (table inputs steps)) assumed answers e each
