-- From an engine that shows a history to the model, and one step back.
use Rattle.std.proofs.Common.{◌≡◌, ℕ, zero, suc, ◌-◌, ◌≤◌, Bool, true, false, eqb, List, ◌∷◌, length, get_or, set, None, sym, refl, ap, ◌∙◌, subst, inl, inr, arith, length-set, get_or-set_other, get_or-set_same}
use mathlib.Core.Bool.{false≢true}
use Rattle.cnf.specs.declared.literals.Literal.{Literal}
use Rattle.cnf.specs.declared.literals.Forced.{Forced as Entry}
use Rattle.cnf.specs.Clauses.{Clause, ◌∈◌}
use Rattle.drup.specs.History.{Step, learned, struck, table, next_number, text, is_struck, Live}
use Rattle.drup.specs.Laws.{StrikesLive}
use Rattle.drup.specs.Backward.{RightOver, ConflictOver, Conflict, NothingOver, Nothing, gathered}
use Rattle.std.proofs.lemmas.Bool.{eqb-false, ne_eqb, eqb-true, cases_Bool, le-ltb, or_parts}
use Rattle.drup.proofs.Transfer.{conflict_to, nothing_to, gathered_to}
use Rattle.drup.proofs.Living.{never_yet}
use Rattle.drup.proofs.Numbers.{text_older}
use Rattle.engine.specs.Meaning.{Meaning, On, mark_in, text_of, with_mark, no_off}
use Rattle.job.specs.CheckShowing.{Shows}

module _ (m : Meaning) (inputs : List Clause) (steps : List Step) (s : Shows m inputs steps) (assumed : List Literal) where
  same : (n : ℕ) → Live inputs steps n → text_of m n ≡ text (table inputs steps) n
  same n l = s.same_text n l.numbered l.entered

  pub shown_conflict : (answers : List Entry) (n : ℕ) → ConflictOver (On m) (text_of m) assumed answers n → Conflict inputs steps assumed answers n
  shown_conflict answers n c = conflict_to (On m) (Live inputs steps) (text_of m) (text (table inputs steps)) s.on_live same assumed answers n c

  pub shown_nothing : (answers : List Entry) → NothingOver (On m) (text_of m) assumed answers → Nothing inputs steps assumed answers
  shown_nothing answers c = nothing_to (On m) (Live inputs steps) (text_of m) (text (table inputs steps)) s.on_live same assumed s.live_on answers c

  -- the row is that of the model
  pub shown_gathered :
      (answers : List Entry) (row : List ℕ) → RightOver (On m) (text_of m) assumed answers → ((n : ℕ) → n ∈ row → Live inputs steps n)
      → gathered (text_of m) answers row ≡ gathered (text (table inputs steps)) answers row
  shown_gathered answers row r live =
      gathered_to (On m) (Live inputs steps) (text_of m) (text (table inputs steps)) s.on_live same assumed answers row r live

-- one mark is changed
set_here : (marks : List Bool) (n : ℕ) (b : Bool) → 1 ≤ n → n ≤ length marks → mark_in (set marks (n - 1) b) n ≡ b
set_here marks zero b low high = absurd (omega arith)
set_here marks (suc k) b low high =
    let e : suc k - 1 ≡ k = omega arith in
    ap (λ (j : ℕ). get_or (set marks j b) k false) e ∙ get_or-set_same marks k b false (omega arith)

set_there : (marks : List Bool) (n k : ℕ) (b : Bool) → 1 ≤ n → (k ≡ n → ⊥) → mark_in (set marks (n - 1) b) k ≡ mark_in marks k
set_there marks n zero b low d = refl
set_there marks zero (suc k) b low d = absurd (omega arith)
set_there marks (suc n) (suc k) b low d =
    let e : suc n - 1 ≡ n = omega arith in
    ap (λ (j : ℕ). get_or (set marks j b) k false) e ∙ get_or-set_other marks n k b false (λ p. d (ap suc p))

module _ (m : Meaning) (inputs : List Clause) (earlier : List Step) (n : ℕ) where
  -- a strike is taken back
  module _ (s : Shows m inputs (struck n ∷ earlier)) (live : Live inputs earlier n) where
    pub back_strike : Shows (with_mark n true m) inputs earlier
    back_strike =
        let a = live.numbered in
        let b = live.entered in
        let h = s.has_all in
        let v = s.level in
        record {
          level = length-set m.on (n - 1) true ∙ s.level;
          has_all = s.has_all;
          same_text = s.same_text;
          live_on = λ k l.
              elim (cases_Bool (eqb k n)) [
                | inl e ↦ ap (mark_in (set m.on (n - 1) true)) (eqb-true k n e) ∙ set_here m.on n true a (omega arith)
                | inr e ↦
                    set_there m.on n k true a (eqb-false k n e)
                    ∙ s.live_on k (record { numbered = l.numbered; entered = l.entered; unstruck = rw e l.unstruck })
              ];
          on_live = λ k o.
              elim (cases_Bool (eqb k n)) [
                | inl e ↦ subst (Live inputs earlier) (sym (eqb-true k n e)) live
                | inr e ↦
                    let l = s.on_live k (sym (set_there m.on n k true a (eqb-false k n e)) ∙ o) in
                    record { numbered = l.numbered; entered = l.entered; unstruck = (or_parts (eqb k n) (is_struck k earlier) l.unstruck).1 }
              ];
        }

  -- a lemma is taken back
  module _ (c : Clause) (s : Shows m inputs (learned c ∷ earlier)) (e : n ≡ next_number inputs earlier) where
    pub off_allowed : m.opened ≡ false → StrikesLive inputs earlier → no_off m n ≡ None
    off_allowed shut strikes =
        let h = s.has_all in
        let live : Live inputs (learned c ∷ earlier) n = record { numbered = omega arith; entered = omega arith; unstruck = never_yet inputs n earlier strikes (omega arith) } in
        rw (shut, ne_eqb n 0 (λ z. omega arith), le-ltb (length m.texts) n (omega arith), s.live_on n live) refl

    pub back_lemma : Shows (with_mark n false m) inputs earlier
    back_lemma =
        let h = s.has_all in
        let v = s.level in
        let low : 1 ≤ n = omega arith in
        record {
          level = length-set m.on (n - 1) false ∙ s.level;
          has_all = omega arith;
          same_text = λ k a b. s.same_text k a (omega arith) ∙ text_older c (table inputs earlier) k b;
          live_on = λ k l.
              let x = l.entered in
              set_there m.on n k false low (λ p. omega arith)
              ∙ s.live_on k (record { numbered = l.numbered; entered = omega arith; unstruck = l.unstruck });
          on_live = λ k o.
              elim (cases_Bool (eqb k n)) [
                | inl p ↦ absurd (false≢true (sym (ap (mark_in (set m.on (n - 1) false)) (eqb-true k n p) ∙ set_here m.on n false low (omega arith)) ∙ o))
                | inr p ↦
                    let d = eqb-false k n p in
                    let l = s.on_live k (sym (set_there m.on n k false low d) ∙ o) in
                    let x = l.entered in
                    record { numbered = l.numbered; entered = omega arith; unstruck = l.unstruck }
              ];
        }
