-- What a trial of a lemma says of the lemma: whether it passes.
use Rattle.std.proofs.Common.{◌≡◌, ℕ, ◌+◌, ◌≤◌, false, List, [], ◌∷◌, map, length, Some, None, Ok, Option, is_some, sym, refl, ◌∙◌, subst}
use Rattle.std.proofs.lemmas.Bool.{cond-false}
use Rattle.cnf.specs.declared.literals.Literal.{Literal}
use Rattle.cnf.specs.declared.literals.Forced.{Forced}
use Rattle.cnf.specs.Literals.{complement}
use Rattle.cnf.specs.Clauses.{Clause}
use Rattle.cnf.specs.Arranging.{arrangement, beyond, twice}
use Rattle.cnf.specs.Propagation.{Derivation, Falsified, Forces}
use Rattle.cnf.proofs.Derivations.{derives_before, saturated}
use Rattle.drup.specs.Backward.{RightOver, trail, asked}
use Rattle.drup.proofs.Trials.{assumed_stays}
use Rattle.engine.specs.Meaning.{Meaning, highest, On, text_of, counted_by, WellFormed}
use Rattle.engine.proofs.Refusing.{arranges}
use Rattle.trial.specs.Trying.{EndsRight}
use Rattle.trial.specs.Trials.{OnText, Decides, Tried, Tries}

-- a derivation under the whole trail gives one under what was assumed
pub derives : (m : Meaning) (assumed : List Literal) (answers : List Forced) (row : List Clause) → RightOver (On m) (text_of m) assumed answers
    → Derivation (OnText m) (trail assumed answers) row → (all : List Clause) × Derivation (OnText m) assumed all
derives m assumed [] row right d = (row, d)
derives m assumed (f ∷ earlier) row right d =
    derives m assumed earlier (text_of m f.number ∷ row) right.2
    (derives_before (OnText m) (trail assumed earlier) (text_of m f.number) f.literal row (f.number, right.0, refl) right.1 d)

-- how a trial ends tells whether a conflict is derived from what was assumed
pub decides : (m : Meaning) (assumed : List Literal) (answers : List Forced) (end : Option ℕ) → EndsRight m assumed answers end
    → Decides (is_some end) ((row : List Clause) × Derivation (OnText m) assumed row)
decides m assumed answers (Some n) r = derives m assumed answers (text_of m n ∷ []) r.right ((n, r.live, refl), r.false_there)
decides m assumed answers None r = λ derived.
    let clash =
    saturated {s = OnText m} (trail assumed answers) assumed derived.0
    (λ d l s f. r.none_forces s.0 l s.1 (subst (λ (x : Clause). Forces (trail assumed answers) x l) (sym s.2) f))
    (assumed_stays assumed answers) derived.1 in
    r.none_false clash.1.0 clash.1.1 (subst (Falsified (trail assumed answers)) (sym clash.1.2) clash.2)

-- a trial of the clause that literals make is one of the literals
pub tried : (m : Meaning) → WellFormed m → m.opened ≡ false → (ls : List Literal) (c : Clause) → arrangement highest ls ≡ Ok c
    → (answers : List Forced) (end : Option ℕ) (after : Meaning) → EndsRight m (map complement c) answers end → after ≡ counted_by (asked answers) m
    → length c + length answers ≤ highest → Tries m ls (Ok (is_some end)) after
tried m well o ls c made answers end after right a few =
    let e = well.at_rest o in
    let (inside, once, same) = arranges ls c made in (
      cond-false m.opened _ _ o ∙ cond-false (beyond highest ls) _ _ inside ∙ cond-false (twice ls) _ _ once,
      subst (λ (x : Clause). Tried m x (is_some end) after) (sym same) (
        decides m (map complement c) answers end right,
        (
          length answers,
          few,
          a ∙ (λ i. record { texts = m.texts; on = m.on; trail = e i; opened = o i; answers = (counted_by (asked answers) m).answers; text_limit = m.text_limit; literal_limit = m.literal_limit }),
        ),
      ),
    )
