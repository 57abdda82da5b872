-- What the looks at a text find.
use Rattle.std.proofs.Common.{◌≡◌, Bool, true, false, cond, not, ◌||◌, eqb, List, [], ◌∷◌, Some, None, Option, sym, refl, ap, ◌∙◌, inl, inr}
use mathlib.Core.List.Memᴰ
use mathlib.Core.List.Memᴰ.{head as here}
use mathlib.Core.List.Memᴰ.{tail as there}
use Rattle.std.proofs.lemmas.Bool.{and_from, or_cases, or_left, or_right, both_ways, eq-eqb}
use Rattle.cnf.specs.declared.literals.Literal.{Literal}
use Rattle.cnf.specs.Literals.{complement, same_literal}
use Rattle.cnf.specs.Clauses.{Clause, ◌∈◌}
use Rattle.cnf.specs.Arranging.{names}
use Rattle.cnf.specs.Propagation.{Falsified, Forces}
use Rattle.cnf.proofs.Arranging.{all_cons, names_false}
use Rattle.cnf.proofs.Complements.{same_literal_true, same_literal_self, same_or_not, found_true, found_has}
use Rattle.cnf.proofs.Passing.{each_passes, any_passes}
use Rattle.std.specs.List.{list_all}
use Rattle.cnf.proofs.Derivations.{forced_new}
use Rattle.engine.specs.Looks.{is_false, all_false_but, falsified, first_open, if_others_false, forced}

-- a test that each literal passes
all_pass : (test : Literal → Bool) (c : Clause) → ((k : Literal) → k ∈ c → test k ≡ true) → list_all test c ≡ true
all_pass test [] f = refl
all_pass test (l ∷ c) f = and_from (test l) (list_all test c) (f l (here refl)) (all_pass test c (λ k m. f k (there m)))

-- a named variable has a value
pub names_there : (l : Literal) (ls : List Literal) → l ∈ ls → names l.variable ls ≡ true
names_there l ls m = any_passes (λ (k : Literal). eqb l.variable k.variable) m (eq-eqb l.variable l.variable refl)

module _ (trail : List Literal) where
  -- the test finds just what is falsified
  pub falsified_true : (c : Clause) → falsified trail c ≡ true → Falsified trail c
  falsified_true c e k m = found_true (complement k) trail (each_passes (is_false trail) m e)

  pub falsified_there : (c : Clause) → Falsified trail c → falsified trail c ≡ true
  falsified_there c f = all_pass (is_false trail) c (λ k m. found_has (f k m))

  pub falsified_false : (c : Clause) → falsified trail c ≡ false → Falsified trail c → ⊥
  falsified_false c e f = both_ways (falsified trail c) e (falsified_there c f)

  others_true : (l : Literal) (c : Clause) → all_false_but trail (Some l) c ≡ true → (k : Literal) → k ∈ c → (k ≡ l → ⊥) → complement k ∈ trail
  others_true l c e k m d =
      elim (or_cases (same_literal k l) (is_false trail k) (each_passes (λ j. same_literal j l || is_false trail j) m e)) [
        | inl s ↦ absurd (d (same_literal_true k l s))
        | inr h ↦ found_true (complement k) trail h
      ]

  others_there : (l : Literal) (c : Clause) → ((k : Literal) → k ∈ c → (k ≡ l → ⊥) → complement k ∈ trail) → all_false_but trail (Some l) c ≡ true
  others_there l c f =
      all_pass (λ k. same_literal k l || is_false trail k) c
      (λ k m. elim (same_or_not k l) [
        | inl e ↦ or_left (same_literal k l) (is_false trail k) (ap (λ (x : Literal). same_literal x l) e ∙ same_literal_self l)
        | inr d ↦ or_right (same_literal k l) (is_false trail k) (found_has (f k m d))
      ])

  -- what the first literal without a value is, or that there is none
  abbrev FirstOpen : Clause → Option Literal → Type 0
  FirstOpen c (Some l) = (l ∈ c) × (names l.variable trail ≡ false)
  FirstOpen c None = (k : Literal) → k ∈ c → names k.variable trail ≡ true

  first_open_lem : (c : Clause) → FirstOpen c (first_open trail c)
  first_open_lem [] = λ k m. absurd (Memᴰ.not-nil m)
  first_open_lem (l ∷ c) = go (names l.variable trail) refl (first_open trail c) (first_open_lem c)
    where
      go : (b : Bool) → names l.variable trail ≡ b → (o : Option Literal) → FirstOpen c o → FirstOpen (l ∷ c) (cond (not b) (Some l) o)
      go true e (Some k) f = (there f.0, f.1)
      go true e None f = all_cons (λ k. names k.variable trail ≡ true) e f
      go false e o f = (here refl, e)

  -- what a forced literal is, or that there is none
  abbrev pub IsForced : Clause → Option Literal → Type 0
  IsForced c (Some l) = Forces trail c l
  IsForced c None = (l : Literal) → Forces trail c l → ⊥

  -- a literal without a value can only be the one that is forced
  only : (c : Clause) (k l : Literal) → k ∈ c → names k.variable trail ≡ false → Forces trail c l → k ≡ l
  only c k l m e f =
      elim (same_or_not k l) [
        | inl p ↦ p
        | inr d ↦ absurd (names_false k.variable trail e (complement k) (f.others k m d) refl)
      ]

  -- the test finds just what is forced
  pub forced_is : (c : Clause) → IsForced c (forced trail c)
  forced_is c = go (first_open trail c) (first_open_lem c)
    where
      by : (l : Literal) → (l ∈ c) × (names l.variable trail ≡ false) → (b : Bool) → all_false_but trail (Some l) c ≡ b → IsForced c (cond b (Some l) None)
      by l p true e = record {
        stands = p.0;
        not_true = λ m. names_false l.variable trail p.1 l m refl;
        not_false = λ m. names_false l.variable trail p.1 (complement l) m refl;
        others = others_true l c e;
      }
      by l p false e = λ k f.
          let same = only c l k p.0 p.1 f in
          both_ways (all_false_but trail (Some l) c) e (others_there l c (λ j m d. f.others j m (λ q. d (q ∙ sym same))))

      go : (o : Option Literal) → FirstOpen c o → IsForced c (if_others_false trail c o)
      go (Some l) p = by l p (all_false_but trail (Some l) c) refl
      go None p = λ l f. both_ways (names l.variable trail) (forced_new trail c l f) (p l f.stands)
