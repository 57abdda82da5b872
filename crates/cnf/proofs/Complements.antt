-- Literals: what tells them apart, and the truth of a literal and its complement.
use Rattle.std.proofs.Common.{◌≡◌, ℕ, Bool, true, false, not, eqb, ◌⊎◌, List, [], ◌∷◌, sym, refl, ap, ◌∙◌, subst, inl, inr, true≢false}
use mathlib.Core.Bool.{beq, false≢true}
use mathlib.Core.List.Memᴰ
use mathlib.Core.List.Memᴰ.{head as here}
use mathlib.Core.List.Memᴰ.{tail as there}
use Rattle.std.specs.Cmp.{booleans_Decides}
use Rattle.std.specs.List.{list_any}
use Rattle.std.proofs.lemmas.Bool.{and_parts, cases_Bool, eqb-true, eq-eqb}
use Rattle.cnf.specs.declared.literals.Literal.{Literal}
use Rattle.cnf.specs.Literals.{complement, same_literal}
use Rattle.cnf.specs.Clauses.{Clause, ◌∈◌, Assignment, IsTrue, Satisfies}
use Rattle.cnf.specs.Arranging.{names}
use Rattle.cnf.proofs.Arranging.{all_cons}
use Rattle.cnf.proofs.Passing.{any_passes, some_passes}

-- a literal is its variable and its sign
pub literal_path : {k l : Literal} → k.variable ≡ l.variable → k.negated ≡ l.negated → k ≡ l
literal_path p q = λ i. record { variable = p i; negated = q i }

-- the test of two literals is right
pub same_literal_true : (k l : Literal) → same_literal k l ≡ true → k ≡ l
same_literal_true k l e =
    let h = and_parts (eqb k.variable l.variable) (beq k.negated l.negated) e in
    literal_path (eqb-true k.variable l.variable h.0) ((booleans_Decides k.negated l.negated).0 h.1)

pub same_literal_self : (l : Literal) → same_literal l l ≡ true
same_literal_self l = rw (eq-eqb l.variable l.variable refl) ((booleans_Decides l.negated l.negated).1 refl)

pub same_literal_decides : (k l : Literal) → (same_literal k l ≡ true → k ≡ l) × (k ≡ l → same_literal k l ≡ true)
same_literal_decides k l = (same_literal_true k l, λ e. ap (same_literal k) (sym e) ∙ same_literal_self k)

-- the complement of the complement
pub complement_twice : (l : Literal) → complement (complement l) ≡ l
complement_twice l = literal_path refl (again l.negated)
  where
    again : (b : Bool) → not (not b) ≡ b
    again true = refl
    again false = refl

-- equal literals are told apart from others
pub same_or_not : (k l : Literal) → (k ≡ l) ⊎ (k ≡ l → ⊥)
same_or_not k l =
    elim (cases_Bool (same_literal k l)) [
      | inl e ↦ inl (same_literal_true k l e)
      | inr e ↦ inr (λ p. true≢false (sym (same_literal_self l) ∙ ap (λ (x : Literal). same_literal x l) (sym p) ∙ e))
    ]

-- the test of a list for a literal is right
pub found_true : (l : Literal) (ls : List Literal) → list_any (same_literal l) ls ≡ true → l ∈ ls
found_true l ls e =
    let r = some_passes (same_literal l) ls e in
    subst (λ (k : Literal). k ∈ ls) (sym (same_literal_true l r.0 r.2)) r.1

pub found_has : {l : Literal} {ls : List Literal} → l ∈ ls → list_any (same_literal l) ls ≡ true
found_has {l} m = any_passes (same_literal l) m (same_literal_self l)

-- a literal stands in a list or does not
pub stands_or_not : (l : Literal) (ls : List Literal) → (l ∈ ls) ⊎ (l ∈ ls → ⊥)
stands_or_not l ls =
    elim (cases_Bool (list_any (same_literal l) ls)) [
      | inl e ↦ inl (found_true l ls e)
      | inr e ↦ inr (λ m. true≢false (sym (found_has m) ∙ e))
    ]

-- a variable that is named has a literal
pub names_true : (x : ℕ) (ls : List Literal) → names x ls ≡ true → (k : Literal) × (k ∈ ls) × (k.variable ≡ x)
names_true x ls e = let r = some_passes (λ l. eqb x l.variable) ls e in (r.0, r.1, sym (eqb-true x r.0.variable r.2))

-- two literals of one variable are equal or complements
pub same_variable : (k l : Literal) → k.variable ≡ l.variable → (k ≡ l) ⊎ (k ≡ complement l)
same_variable k l e = pick k.negated l.negated refl refl
  where
    pick : (a b : Bool) → k.negated ≡ a → l.negated ≡ b → (k ≡ l) ⊎ (k ≡ complement l)
    pick true true p q = inl (literal_path e (p ∙ sym q))
    pick false false p q = inl (literal_path e (p ∙ sym q))
    pick true false p q = inr (literal_path e (p ∙ ap not (sym q)))
    pick false true p q = inr (literal_path e (p ∙ ap not (sym q)))

-- no assignment makes a literal and its complement true
pub not_both_true : (v : Assignment) (l : Literal) → IsTrue v l → IsTrue v (complement l) → ⊥
not_both_true v l p q = apart l.negated (sym p ∙ q)
  where
    apart : (b : Bool) → not b ≡ not (not b) → ⊥
    apart true e = false≢true e
    apart false e = true≢false e

-- every assignment makes one of the two true
pub one_true : (v : Assignment) (l : Literal) → IsTrue v l ⊎ IsTrue v (complement l)
one_true v l = pick (v l.variable) l.negated
  where
    pick : (a b : Bool) → (a ≡ not b) ⊎ (a ≡ not (not b))
    pick true true = inr refl
    pick true false = inl refl
    pick false true = inl refl
    pick false false = inr refl

-- every literal of a clause is of the one kind, or some literal is of the other
pub each_or :
    (P Q : Literal → Type 0) → ((k : Literal) → P k ⊎ Q k)
    → (c : Clause) → ((k : Literal) → k ∈ c → P k) ⊎ ((k : Literal) × (k ∈ c) × Q k)
each_or P Q decide [] = inl (λ k m. absurd (Memᴰ.not-nil m))
each_or P Q decide (l ∷ c) =
    elim (decide l) [
      | inr q ↦ inr (l, here refl, q)
      | inl p ↦ elim (each_or P Q decide c) [ inl ps ↦ inl (all_cons P p ps) | inr r ↦ inr (r.0, there r.1, r.2) ]
    ]

-- an assignment satisfies a clause or makes the complements of its literals true
pub satisfied_or_not : (v : Assignment) (c : Clause) → Satisfies v c ⊎ ((l : Literal) → l ∈ c → IsTrue v (complement l))
satisfied_or_not v c =
    elim (each_or (λ l. IsTrue v (complement l)) (IsTrue v) (λ l. elim (one_true v l) [ inl t ↦ inr t | inr f ↦ inl f ]) c) [
      | inl f ↦ inr f
      | inr s ↦ inl s
    ]
