-- Propagation: what a clause does under a trail is decided; derivations are sound, carry over to other sets, and can be
-- narrowed.
use Rattle.std.proofs.Common.{◌≡◌, false, ◌⊎◌, List, [], ◌∷◌, map, sym, refl, ◌∙◌, subst, inl, inr}
use mathlib.Core.List.Memᴰ
use mathlib.Core.List.Memᴰ.{cases_cons as in-cons}
use mathlib.Core.List.Memᴰ.{head as here}
use mathlib.Core.List.Memᴰ.{tail as there}
use Rattle.std.proofs.lemmas.Bool.{cases_Bool}
use Rattle.cnf.specs.declared.literals.Literal.{Literal}
use Rattle.cnf.specs.Literals.{complement}
use Rattle.cnf.specs.Clauses.{Clause, ◌∈◌, Assignment, IsTrue, Satisfies}
use Rattle.cnf.specs.Arranging.{names}
use Rattle.cnf.specs.Propagation.{Falsified, Forces, Derivation, StandsIn, Lean, Passes}
use Rattle.cnf.proofs.Arranging.{all_cons}
use Rattle.cnf.proofs.Complements.{same_or_not, stands_or_not, names_true, same_variable, not_both_true, one_true, each_or, satisfied_or_not}

-- a clause is falsified or not
pub falsified_or_not : (trail : List Literal) (c : Clause) → Falsified trail c ⊎ (Falsified trail c → ⊥)
falsified_or_not trail c =
    elim (each_or (λ k. complement k ∈ trail) (λ k. complement k ∈ trail → ⊥) (λ k. stands_or_not (complement k) trail) c) [
      | inl f ↦ inl f
      | inr r ↦ inr (λ f. r.2 (f r.0 r.1))
    ]

-- it forces a literal or none
pub forces_or_not : (trail : List Literal) (c : Clause) → ((l : Literal) × Forces trail c l) ⊎ ((l : Literal) → Forces trail c l → ⊥)
forces_or_not trail c =
    elim (each_or (λ k. complement k ∈ trail) (λ k. complement k ∈ trail → ⊥) (λ k. stands_or_not (complement k) trail) c) [
      | inl f ↦ inr (λ l g. g.not_false (f l g.stands))
      | inr r ↦ by r.0 r.1 r.2 (stands_or_not r.0 trail)
    ]
  where
    -- only a literal k that is not false can be forced
    only : (k : Literal) → k ∈ c → (complement k ∈ trail → ⊥) → (l : Literal) → Forces trail c l → k ≡ l
    only k m unfalse l f = elim (same_or_not k l) [ inl p ↦ p | inr d ↦ absurd (unfalse (f.others k m d)) ]

    -- another literal is k or false, or neither
    other : (k j : Literal) → ((j ≡ k) ⊎ (complement j ∈ trail)) ⊎ ((j ≡ k → ⊥) × (complement j ∈ trail → ⊥))
    other k j =
        elim (same_or_not j k) [
          | inl p ↦ inl (inl p)
          | inr d ↦ elim (stands_or_not (complement j) trail) [ inl x ↦ inl (inr x) | inr x ↦ inr (d, x) ]
        ]

    by : (k : Literal) → k ∈ c → (complement k ∈ trail → ⊥) → (k ∈ trail) ⊎ (k ∈ trail → ⊥)
        → ((l : Literal) × Forces trail c l) ⊎ ((l : Literal) → Forces trail c l → ⊥)
    by k m unfalse (inl holds) = inr (λ l f. f.not_true (subst (λ (x : Literal). x ∈ trail) (only k m unfalse l f) holds))
    by k m unfalse (inr untrue) =
        elim (each_or (λ j. (j ≡ k) ⊎ (complement j ∈ trail)) (λ j. (j ≡ k → ⊥) × (complement j ∈ trail → ⊥)) (other k) c) [
          | inl others ↦ inl (
            k,
            record {
              stands = m;
              not_true = untrue;
              not_false = unfalse;
              others = λ j x d. elim (others j x) [ inl p ↦ absurd (d p) | inr y ↦ y ];
            },
          )
          | inr r ↦ inr (λ l f. r.2.1 (f.others r.0 r.1 (λ q. r.2.0 (q ∙ sym (only k m unfalse l f)))))
        ]

-- the variable of a forced literal is new
pub forced_new : (trail : List Literal) (c : Clause) (l : Literal) → Forces trail c l → names l.variable trail ≡ false
forced_new trail c l f =
    elim (cases_Bool (names l.variable trail)) [
      | inl e ↦
          let r = names_true l.variable trail e in
          absurd (elim (same_variable r.0 l r.2) [
            | inl p ↦ f.not_true (subst (λ (x : Literal). x ∈ trail) p r.1)
            | inr p ↦ f.not_false (subst (λ (x : Literal). x ∈ trail) p r.1)
          ])
      | inr e ↦ e
    ]

-- no assignment satisfies the set and makes the trail true
pub sound :
    (v : Assignment) (s : Clause → Type 0) (trail : List Literal) (row : List Clause)
    → ((c : Clause) → s c → Satisfies v c) → ((l : Literal) → l ∈ trail → IsTrue v l) → Derivation s trail row → ⊥
sound v s trail [] sat holds d = d
sound v s trail (c ∷ []) sat holds d =
    let k = sat c d.0 in
    not_both_true v k.0 k.2 (holds (complement k.0) (d.1 k.0 k.1))
sound v s trail (c ∷ e ∷ row) sat holds d =
    let k = sat c d.0 in
    let l = d.1.0 in
    elim (one_true v l) [
      | inl t ↦ sound v s (l ∷ trail) (e ∷ row) sat (all_cons (IsTrue v) t holds) d.1.2
      | inr t ↦
          not_both_true v k.0 k.2
          (holds (complement k.0) (d.1.1.others k.0 k.1 (λ p. not_both_true v l (subst (IsTrue v) p k.2) t)))
    ]

-- a lemma that passes is satisfied wherever the set is
pub passing_sound :
    (v : Assignment) (s : Clause → Type 0) (c : Clause) → ((d : Clause) → s d → Satisfies v d) → Passes s c → Satisfies v c
passing_sound v s c sat passes =
    elim (satisfied_or_not v c) [
      | inl h ↦ h
      | inr f ↦
          absurd (sound v s (map complement c) passes.0 sat
          (λ l m. let k = Memᴰ.of_map complement c m in subst (IsTrue v) k.2 (f k.0 k.1))
          passes.1)
    ]

-- a derivation is one from any set that has the clauses of its row
pub carried :
    (s s' : Clause → Type 0) (trail : List Literal) (row : List Clause)
    → ((c : Clause) → c ∈ row → s' c) → Derivation s trail row → Derivation s' trail row
carried s s' trail [] has d = d
carried s s' trail (c ∷ []) has d = (has c (here refl), d.1)
carried s s' trail (c ∷ e ∷ row) has d =
    (has c (here refl), (d.1.0, d.1.1, carried s s' (d.1.0 ∷ trail) (e ∷ row) (λ k m. has k (there m)) d.1.2))

-- a clause that forces a literal goes before a derivation under it
pub derives_before :
    (s : Clause → Type 0) (trail : List Literal) (c : Clause) (l : Literal) (row : List Clause)
    → s c → Forces trail c l → Derivation s (l ∷ trail) row → Derivation s trail (c ∷ row)
derives_before s trail c l [] at f d = elim d [ ]
derives_before s trail c l (e ∷ row) at f d = (at, (l, f, d))

-- and before a lean one, if the complement of the literal stands in it
pub lean_before :
    (s : Clause → Type 0) (trail : List Literal) (c : Clause) (l : Literal) (row : List Clause)
    → s c → Forces trail c l → StandsIn (complement l) row → Lean s (l ∷ trail) row → Lean s trail (c ∷ row)
lean_before s trail c l [] at f used d = elim d [ ]
lean_before s trail c l (e ∷ row) at f used d = (at, (l, f, used, d))

-- a lean derivation is a derivation
pub lean_derives : (s : Clause → Type 0) (trail : List Literal) (row : List Clause) → Lean s trail row → Derivation s trail row
lean_derives s trail [] d = d
lean_derives s trail (c ∷ []) d = d
lean_derives s trail (c ∷ e ∷ row) d =
    (d.0, (d.1.0, d.1.1, lean_derives s (d.1.0 ∷ trail) (e ∷ row) d.1.3))

-- a trail may lose the literals whose complements stand nowhere in the row
pub narrowed :
    (s : Clause → Type 0) (trail less : List Literal) (row : List Clause)
    → ((l : Literal) → l ∈ less → l ∈ trail)
    → ((k : Literal) → StandsIn k row → complement k ∈ trail → complement k ∈ less)
    → Lean s trail row → Lean s less row
narrowed s trail less [] sub used d = d
narrowed s trail less (c ∷ []) sub used d = (d.0, λ k m. used k (c, here refl, m) (d.1 k m))
narrowed s trail less (c ∷ e ∷ row) sub used d =
    let l = d.1.0 in
    let f = d.1.1 in (
      d.0,
      (
        l,
        record {
          stands = f.stands;
          not_true = λ m. f.not_true (sub l m);
          not_false = λ m. f.not_false (sub (complement l) m);
          others = λ k m n. used k (c, here refl, m) (f.others k m n);
        },
        d.1.2,
        narrowed s (l ∷ trail) (l ∷ less) (e ∷ row)
            (all_cons (λ k. k ∈ (l ∷ trail)) (here refl) (λ k m. there (sub k m)))
            (λ k st m. elim (in-cons m) [ inl p ↦ here p | inr m' ↦ there (used k (st.0, there st.1, st.2) m') ])
            d.1.3,
      ),
    )

-- where no clause of the set forces a literal under a trail, a derivation under a part of it shows a clause that is
-- falsified there
pub saturated :
    {s : Clause → Type 0} (full trail : List Literal) (row : List Clause)
    → ((c : Clause) (l : Literal) → s c → Forces full c l → ⊥)
    → ((l : Literal) → l ∈ trail → l ∈ full)
    → Derivation s trail row → (c : Clause) × s c × Falsified full c
saturated full trail [] none_forces sub d = elim d [ ]
saturated full trail (c ∷ []) none_forces sub d = (c, d.0, λ k m. sub (complement k) (d.1 k m))
saturated full trail (c ∷ e ∷ row) none_forces sub d =
    let l = d.1.0 in
    let others : (k : Literal) → k ∈ c → (k ≡ l → ⊥) → complement k ∈ full = λ k m n. sub (complement k) (d.1.1.others k m n) in
    elim (stands_or_not l full) [
      | inl m ↦ saturated full (l ∷ trail) (e ∷ row) none_forces (all_cons (λ k. k ∈ full) m sub) d.1.2
      | inr no-l ↦ elim (stands_or_not (complement l) full) [
        | inl m ↦ (
          c,
          d.0,
          λ k in_c. elim (same_or_not k l) [
            | inl p ↦ subst (λ (x : Literal). complement x ∈ full) (sym p) m
            | inr n ↦ others k in_c n
          ],
        )
        | inr no-not-l ↦
            absurd (none_forces c l d.0 (record { stands = d.1.1.stands; not_true = no-l; not_false = no-not-l; others = others }))
      ]
    ]
