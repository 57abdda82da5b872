-- Asking until there is a conflict or nothing more.
use Rattle.std.proofs.Common.{◌≡◌, ℕ, suc, ◌+◌, ◌<◌, ◌≤◌, min, List, [], ◌∷◌, ◌++◌, length, reverse, Some, None, sym, refl, ap, ◌∙◌, subst, inl, inr, append_assoc, arith}
use mathlib.Core.List.{reverse-cons}
use mathlib.Core.List.Memᴰ
use mathlib.Core.List.Memᴰ.{cases_cons as in-cons}
use mathlib.Core.List.Memᴰ.{head as here}
use mathlib.Core.List.Memᴰ.{tail as there}
use Rattle.std.proofs.lemmas.List.{map_push, length-map, length-append, length_push, reverse-append, reverse-reverse, append-nil}
use Rattle.cnf.specs.declared.literals.Literal.{Literal}
use Rattle.cnf.specs.declared.literals.Forced.{Forced}
use Rattle.cnf.specs.Literals.{complement}
use Rattle.cnf.specs.Clauses.{Clause, ◌∈◌}
use Rattle.cnf.specs.Propagation.{Falsified, Forces, Derivation}
use Rattle.cnf.proofs.Arranging.{all_cons, in_push}
use Rattle.drup.specs.Backward.{trail, RightOver}
use Rattle.engine.specs.declared.answers.Answer.{Answer}
use Rattle.engine.specs.declared.answers.Answer.TheVariants.{Conflict, Forced as ForcedBy, Nothing}
use Rattle.engine.specs.Meaning.{Meaning, highest, most, On, text_of, values, values_of, with_trail, counted, counted_by, Says, answered, WellFormed}
use Rattle.engine.proofs.Consistent.{consistent_length}
use Rattle.trial.specs.Trying.{EndsRight}
use Rattle.trial.proofs.Counted.{up_none}

-- two lists with the same elements
pub record Same (t u : List Literal) : Type 0 where
  pub there_too : (l : Literal) → l ∈ t → l ∈ u
  pub back : (l : Literal) → l ∈ u → l ∈ t

swapped : {t u : List Literal} → Same t u → Same u t
swapped a = record { there_too = a.back; back = a.there_too }

-- a clause does the same under both
module _ (t u : List Literal) (same : Same t u) (c : Clause) where
  pub same_falsified : Falsified t c → Falsified u c
  same_falsified f k m = same.there_too (complement k) (f k m)

  pub same_forces : (l : Literal) → Forces t c l → Forces u c l
  same_forces l f = record {
    stands = f.stands;
    not_true = λ m. f.not_true (same.back l m);
    not_false = λ m. f.not_false (same.back (complement l) m);
    others = λ k m d. same.there_too (complement k) (f.others k m d);
  }

same_more : {t u : List Literal} (l : Literal) → Same t u → Same (l ∷ t) (l ∷ u)
same_more {t} {u} l a = record {
  there_too = all_cons (λ k. k ∈ (l ∷ u)) (here refl) (λ k m. there (a.there_too k m));
  back = all_cons (λ k. k ∈ (l ∷ t)) (here refl) (λ k m. there (a.back k m));
}

-- a derivation stands under any trail with the same literals
pub same_derives : (s : Clause → Type 0) (t u : List Literal) (row : List Clause) → Same t u → Derivation s t row → Derivation s u row
same_derives s t u [] a d = d
same_derives s t u (c ∷ []) a d = (d.0, same_falsified t u a c d.1)
same_derives s t u (c ∷ e ∷ row) a d =
    let l = d.1.0 in
    (d.0, (l, same_forces t u a c l d.1.1, same_derives s (l ∷ t) (l ∷ u) (e ∷ row) (same_more l a) d.1.2))

-- an engine's trail has the literals of the trail that answers, the latest first, are judged by
same_trail : (before answers : List Forced) → Same (values_of (before ++ reverse answers)) (trail (values_of before) answers)
same_trail before [] =
    subst (λ (t : List Forced). Same (values_of t) (values_of before)) (sym (append-nil before)) (record { there_too = λ l m. m; back = λ l m. m })
same_trail before (f ∷ earlier) =
    let ih = same_trail before earlier in
    let older = before ++ reverse earlier in
    let e : values_of (before ++ reverse (f ∷ earlier)) ≡ values_of older ++ f.literal ∷ [] =
    ap (λ (t : List Forced). values_of (before ++ t)) (reverse-cons f earlier)
    ∙ ap values_of (sym (append_assoc before (reverse earlier) (f ∷ [])))
    ∙ map_push (λ (x : Forced). x.literal) older f in
    record {
      there_too = λ l m.
          elim (in_push (values_of older) f.literal l (subst (λ (t : List Literal). l ∈ t) e m)) [
            | inl p ↦ there (ih.there_too l p)
            | inr p ↦ here p
          ];
      back = λ l m.
          subst (λ (t : List Literal). l ∈ t) (sym e)
          (elim (in-cons m) as (λ v. l ∈ (values_of older ++ f.literal ∷ [])) [
            | inl p ↦ Memᴰ.append_right (values_of older) (here p)
            | inr p ↦ Memᴰ.append_left (f.literal ∷ []) (ih.back l p)
          ]);
    }

-- what an engine stands for once it has forced these literals, oldest first, and that it was right to
pub record Asked (m : Meaning) (noted : List Forced) (during : Meaning) : Type 0 where
  pub so_far : during ≡ with_trail (m.trail ++ noted) (counted_by (length noted) m)
  pub right : RightOver (On m) (text_of m) (values m) (reverse noted)

-- before the first question
pub at_start : (m : Meaning) → WellFormed m → Asked m [] m
at_start m well = record {
  so_far = λ i. record { texts = m.texts; on = m.on; trail = sym (append-nil m.trail) i; opened = m.opened; answers = up_none m.answers well.countable i; text_limit = m.text_limit; literal_limit = m.literal_limit };
  right = tt;
}

-- there are at most as many literals on the trail as variables
pub few_noted : (m : Meaning) (noted : List Forced) (k : ℕ) (during : Meaning) → WellFormed during → during ≡ with_trail (m.trail ++ noted) (counted_by k m)
    → length m.trail + length noted ≤ highest
few_noted m noted k during well e =
    let h = consistent_length (values during) well.consistent in
    let a = length-map during.trail (λ (x : Forced). x.literal) in
    let b = ap (λ (x : Meaning). length x.trail) e ∙ length-append m.trail noted in
    omega arith

-- after these answers
module _ {m : Meaning} {noted : List Forced} {before : Meaning} (asking : Asked m noted before) where
  same : Same (values_of (m.trail ++ noted)) (trail (values m) (reverse noted))
  same = subst (λ (t : List Forced). Same (values_of (m.trail ++ t)) (trail (values m) (reverse noted))) (reverse-reverse noted) (same_trail m.trail (reverse noted))

  as_said : (a : Answer) → Says before a → Says (with_trail (m.trail ++ noted) (counted_by (length noted) m)) a
  as_said a s = subst (λ (x : Meaning). Says x a) asking.so_far s

  -- one answer more is counted
  counted_more : (t : List Forced) (k : ℕ) → k ≡ suc (length noted) → counted (with_trail t (counted_by (length noted) m)) ≡ with_trail t (counted_by k m)
  counted_more t k e =
      let more : min (min (m.answers + length noted) most + 1) most ≡ min (m.answers + k) most = omega arith in
      λ i. record { texts = m.texts; on = m.on; trail = t; opened = m.opened; answers = more i; text_limit = m.text_limit; literal_limit = m.literal_limit }

  -- a literal that is forced is noted, and there is a place for it
  module _ (f : Forced) {after : Meaning} (says : Says before (ForcedBy f)) (e : after ≡ answered before (ForcedBy f)) where
    longer : after ≡ with_trail (m.trail ++ (noted ++ f ∷ [])) (counted_by (length (noted ++ f ∷ [])) m)
    longer =
        e ∙ ap (λ (x : Meaning). answered x (ForcedBy f)) asking.so_far
        ∙ counted_more (m.trail ++ noted ++ f ∷ []) (length (noted ++ f ∷ [])) (let h = length_push noted f in omega arith)
        ∙ ap (λ (t : List Forced). with_trail t (counted_by (length (noted ++ f ∷ [])) m)) (append_assoc m.trail noted (f ∷ []))

    pub goes_on : Asked m (noted ++ f ∷ []) after
    goes_on =
        let s = as_said (ForcedBy f) says in
        let right : RightOver (On m) (text_of m) (values m) (f ∷ reverse noted) = (s.0, same_forces _ _ same _ f.literal s.1, asking.right) in
        record { so_far = longer; right = subst (RightOver (On m) (text_of m) (values m)) (sym (reverse-append noted (f ∷ []))) right }

    pub room : WellFormed after → length noted < highest
    room well =
        let h = few_noted m (noted ++ f ∷ []) (length (noted ++ f ∷ [])) after well longer in
        let k = length_push noted f in
        omega arith

  -- any other answer is the last
  pub in_conflict : (n : ℕ) → Says before (Conflict n) → EndsRight m (values m) (reverse noted) (Some n)
  in_conflict n says =
      let s = as_said (Conflict n) says in
      record { right = asking.right; live = s.0; false_there = same_falsified _ _ same _ s.1 }

  pub in_nothing : Says before Nothing → EndsRight m (values m) (reverse noted) None
  in_nothing says =
      let s = as_said Nothing says in
      record {
        right = asking.right;
        none_false = λ n o f. s.0 n o (same_falsified _ _ (swapped same) _ f);
        none_forces = λ n l o f. s.1 n l o (same_forces _ _ (swapped same) _ l f);
      }
