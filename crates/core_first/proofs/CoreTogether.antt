-- Two sides that stand for a meaning together, through each call.
use Rattle.std.proofs.Common.{◌≡◌, ℕ, zero, suc, ◌+◌, ◌-◌, ◌≤◌, Bool, true, false, ◌||◌, leb, ◌⊎◌, List, [], ◌∷◌, ◌++◌, length, set, None, sym, refl, ap, ◌∙◌, ⊎_elim, arith}
use Rattle.std.proofs.lemmas.Bool.{or_parts, or_from, or_left, or_right, or_cases, leb-false, both_ways, cases_Bool}
use Rattle.std.proofs.lemmas.List.{length_push, length-set}
use Rattle.cnf.specs.declared.literals.Literal.{Literal}
use Rattle.cnf.specs.Clauses.{Clause}
use Rattle.cnf.specs.Arranging.{beyond, twice}
use Rattle.engine.specs.declared.answers.Answer.{Answer}
use Rattle.engine.specs.declared.answers.Answer.TheVariants.{Conflict, Forced as ForcedBy, Nothing}
use Rattle.engine.specs.Meaning.{Meaning, highest, On, is_on, mark_in, with_text, with_on, with_mark, joined_by, counted, no_text, no_room, no_put, Says, answered}
use Rattle.engine.proofs.Consistent.{number_is_in}
use Rattle.engine.proofs.Keeping.{unbroken, mark_within}
use Rattle.core_first.specs.Core.{either, Serves, Together, Bare, BackedBy, told}
use Rattle.core_first.proofs.CoreMarks.{either_set, either_push, mark_either, same_mark, on_there, left_on, new_on}
use Rattle.core_first.proofs.CoreServes.{serves_text, serves_marks, serves_joined, serves_answered, serves_told, serves_counted, falsified_down, forces_down}

-- sides that are linked
pub backs : {b : Bool} {p r m : Meaning} → b ≡ true → Together p r m → BackedBy b p r m
backs {b} e t = ((λ _. t), (λ f. absurd (both_ways b f e)))

-- a bare meaning has no text, and takes none
pub bare_number : (m : Meaning) → Bare m → (n : ℕ) → no_text m n ≡ false → ⊥
bare_number m bare n t =
    let h = number_is_in (length m.texts) n t in
    let e = ap (λ (ts : List Clause). length ts) bare.texts in
    omega arith

pub bare_full : (m : Meaning) → Bare m → (ls : List Literal) → no_put m ls ≡ None → ⊥
bare_full m bare ls e =
    let a = unbroken m.opened _ _ e in
    let b = unbroken (beyond highest ls) _ _ a.1 in
    let c = unbroken (twice ls) _ _ b.1 in
    let d = unbroken (no_room m (length ls)) _ _ c.1 in
    let x = leb-false m.text_limit (length m.texts) (or_parts (leb m.text_limit (length m.texts)) _ d.0).0 in
    omega (arith, bare.no_texts)

-- an answer turns no text on or off
answered_on : (m : Meaning) (a : Answer) → (answered m a).on ≡ m.on
answered_on m (Conflict n) = refl
answered_on m (ForcedBy f) = refl
answered_on m Nothing = refl

told_on : (m : Meaning) (a : Answer) → (told m a).on ≡ m.on
told_on m (Conflict n) = refl
told_on m (ForcedBy f) = refl
told_on m Nothing = refl

module _ (p r m : Meaning) (t : Together p r m) where
  -- what is on
  pub on_is : (n : ℕ) → is_on m n ≡ (is_on p n || is_on r n)
  on_is n = ap (λ (xs : List Bool). mark_in xs n) (sym t.marks) ∙ mark_either p.on r.on n t.even

  pub on_first : (n : ℕ) → On p n → On m n
  on_first n o = on_is n ∙ or_left (is_on p n) (is_on r n) o

  pub on_second : (n : ℕ) → On r n → On m n
  on_second n o = on_is n ∙ or_right (is_on p n) (is_on r n) o

  pub on_either : (n : ℕ) → On m n → On p n ⊎ On r n
  on_either n o = or_cases (is_on p n) (is_on r n) (sym (on_is n) ∙ o)

  pub off_both : (n : ℕ) → is_on p n ≡ false → is_on r n ≡ false → is_on m n ≡ false
  off_both n a b = on_is n ∙ or_from (is_on p n) (is_on r n) a b

  -- a text that is on in one side is off in the other
  pub off_second : (n : ℕ) → On p n → is_on r n ≡ false
  off_second n o = ⊎_elim (λ e. absurd (t.apart n o e)) (λ e. e) (cases_Bool (is_on r n))

  pub off_first : (n : ℕ) → On r n → is_on p n ≡ false
  off_first n o = ⊎_elim (λ e. absurd (t.apart n e o)) (λ e. e) (cases_Bool (is_on p n))

  -- other marks
  remarked : (a b c : List Bool) → either a b ≡ c → ((n : ℕ) → mark_in a n ≡ true → mark_in b n ≡ true → ⊥) → length a ≡ length b
      → Together (with_on a p) (with_on b r) (with_on c m)
  remarked a b c e f h = record {
    preferred = serves_marks p m t.preferred a c;
    rest = serves_marks r m t.rest b c;
    marks = e;
    apart = f;
    even = h;
  }

  -- both sides set the mark of a text, which is what the whole has then
  both_set : (n : ℕ) (x y : Bool) → either (set p.on (n - 1) x) (set r.on (n - 1) y) ≡ set m.on (n - 1) (x || y)
  both_set n x y = either_set p.on r.on (n - 1) x y ∙ ap (λ (xs : List Bool). set xs (n - 1) (x || y)) t.marks

  module _ (n : ℕ) (low : 1 ≤ n) where
    pub rest_on : is_on p n ≡ false → Together p (with_mark n true r) (with_mark n true m)
    rest_on q = remarked p.on (set r.on (n - 1) true) (set m.on (n - 1) true)
        (ap (λ (xs : List Bool). either xs (set r.on (n - 1) true)) (sym (same_mark p.on n false low q)) ∙ both_set n false true)
        (λ k a b. ⊎_elim (λ (e : k ≡ n). both_ways (is_on p n) q (ap (λ (j : ℕ). is_on p j) (sym e) ∙ a)) (λ o. t.apart k a o) (new_on r.on n k low b))
        (t.even ∙ sym (length-set r.on (n - 1) true))

    pub rest_off : is_on p n ≡ false → Together p (with_mark n false r) (with_mark n false m)
    rest_off q = remarked p.on (set r.on (n - 1) false) (set m.on (n - 1) false)
        (ap (λ (xs : List Bool). either xs (set r.on (n - 1) false)) (sym (same_mark p.on n false low q)) ∙ both_set n false false)
        (λ k a b. t.apart k a (left_on r.on n k low b).1)
        (t.even ∙ sym (length-set r.on (n - 1) false))

    pub first_off : On p n → Together (with_mark n false p) r (with_mark n false m)
    first_off o = remarked (set p.on (n - 1) false) r.on (set m.on (n - 1) false)
        (ap (either (set p.on (n - 1) false)) (sym (same_mark r.on n false low (off_second n o))) ∙ both_set n false false)
        (λ k a b. t.apart k (left_on p.on n k low a).1 b)
        (length-set p.on (n - 1) false ∙ t.even)

    pub to_first : On r n → Together (with_mark n true p) (with_mark n false r) m
    to_first o = remarked (set p.on (n - 1) true) (set r.on (n - 1) false) m.on
        (both_set n true false ∙ same_mark m.on n true low (on_second n o))
        (λ k a b.
        let c = left_on r.on n k low b in
        ⊎_elim c.0 (λ q. t.apart k q c.1) (new_on p.on n k low a))
        (length-set p.on (n - 1) true ∙ t.even ∙ sym (length-set r.on (n - 1) false))

    pub now_first : On r n → On (with_mark n true p) n
    now_first o = on_there p.on n low (within n o t.even)
      where
        within : (k : ℕ) → mark_in r.on k ≡ true → length p.on ≡ length r.on → k ≤ length p.on
        within zero q e = omega arith
        within (suc k) q e = let h = mark_within r.on k q in omega arith

  pub together_text : (c : Clause) → Together (with_text c p) (with_text c r) (with_text c m)
  together_text c = record {
    preferred = serves_text p m t.preferred c;
    rest = serves_text r m t.rest c;
    marks = either_push p.on r.on t.even ∙ ap (λ (xs : List Bool). xs ++ false ∷ []) t.marks;
    apart = off_at_end;
    even = length_push p.on false ∙ ap (λ (k : ℕ). k + 1) t.even ∙ sym (length_push r.on false);
  }
    where
      push_off : (xs : List Bool) (n : ℕ) → mark_in (xs ++ false ∷ []) n ≡ mark_in xs n
      push_off xs zero = refl
      push_off [] (suc zero) = refl
      push_off [] (suc (suc n)) = refl
      push_off (x ∷ xs) (suc zero) = refl
      push_off (x ∷ xs) (suc (suc n)) = push_off xs (suc n)

      off_at_end : (n : ℕ) → mark_in (p.on ++ false ∷ []) n ≡ true → mark_in (r.on ++ false ∷ []) n ≡ true → ⊥
      off_at_end n a b = t.apart n (sym (push_off p.on n) ∙ a) (sym (push_off r.on n) ∙ b)

  pub together_joined : (l : Literal) → Together (joined_by l 0 p) (joined_by l 0 r) (joined_by l 0 m)
  together_joined l = record {
    preferred = serves_joined p m t.preferred l 0 0;
    rest = serves_joined r m t.rest l 0 0;
    marks = t.marks;
    apart = t.apart;
    even = t.even;
  }

  -- sides that serve with the marks that they had
  as_marked : {p' r' m' : Meaning} → Serves p' m' → Serves r' m' → p'.on ≡ p.on → r'.on ≡ r.on → m.on ≡ m'.on → Together p' r' m'
  as_marked f h a b c = record {
    preferred = f;
    rest = h;
    marks = (λ i. either (a i) (b i)) ∙ t.marks ∙ c;
    apart = λ n x y. t.apart n (sym (ap (λ (xs : List Bool). mark_in xs n) a) ∙ x) (sym (ap (λ (xs : List Bool). mark_in xs n) b) ∙ y);
    even = ap (λ (xs : List Bool). length xs) a ∙ t.even ∙ sym (ap (λ (xs : List Bool). length xs) b);
  }

  pub together_first : (a : Answer) → Together (answered p a) (told r a) (answered m a)
  together_first a = as_marked (serves_answered p m t.preferred a) (serves_told r m t.rest a) (answered_on p a) (told_on r a) (sym (answered_on m a))

  pub together_second : (a : Answer) → Together (told p a) (answered r a) (answered m a)
  together_second a = as_marked (serves_told p m t.preferred a) (serves_answered r m t.rest a) (told_on p a) (answered_on r a) (sym (answered_on m a))

  -- the preferred side counts an answer by itself
  pub together_counted : Together (counted p) r m
  together_counted = as_marked (serves_counted p m t.preferred) t.rest refl refl refl

  -- where neither side finds anything there is nothing
  pub nothing_both : Says p Nothing → Says r Nothing → Says m Nothing
  nothing_both a b = (
    (λ n o f. ⊎_elim (λ h. a.0 n h (falsified_down p m t.preferred n f)) (λ h. b.0 n h (falsified_down r m t.rest n f)) (on_either n o)),
    (λ n l o f. ⊎_elim (λ h. a.1 n l h (forces_down p m t.preferred n l f)) (λ h. b.1 n l h (forces_down r m t.rest n l f)) (on_either n o)),
  )
