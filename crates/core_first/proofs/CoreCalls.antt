-- What each call of the two sides does to the meaning that they stand for.
use Rattle.std.proofs.Common.{◌≡◌, ℕ, true, false, List, length, Some, None, Ok, Err, Option, Result, sym, refl, ap, ◌∙◌, subst}
use Rattle.std.specs.Result.{result_unwrap_or}
use Rattle.std.proofs.lemmas.Option.{none-some}
use Rattle.cnf.specs.declared.literals.Literal.{Literal}
use Rattle.cnf.specs.declared.literals.Forced.{Forced}
use Rattle.cnf.specs.Arranging.{arranged}
use Rattle.engine.specs.declared.answers.Answer.{Answer}
use Rattle.engine.specs.declared.answers.Answer.TheVariants.{Conflict, Forced as ForcedBy, Nothing}
use Rattle.engine.specs.declared.faults.EngineFault.{EngineFault}
use Rattle.engine.specs.declared.faults.EngineFault.TheVariants.{AlreadyOn}
use Rattle.engine.specs.Meaning.{Meaning, On, with_text, with_mark, joined_by, no_text, no_put, no_on, no_off, no_assume, Says, answered, Does, Puts, TurnsOn, TurnsOff, Prefers, Assumes, Next, WellFormed}
use Rattle.core_first.specs.Core.{Together, told, Asked}
use Rattle.engine.proofs.Consistent.{number_is_in}
use Rattle.engine.proofs.Refusing.{on_already, on_done, off_not, off_done}
use Rattle.core_first.proofs.CoreServes.{done, put_free, assume_free, on_fault, on_free, off_fault, off_free, on_allowed, says_up, told_free}
use Rattle.core_first.proofs.CoreTogether.{on_first, on_second, off_both, off_first, rest_on, rest_off, first_off, to_first, now_first, together_text, together_joined, together_first, together_second, together_counted, nothing_both}

-- both sides are what they are said to be
at_both : {p p' r r' m : Meaning} → p' ≡ p → r' ≡ r → Together p r m → Together p' r' m
at_both {p} {p'} {r} {r'} {m} e f h = subst (λ (x : Meaning). Together x r' m) (sym e) (subst (λ (x : Meaning). Together p x m) (sym f) h)

-- a text for which there is room is put into both
pub put_both : (p r m p' r' : Meaning) (ls : List Literal) (x y : Result (Unit {0}) EngineFault)
    → Puts p ls x p' → Puts r ls y r' → no_put m ls ≡ None → Together p r m → Together p' r' (with_text (arranged ls) m)
put_both p r m p' r' ls x y f h free t =
    at_both
    (done (no_put p ls) p (with_text (arranged ls) p) x p' f (put_free p m t.preferred ls free))
    (done (no_put r ls) r (with_text (arranged ls) r) y r' h (put_free r m t.rest ls free))
    (together_text p r m t (arranged ls))

-- a literal that can be assumed joins both trails
pub assume_both : (p r m p' r' : Meaning) (l : Literal) (x y : Result (Unit {0}) EngineFault)
    → Assumes p l x p' → Assumes r l y r' → no_assume m l ≡ None → Together p r m → Together p' r' (joined_by l 0 m)
assume_both p r m p' r' l x y f h free t =
    at_both
    (done (no_assume p l) p (joined_by l 0 p) x p' f (assume_free p m t.preferred l free))
    (done (no_assume r l) r (joined_by l 0 r) y r' h (assume_free r m t.rest l free))
    (together_joined p r m t l)

-- a text is turned, or the call is refused, and the sides stand for what that leaves
abbrev Turned : (p r m : Meaning) → Option EngineFault → (after : Meaning) → Result (Unit {0}) EngineFault → Type 0
Turned p r m refusal after x = (k : Meaning) × Does refusal m after x k × Together p r k

module _ (p r m : Meaning) (s : Together p r m) (n : ℕ) (o : m.opened ≡ false) (t : no_text m n ≡ false) where
  -- the preferred side has it on
  pub on_in_first : (p' : Meaning) → Prefers p n (Ok tt) p' → Turned p' r m (no_on m n) (with_mark n true m) (Err AlreadyOn)
  on_in_first p' f = (
    m,
    (on_already m n o t (on_first p r m s n (off_free p m s.preferred n o t f.0)), refl),
    at_both f.1 refl s,
  )

  -- else the rest is asked
  pub on_in_rest : (p' r' : Meaning) (e : EngineFault) (x : Result (Unit {0}) EngineFault) → Prefers p n (Err e) p' → TurnsOn r n x r'
      → Turned p' r' m (no_on m n) (with_mark n true m) x
  on_in_rest p' r' e (Ok u) f h =
      let a = (off_fault p m s.preferred n o t e f.0).0 in (
        with_mark n true m,
        (on_done m n o t (off_both p r m s n a (on_free r m s.rest n o t h.0)), refl),
        at_both f.1 h.1 (rest_on p r m s n (number_is_in (length m.texts) n t).0 a),
      )
  on_in_rest p' r' e (Err d) f h =
      let q = on_fault r m s.rest n o t d h.0 in (
        m,
        (on_already m n o t (on_second p r m s n q.0) ∙ ap (λ (z : EngineFault). Some z) q.1, refl),
        at_both f.1 h.1 s,
      )

  pub off_in_first : (p' : Meaning) → TurnsOff p n (Ok tt) p' → Turned p' r m (no_off m n) (with_mark n false m) (Ok tt)
  off_in_first p' f =
      let a = off_free p m s.preferred n o t f.0 in (
        with_mark n false m,
        (off_done m n o t (on_first p r m s n a), refl),
        at_both f.1 refl (first_off p r m s n (number_is_in (length m.texts) n t).0 a),
      )

  pub off_in_rest : (p' r' : Meaning) (e : EngineFault) (x : Result (Unit {0}) EngineFault) → TurnsOff p n (Err e) p' → TurnsOff r n x r'
      → Turned p' r' m (no_off m n) (with_mark n false m) x
  off_in_rest p' r' e (Ok u) f h =
      let a = (off_fault p m s.preferred n o t e f.0).0 in (
        with_mark n false m,
        (off_done m n o t (on_second p r m s n (off_free r m s.rest n o t h.0)), refl),
        at_both f.1 h.1 (rest_off p r m s n (number_is_in (length m.texts) n t).0 a),
      )
  off_in_rest p' r' e (Err d) f h =
      let a = (off_fault p m s.preferred n o t e f.0).0 in
      let q = off_fault r m s.rest n o t d h.0 in (
        m,
        (off_not m n o t (off_both p r m s n a q.0) ∙ ap (λ (z : EngineFault). Some z) q.1, refl),
        at_both f.1 h.1 s,
      )

  -- a text that the rest had on is turned on in the preferred side, where it was off
  pub prefer_in_rest : (p' r' : Meaning) (x : Result (Unit {0}) EngineFault) → TurnsOff r n (Ok tt) r' → TurnsOn p n x p'
      → Turned p' r' m (no_off m n) m x × On p' n
  prefer_in_rest p' r' x f h = go x h
    where
      a : On r n
      a = off_free r m s.rest n o t f.0

      free : no_on p n ≡ None
      free = on_allowed p m s.preferred n o t (off_first p r m s n a)

      go : (x : Result (Unit {0}) EngineFault) → TurnsOn p n x p' → Turned p' r' m (no_off m n) m x × On p' n
      go (Ok w) h =
          let low = (number_is_in (length m.texts) n t).0 in (
            (m, (off_done m n o t (on_second p r m s n a), refl), at_both h.1 f.1 (to_first p r m s n low a)),
            subst (λ (z : Meaning). On z n) (sym h.1) (now_first p r m s n low a),
          )
      go (Err e) h = absurd (none-some e (sym free ∙ h.0))

  -- else the preferred side says whether it has it on
  pub prefer_in_first : (p' r' : Meaning) (e : EngineFault) (x : Result (Unit {0}) EngineFault) → TurnsOff r n (Err e) r' → Prefers p n x p'
      → Turned p' r' m (no_off m n) m x
  prefer_in_first p' r' e (Ok u) f h = (
    m,
    (off_done m n o t (on_first p r m s n (off_free p m s.preferred n o t h.0)), refl),
    at_both h.1 f.1 s,
  )
  prefer_in_first p' r' e (Err d) f h =
      let a = (off_fault r m s.rest n o t e f.0).0 in
      let q = off_fault p m s.preferred n o t d h.0 in (
        m,
        (off_not m n o t (off_both p r m s n q.0 a) ∙ ap (λ (z : EngineFault). Some z) q.1, refl),
        at_both h.1 f.1 s,
      )

  -- and then has it on, if it accepts
  pub preferred_on : (p' : Meaning) (x : Result (Unit {0}) EngineFault) → Prefers p n x p' → x ≡ Ok tt → On p' n
  preferred_on p' (Ok u) h e = subst (λ (z : Meaning). On z n) (sym h.1) (off_free p m s.preferred n o t h.0)
  preferred_on p' (Err d) h e = absurd cc

-- an engine is forced to a literal, and another with the same values assumes it
pub asked_forced : (a b a' b' : Meaning) → WellFormed a → (r : Result Answer EngineFault) (f : Forced) (x : Result (Unit {0}) EngineFault)
    → result_unwrap_or r Nothing ≡ ForcedBy f → Next a r a' → Assumes b f.literal x b' → Asked a b (ForcedBy f) a' b'
asked_forced a b a' b' well (Ok answer) f x e h k o q v =
    let w = subst (λ (z : Answer). Next a (Ok z) a') e h in
    let l = f.literal in
    (w.1, w.2, done (no_assume b l) b (joined_by l 0 b) x b' k (told_free a b well q v f.number l w.1.0 w.1.1))
asked_forced a b a' b' well (Err fault) f x e h k o q v = absurd cc

-- the sides answer for the whole
module _ (p r m : Meaning) (t : Together p r m) (o : m.opened ≡ true) (a : Answer) (p' r' : Meaning) where
  -- the preferred side
  pub ask_first : Asked p r a p' r'
      → Says p a × ((a ≡ Nothing → ⊥) → Says m a × Together p' r' (answered m a)) × (a ≡ Nothing → Says p' Nothing × Together p' r' m)
  ask_first h =
      let q = h (t.preferred.opened ∙ o) (t.rest.opened ∙ o) (t.rest.valued ∙ sym t.preferred.valued) in (
        q.0,
        (λ d. (says_up p m t.preferred (on_first p r m t) a d q.0, at_both q.1 q.2 (together_first p r m t a))),
        (λ e. (
          subst (λ (x : Meaning). Says x Nothing) (sym (q.1 ∙ ap (answered p) e)) (subst (Says p) e q.0),
          at_both (q.1 ∙ ap (answered p) e) (q.2 ∙ ap (told r) e) (together_counted p r m t),
        )),
      )

  -- the rest, where the preferred side has nothing
  says_second : Says p Nothing → (b : Answer) → Says r b → Says m b
  says_second none (Conflict n) h = says_up r m t.rest (on_second p r m t) (Conflict n) (λ e. cc) h
  says_second none (ForcedBy f) h = says_up r m t.rest (on_second p r m t) (ForcedBy f) (λ e. cc) h
  says_second none Nothing h = nothing_both p r m t none h

  pub ask_second : Asked r p a r' p' → Says p Nothing → Says m a × Together p' r' (answered m a)
  ask_second h none =
      let q = h (t.rest.opened ∙ o) (t.preferred.opened ∙ o) (t.preferred.valued ∙ sym t.rest.valued) in
      (says_second none a q.0, at_both q.2 q.1 (together_second p r m t a))
