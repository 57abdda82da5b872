-- A side that serves a meaning: what it refuses, what it answers, and that it goes on serving.
use Rattle.std.proofs.Common.{◌≡◌, ℕ, ◌+◌, Bool, true, false, cond, not, ◌||◌, eqb, ltb, leb, List, [], ◌∷◌, ◌++◌, length, Some, None, Ok, Err, Option, Result, sym, refl, ap, ◌∙◌, subst, arith}
use Rattle.std.proofs.lemmas.Bool.{or_parts, or_from, leb-false, lt-leb, ltb-false, le-ltb, not-false, not-true, cond-false}
use Rattle.std.proofs.lemmas.Option.{cond_some, none-some}
use Rattle.std.proofs.lemmas.List.{map_push}
use Rattle.cnf.specs.declared.literals.Literal.{Literal}
use Rattle.cnf.specs.Clauses.{Clause, literals}
use Rattle.cnf.specs.declared.faults.ClauseFault.TheVariants.{OutOfRange}
use Rattle.cnf.specs.Arranging.{outside, names, beyond, twice}
use Rattle.cnf.specs.Propagation.{Falsified, Forces}
use Rattle.cnf.proofs.Derivations.{forced_new}
use Rattle.cnf.specs.declared.literals.Forced.{Forced}
use Rattle.engine.specs.declared.answers.Answer.{Answer}
use Rattle.engine.specs.declared.answers.Answer.TheVariants.{Conflict, Forced as ForcedBy, Nothing}
use Rattle.engine.specs.declared.faults.EngineFault.{EngineFault}
use Rattle.engine.specs.declared.faults.EngineFault.TheVariants.{Clause as Faulty, AlreadyOn, NotOn, HasValue, NoTrial}
use Rattle.engine.specs.Meaning.{Meaning, WellFormed, highest, On, is_on, values, values_of, text_in, text_of, entry, with_text, with_on, joined_by, counted, no_text, no_room, no_put, no_on, no_off, no_assume, Says, answered, Does}
use Rattle.core_first.specs.Core.{Serves, told}
use Rattle.engine.proofs.Keeping.{unbroken, forced_inside}
use Rattle.engine.proofs.Refusing.{assume_done}

-- a call that has no reason to be refused is done
pub done : {T : Type 0} (refusal : Option EngineFault) (before after : Meaning) (r : Result T EngineFault) (m : Meaning)
    → Does refusal before after r m → refusal ≡ None → m ≡ after
done refusal before after (Ok x) m d e = d.1
done refusal before after (Err f) m d e = absurd (none-some f (sym e ∙ d.0))

-- a call that changes nothing either way
pub still : {T : Type 0} (refusal : Option EngineFault) (before : Meaning) (r : Result T EngineFault) (m : Meaning)
    → Does refusal before before r m → m ≡ before
still refusal before (Ok x) m d = d.1
still refusal before (Err f) m d = d.1

module _ (s m : Meaning) (v : Serves s m) where
  -- a text for which the whole has room finds room
  pub put_free : (ls : List Literal) → no_put m ls ≡ None → no_put s ls ≡ None
  put_free ls e =
      let a = unbroken m.opened _ _ e in
      let b = unbroken (beyond highest ls) _ _ a.1 in
      let c = unbroken (twice ls) _ _ b.1 in
      let d = unbroken (no_room m (length ls)) _ _ c.1 in
      let q = or_parts (leb m.text_limit (length m.texts)) (ltb m.literal_limit (literals m.texts + length ls)) d.0 in
      let x = leb-false m.text_limit (length m.texts) q.0 in
      let y = ltb-false m.literal_limit (literals m.texts + length ls) q.1 in
      let long = ap (λ (ts : List Clause). length ts) v.texts in
      let many = ap literals v.texts in
      let room : no_room s (length ls) ≡ false = or_from (leb s.text_limit (length s.texts)) (ltb s.literal_limit (literals s.texts + length ls)) (lt-leb s.text_limit (length s.texts) (omega (arith, v.text_room))) (le-ltb s.literal_limit (literals s.texts + length ls) (omega (arith, v.literal_room))) in
      cond-false s.opened _ _ (v.opened ∙ a.0) ∙ cond-false (beyond highest ls) _ _ b.0 ∙ cond-false (twice ls) _ _ c.0 ∙ cond-false (no_room s (length ls)) _ _ room

  -- and so does a literal that the whole can assume
  pub assume_free : (l : Literal) → no_assume m l ≡ None → no_assume s l ≡ None
  assume_free l e =
      ap (λ (o : Bool). cond (not o) (Some NoTrial) (cond (outside highest l) (Some (Faulty (OutOfRange 0))) (cond (names l.variable (values s)) (Some HasValue) None))) v.opened
      ∙ ap (λ (vs : List Literal). cond (not m.opened) (Some NoTrial) (cond (outside highest l) (Some (Faulty (OutOfRange 0))) (cond (names l.variable vs) (Some HasValue) None))) v.valued
      ∙ e

  -- whether a text is on in a side shows in its refusals
  module _ (n : ℕ) (o : m.opened ≡ false) (t : no_text m n ≡ false) where
    no_text_lem : no_text s n ≡ false
    no_text_lem = ap (λ (ts : List Clause). eqb n 0 || ltb (length ts) n) v.texts ∙ t

    on_rule : no_on s n ≡ cond (is_on s n) (Some AlreadyOn) None
    on_rule = cond-false s.opened _ _ (v.opened ∙ o) ∙ cond-false (no_text s n) _ _ no_text_lem

    off_rule : no_off s n ≡ cond (not (is_on s n)) (Some NotOn) None
    off_rule = cond-false s.opened _ _ (v.opened ∙ o) ∙ cond-false (no_text s n) _ _ no_text_lem

    pub on_fault : (e : EngineFault) → no_on s n ≡ Some e → (is_on s n ≡ true) × (AlreadyOn ≡ e)
    on_fault e q = cond_some (is_on s n) AlreadyOn e (sym on_rule ∙ q)

    pub on_free : no_on s n ≡ None → is_on s n ≡ false
    on_free q = (unbroken (is_on s n) _ _ (sym on_rule ∙ q)).0

    pub off_fault : (e : EngineFault) → no_off s n ≡ Some e → (is_on s n ≡ false) × (NotOn ≡ e)
    off_fault e q = let b = cond_some (not (is_on s n)) NotOn e (sym off_rule ∙ q) in (not-true (is_on s n) b.0, b.1)

    pub off_free : no_off s n ≡ None → is_on s n ≡ true
    off_free q = not-false (is_on s n) (unbroken (not (is_on s n)) _ _ (sym off_rule ∙ q)).0

    -- a call that has no reason to be refused
    pub on_allowed : is_on s n ≡ false → no_on s n ≡ None
    on_allowed q = on_rule ∙ cond-false (is_on s n) _ _ q

  -- it goes on serving, whatever marks and counts of answers both have
  serves_on : (a b : List Bool) (t u : List Forced) (i j : ℕ) → values_of t ≡ values_of u
      → Serves (record { texts = s.texts; on = a; trail = t; opened = s.opened; answers = i; text_limit = s.text_limit; literal_limit = s.literal_limit })
      (record { texts = m.texts; on = b; trail = u; opened = m.opened; answers = j; text_limit = m.text_limit; literal_limit = m.literal_limit })
  serves_on a b t u i j e = record { texts = v.texts; valued = e; opened = v.opened; text_room = v.text_room; literal_room = v.literal_room }

  joined : (l : Literal) (i j : ℕ) → values_of (s.trail ++ entry l i ∷ []) ≡ values_of (m.trail ++ entry l j ∷ [])
  joined l i j =
      map_push (λ (e : Forced). e.literal) s.trail (entry l i)
      ∙ ap (λ (vs : List Literal). vs ++ l ∷ []) v.valued
      ∙ sym (map_push (λ (e : Forced). e.literal) m.trail (entry l j))

  pub serves_text : (c : Clause) → Serves (with_text c s) (with_text c m)
  serves_text c = record { texts = ap (λ (ts : List Clause). ts ++ c ∷ []) v.texts; valued = v.valued; opened = v.opened; text_room = v.text_room; literal_room = v.literal_room }

  pub serves_marks : (a b : List Bool) → Serves (with_on a s) (with_on b m)
  serves_marks a b = serves_on a b _ _ _ _ v.valued

  pub serves_joined : (l : Literal) (i j : ℕ) → Serves (joined_by l i s) (joined_by l j m)
  serves_joined l i j = serves_on _ _ _ _ _ _ (joined l i j)

  pub serves_answered : (a : Answer) → Serves (answered s a) (answered m a)
  serves_answered (Conflict n) = serves_on _ _ _ _ _ _ v.valued
  serves_answered (ForcedBy f) = serves_on _ _ _ _ _ _ (joined f.literal f.number f.number)
  serves_answered Nothing = serves_on _ _ _ _ _ _ v.valued

  pub serves_told : (a : Answer) → Serves (told s a) (answered m a)
  serves_told (Conflict n) = serves_on _ _ _ _ _ _ v.valued
  serves_told (ForcedBy f) = serves_on _ _ _ _ _ _ (joined f.literal 0 f.number)
  serves_told Nothing = serves_on _ _ _ _ _ _ v.valued

  pub serves_counted : Serves (counted s) m
  serves_counted = serves_on _ _ _ _ _ _ v.valued

  -- what it says of a text holds for the whole, and the other way round
  text_same : (n : ℕ) → text_of s n ≡ text_of m n
  text_same n = ap (λ (ts : List Clause). text_in ts n) v.texts

  pub falsified_up : (n : ℕ) → Falsified (values s) (text_of s n) → Falsified (values m) (text_of m n)
  falsified_up n f = subst (Falsified (values m)) (text_same n) (subst (λ (vs : List Literal). Falsified vs (text_of s n)) v.valued f)

  pub falsified_down : (n : ℕ) → Falsified (values m) (text_of m n) → Falsified (values s) (text_of s n)
  falsified_down n f = subst (Falsified (values s)) (sym (text_same n)) (subst (λ (vs : List Literal). Falsified vs (text_of m n)) (sym v.valued) f)

  pub forces_up : (n : ℕ) (l : Literal) → Forces (values s) (text_of s n) l → Forces (values m) (text_of m n) l
  forces_up n l f = subst (λ (c : Clause). Forces (values m) c l) (text_same n) (subst (λ (vs : List Literal). Forces vs (text_of s n) l) v.valued f)

  pub forces_down : (n : ℕ) (l : Literal) → Forces (values m) (text_of m n) l → Forces (values s) (text_of s n) l
  forces_down n l f = subst (λ (c : Clause). Forces (values s) c l) (sym (text_same n)) (subst (λ (vs : List Literal). Forces vs (text_of m n) l) (sym v.valued) f)

  -- an answer that names a text
  pub says_up : ((n : ℕ) → On s n → On m n) → (a : Answer) → (a ≡ Nothing → ⊥) → Says s a → Says m a
  says_up on (Conflict n) d h = (on n h.0, falsified_up n h.1)
  says_up on (ForcedBy f) d h = (on f.number h.0, forces_up f.number f.literal h.1)
  says_up on Nothing d h = absurd (d refl)

-- what one engine is forced to, another with the same values can assume
pub told_free : (a b : Meaning) → WellFormed a → b.opened ≡ true → values b ≡ values a → (n : ℕ) (l : Literal) → On a n → Forces (values a) (text_of a n) l
    → no_assume b l ≡ None
told_free a b well o e n l on f =
    assume_done b l o (forced_inside a well n l on f) (ap (λ (vs : List Literal). names l.variable vs) e ∙ forced_new (values a) (text_of a n) l f)
