-- A core-first engine from its parts, and what its calls leave.
use Rattle.std.proofs.Common.{◌≡◌, ℕ, ◌+◌, Bool, true, false, List, length, None, Option, Result, sym, refl, ap, ◌∙◌, subst}
use Rattle.std.proofs.lemmas.List.{length_push}
use Rattle.cnf.specs.Clauses.{Clause, literals}
use Rattle.engine.specs.declared.faults.EngineFault.{EngineFault}
use Rattle.engine.specs.declared.limits.Limits.{Limits}
use Rattle.engine.specs.declared.limits.Room.{Room}
use Rattle.engine.specs.declared.sessions.Session.{Session}
use Rattle.engine.specs.Meaning.{Meaning, with_text, with_on, no_text, Does}
use Rattle.engine.specs.Trails.{entries_of}
use Rattle.engine.proofs.Keeping.{does_keeps, unbroken, literals_push}
use Rattle.engine.proofs.Refusing.{alike}
use Rattle.core_first.specs.declared.Sides.{Sides}
use Rattle.core_first.specs.Core.{BackedBy, held_texts, held_marks, no_turn}
use Rattle.core_first.specs.CoreSides.{Backs, core_meaning, Whole}

-- what the sides hold is what the meaning holds
pub held_texts_lem : (b : Bool) (p r m : Meaning) → BackedBy b p r m → held_texts b p ≡ m.texts
held_texts_lem true p r m h = (h.0 refl).preferred.texts
held_texts_lem false p r m h = (h.1 refl).texts

pub held_marks_lem : (b : Bool) (p r m : Meaning) → BackedBy b p r m → held_marks b p r ≡ m.on
held_marks_lem true p r m h = (h.0 refl).marks
held_marks_lem false p r m h = (h.1 refl).marks

-- a text that can be turned
pub can_turn : (m : Meaning) (n : ℕ) → no_turn m n ≡ None → (m.opened ≡ false) × (no_text m n ≡ false)
can_turn m n e =
    let a = unbroken m.opened _ _ e in
    let b = unbroken (no_text m n) _ _ a.1 in
    (a.0, b.0)

module _ {P R : Type 0} (pm : P → Meaning) (rm : R → Meaning) where
  -- an engine whose parts are those of a meaning that its sides stand for
  pub stands : (z : Sides P R) (room : Room) (session : Session) (n : Meaning) → Backs pm rm z n
      → entries_of session.trail ≡ n.trail → session.opened ≡ n.opened → session.answers ≡ n.answers
      → room.limits.texts ≡ n.text_limit → room.limits.literals ≡ n.literal_limit → room.texts ≡ length n.texts → room.literals ≡ literals n.texts
      → (core_meaning pm rm z room session ≡ n) × Whole pm rm z room (core_meaning pm rm z room session)
  stands z room session n b c d e f g texts lits =
      let same = alike {n = n} (held_texts_lem z.linked (pm z.preferred) (rm z.rest) n b) (held_marks_lem z.linked (pm z.preferred) (rm z.rest) n b) c d e f g in
      (same, subst (Whole pm rm z room) (sym same) (record { backed = b; text_count = texts; literal_count = lits }))

module _ {P R : Type 0} {pm : P → Meaning} {rm : R → Meaning} {s : Sides P R} {room : Room} (session : Session)
    (w : Whole pm rm s room (core_meaning pm rm s room session)) where
  -- one text more, for which room was taken
  pub one_more : (z : Sides P R) (after : Room) (c : Clause) (count : ℕ) → (let m = core_meaning pm rm s room session in
      Backs pm rm z (with_text c m) → length c ≡ count → after.limits ≡ room.limits → (after.texts ≡ room.texts + 1) × (after.literals ≡ room.literals + count)
      → (core_meaning pm rm z after session ≡ with_text c m) × Whole pm rm z after (core_meaning pm rm z after session))
  one_more z after c count b same limits more =
      let m = core_meaning pm rm s room session in
      let texts = more.0 ∙ ap (λ (k : ℕ). k + 1) w.text_count ∙ sym (length_push m.texts c) in
      let many = more.1 ∙ (λ i. w.literal_count i + sym same i) ∙ sym (literals_push m.texts c) in
      stands pm rm z after session (with_text c m) b refl refl refl (ap (λ (l : Limits). l.texts) limits) (ap (λ (l : Limits). l.literals) limits) texts many

  -- the session goes on to what the sides stand for then
  pub goes_on : (z : Sides P R) (after : Session) {n : Meaning} → core_meaning pm rm s room after ≡ n → Backs pm rm z n
      → (core_meaning pm rm z room after ≡ n) × Whole pm rm z room (core_meaning pm rm z room after)
  goes_on z after {n} e b =
      let texts = ap (λ (m : Meaning). m.texts) e in
      stands pm rm z room after n b (ap (λ (m : Meaning). m.trail) e) (ap (λ (m : Meaning). m.opened) e) (ap (λ (m : Meaning). m.answers) e) (ap (λ (m : Meaning). m.text_limit) e) (ap (λ (m : Meaning). m.literal_limit) e) (w.text_count ∙ ap (λ (cs : List Clause). length cs) texts) (w.literal_count ∙ ap literals texts)

  -- a text is turned, or the call is refused
  pub turned : (z : Sides P R) (refusal : Option EngineFault) (marks : List Bool) (x : Result (Unit {0}) EngineFault) → (let m = core_meaning pm rm s room session in
      (k : Meaning) × Does refusal m (with_on marks m) x k × Backs pm rm z k
      → Does refusal m (with_on marks m) x (core_meaning pm rm z room session) × Whole pm rm z room (core_meaning pm rm z room session))
  turned z refusal marks x t =
      let q = stands pm rm z room session t.0 t.2 (keeps (λ k. m.trail ≡ k.trail) refl refl) (keeps (λ k. m.opened ≡ k.opened) refl refl) (keeps (λ k. m.answers ≡ k.answers) refl refl) (keeps (λ k. m.text_limit ≡ k.text_limit) refl refl) (keeps (λ k. m.literal_limit ≡ k.literal_limit) refl refl) (keeps (λ k. room.texts ≡ length k.texts) w.text_count w.text_count) (keeps (λ k. room.literals ≡ literals k.texts) w.literal_count w.literal_count) in
      (subst (Does refusal m (with_on marks m) x) (sym q.0) t.1, q.1)
    where
      m : Meaning
      m = core_meaning pm rm s room session

      keeps : (F : Meaning → Type 0) → F m → F (with_on marks m) → F t.0
      keeps F u v = does_keeps F refusal m (with_on marks m) x t.0 u (λ e. v) t.1
