-- What the sides of a core-first engine do, and what the whole stands for.
use Rattle.std.specs.Prelude.{◌≡◌, ℕ, true, false, length, None, Ok, Option, Result}
use Rattle.cnf.specs.Clauses.{literals}
use Rattle.engine.specs.declared.answers.Answer.{Answer}
use Rattle.engine.specs.declared.faults.EngineFault.{EngineFault}
use Rattle.engine.specs.declared.limits.Room.{Room}
use Rattle.engine.specs.declared.sessions.Session.{Session}
use Rattle.core_first.specs.declared.Sides.{Sides}
use Rattle.engine.specs.Meaning.{Meaning, On, no_text, cleared, Says, answered, Does}
use Rattle.engine.specs.Sessions.{in_session}
use Rattle.core_first.specs.Core.{no_core, BackedBy, held, PreferredFirst}

-- sides that are not linked are left alone
abbrev pub Alone : {P R : Type 0} → (s z : Sides P R) → Type 0
Alone s z = s.linked ≡ false → z ≡ s

-- these two are not linked, and are as they were
abbrev pub LeftAlone : {P R : Type 0} → P → R → Sides P R → Type 0
LeftAlone p r s = (s.linked ≡ false) × (s.preferred ≡ p) × (s.rest ≡ r)

module _ {P R : Type 0} (pm : P → Meaning) (rm : R → Meaning) where
  -- the sides stand for m
  abbrev pub Backs : Sides P R → Meaning → Type 0
  Backs s m = BackedBy s.linked (pm s.preferred) (rm s.rest) m

  -- both sides are cleared, if they are linked and in no trial
  abbrev pub Cleared : (s z : Sides P R) → Type 0
  Cleared s z =
      (z.linked ≡ s.linked)
      × (s.linked ≡ true → no_core (pm s.preferred) (rm s.rest) ≡ None
      → (pm z.preferred ≡ cleared (pm s.preferred)) × (rm z.rest ≡ cleared (rm s.rest)))

  -- sides that stand for a meaning which allows the call stand for what it leaves
  abbrev pub Carries : (allowed : Meaning → Type 0) → (after : Meaning → Meaning) → (s z : Sides P R) → Type 0
  Carries allowed after s z = (m : Meaning) → allowed m → Backs s m → Backs z (after m)

  -- a text is turned in the sides, or the call is refused
  abbrev pub Turns : (number : ℕ) → (refusal : Meaning → Option EngineFault) → (after : Meaning → Meaning)
      → Sides P R → Result (Unit {0}) EngineFault → Sides P R → Type 0
  Turns n refusal after s r z =
      (m : Meaning) → m.opened ≡ false → no_text m n ≡ false → Backs s m → (k : Meaning) × Does (refusal m) m (after m) r k × Backs z k

  -- a text that is accepted is on in the preferred side
  abbrev pub Moved : (number : ℕ) → Sides P R → Result (Unit {0}) EngineFault → Sides P R → Type 0
  Moved n s r z = r ≡ Ok tt → (m : Meaning) → m.opened ≡ false → no_text m n ≡ false → Backs s m → On (pm z.preferred) n

  -- the sides answer for the meaning, the preferred one first
  abbrev pub Answers : Sides P R → Answer → Sides P R → Type 0
  Answers s r z =
      (m : Meaning) → m.opened ≡ true → Backs s m
      → Says m r × Backs z (answered m r) × (s.linked ≡ true → PreferredFirst (pm s.preferred) r)

  -- what the sides hold, in so much room, with no trial open and no answer given
  abbrev pub at_rest : Sides P R → Room → Meaning
  at_rest s room = held s.linked (pm s.preferred) (rm s.rest) room

  -- what a core-first engine stands for
  abbrev pub core_meaning : Sides P R → Room → Session → Meaning
  core_meaning s room session = in_session session (at_rest s room)

  -- a core-first engine that stands for m: its sides do, and its texts are counted
  pub record Whole (s : Sides P R) (room : Room) (m : Meaning) : Type 0 where
    pub backed : Backs s m
    pub text_count : room.texts ≡ length m.texts
    pub literal_count : room.literals ≡ literals m.texts
