-- What a core-first engine stands for is well formed.
use Rattle.std.specs.Prelude.{◌≡◌, ℕ, ◌≤◌, Bool, true, false, ◌||◌, length}
use Rattle.std.proofs.Common.{sym, refl, ◌∙◌, subst}
use mathlib.Core.List.Memᴰ
use Rattle.std.proofs.Math.Nat.{le_trans, le_of_sub-eq-zero}
use Rattle.std.proofs.lemmas.Simd.{length-zip2}
use Rattle.cnf.specs.Clauses.{literals}
use Rattle.engine.specs.declared.limits.Room.{Room}
use Rattle.engine.specs.declared.sessions.Session.{Session}
use Rattle.engine.specs.Meaning.{Meaning, WellFormed}
use Rattle.engine.specs.Sessions.{in_session}
use Rattle.core_first.specs.declared.Sides.{Sides}
use Rattle.core_first.specs.Core.{BackedBy, held}
use Rattle.core_first.specs.CoreSides.{core_meaning, Whole}

-- over sides that are linked, and over sides that are not
well : (b : Bool) (p r : Meaning) (room : Room) (session : Session) → WellFormed p → BackedBy b p r (in_session session (held b p r room))
    → room.texts ≡ length (held b p r room).texts → room.literals ≡ literals (held b p r room).texts → WellFormed (in_session session (held b p r room))
well true p r room session w h texts lits =
    let t = h.0 refl in record {
      clauses = w.clauses;
      marks = length-zip2 (λ (x y : Bool). x || y) p.on r.on t.even ∙ w.marks;
      few_texts = subst (λ (n : ℕ). n ≤ room.limits.texts) texts room.few.0;
      few_literals = subst (λ (n : ℕ). n ≤ room.limits.literals) lits room.few.1;
      consistent = session.consistent;
      at_rest = session.at_rest;
      countable = session.countable;
      small = (le_trans t.preferred.text_room w.small.0, le_trans t.preferred.literal_room w.small.1);
    }
well false p r room session w h texts lits =
    let bare = h.1 refl in record {
      clauses = λ c i. absurd (Memᴰ.not-nil i);
      marks = refl;
      few_texts = subst (λ (n : ℕ). n ≤ room.limits.texts) texts room.few.0;
      few_literals = subst (λ (n : ℕ). n ≤ room.limits.literals) lits room.few.1;
      consistent = session.consistent;
      at_rest = session.at_rest;
      countable = session.countable;
      small = (subst (λ (n : ℕ). n ≤ 4096) (sym bare.no_texts) (le_of_sub-eq-zero refl), subst (λ (n : ℕ). n ≤ 32768) (sym bare.no_literals) (le_of_sub-eq-zero refl));
    }

pub core_laws : {P R : Type 0} (pm : P → Meaning) (rm : R → Meaning) → ((p : P) → WellFormed (pm p))
    → (s : Sides P R) (room : Room) (session : Session) → Whole pm rm s room (core_meaning pm rm s room session) → WellFormed (core_meaning pm rm s room session)
core_laws pm rm laws s room session h = well s.linked (pm s.preferred) (rm s.rest) room session (laws s.preferred) h.backed h.text_count h.literal_count
