-- Two engines that work as one: when they stand for one meaning together.
use Rattle.std.specs.Prelude.{◌≡◌, ℕ, ◌≤◌, min, Bool, true, false, cond, ◌||◌, ◌⊎◌, List, [], ◌∷◌, length, Option}
use Rattle.std.specs.Simd.Lanes.{zip2}
use Rattle.cnf.specs.Clauses.{Clause}
use Rattle.engine.specs.declared.answers.Answer.{Answer}
use Rattle.engine.specs.declared.answers.Answer.TheVariants.{Conflict, Forced as ForcedBy, Nothing}
use Rattle.engine.specs.declared.faults.EngineFault.{EngineFault}
use Rattle.engine.specs.declared.faults.EngineFault.TheVariants.{TrialOpen}
use Rattle.engine.specs.declared.limits.Limits.{Limits}
use Rattle.engine.specs.declared.limits.Room.{Room}
pub use Rattle.engine.specs.Limits.{no_place as no_turn}
use Rattle.engine.specs.Meaning.{Meaning, On, values, joined_by, Says, answered, rule, first_broken}

-- why no core-first engine is made over these two, if it is not
abbrev pub no_core : (p r : Meaning) → Option EngineFault
no_core p r = first_broken (rule (p.opened || r.opened) TrialOpen ∷ [])

-- a mark for each text that is on in either
abbrev pub either : List Bool → List Bool → List Bool
either xs ys = zip2 (λ x y. x || y) xs ys

-- a side that holds the texts of m and values its literals, with room for no less
pub record Serves (side m : Meaning) : Type 0 where
  pub texts : side.texts ≡ m.texts
  pub valued : values side ≡ values m
  pub opened : side.opened ≡ m.opened
  pub text_room : m.text_limit ≤ side.text_limit
  pub literal_room : m.literal_limit ≤ side.literal_limit

-- two sides that stand for m together: what is on is on in one of them
pub record Together (p r m : Meaning) : Type 0 where
  pub preferred : Serves p m
  pub rest : Serves r m
  pub marks : either p.on r.on ≡ m.on
  pub apart : (n : ℕ) → On p n → On r n → ⊥
  pub even : length p.on ≡ length r.on

-- m has no text and no room for one
pub record Bare (m : Meaning) : Type 0 where
  pub texts : [] ≡ m.texts
  pub marks : [] ≡ m.on
  pub no_texts : m.text_limit ≡ 0
  pub no_literals : m.literal_limit ≡ 0

-- sides that stand for m: together if they are linked; those that are left alone stand for a bare one
abbrev pub BackedBy : (linked : Bool) → (p r m : Meaning) → Type 0
BackedBy linked p r m = (linked ≡ true → Together p r m) × (linked ≡ false → Bare m)

-- what the sides hold
abbrev pub held_texts : (linked : Bool) → (p : Meaning) → List Clause
held_texts linked p = cond linked p.texts []

abbrev pub held_marks : (linked : Bool) → (p r : Meaning) → List Bool
held_marks linked p r = cond linked (either p.on r.on) []

-- what they hold, in so much room, with no trial open and no answer given
abbrev pub held : (linked : Bool) → (p r : Meaning) → Room → Meaning
held linked p r room = record {
  texts = held_texts linked p;
  on = held_marks linked p r;
  trail = [];
  opened = false;
  answers = 0;
  text_limit = room.limits.texts;
  literal_limit = room.limits.literals;
}

-- the smaller of both limits, or 0 where the sides are left alone
abbrev pub least : (linked : Bool) → (p r : Meaning) → Limits
least linked p r = record {
  texts = cond linked (min p.text_limit r.text_limit) 0;
  literals = cond linked (min p.literal_limit r.literal_limit) 0;
}

-- what the other side knows of an answer: a literal that is forced
abbrev pub told : Meaning → Answer → Meaning
told m (Conflict n) = m
told m (ForcedBy f) = joined_by f.literal 0 m
told m Nothing = m

-- the first of two engines with the same values was asked, and the second told
abbrev pub Asked : (a b : Meaning) → Answer → (a' b' : Meaning) → Type 0
Asked a b r a' b' =
    a.opened ≡ true → b.opened ≡ true → values b ≡ values a → Says a r × (a' ≡ answered a r) × (b' ≡ told b r)

-- an answer is the preferred side's, or that side has none
abbrev pub PreferredFirst : (p : Meaning) → Answer → Type 0
PreferredFirst p r = Says p r ⊎ Says p Nothing
