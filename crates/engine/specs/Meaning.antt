-- What an engine stands for, and what each of its calls does to that.
use Rattle.std.specs.Prelude.{◌≡◌, ℕ, zero, suc, ◌+◌, ◌-◌, ◌≤◌, min, Bool, true, false, cond, not, ◌||◌, List, [], ◌∷◌, ◌++◌, map, length, Some, None, Ok, Err, Option, Result, ◌==◌, nat_le, nat_lt, slice_index_or, slice_set}
use Rattle.cnf.specs.declared.literals.Literal.{Literal}
use Rattle.cnf.specs.declared.literals.Forced.{Forced}
use Rattle.cnf.specs.declared.faults.ClauseFault.TheVariants.{OutOfRange, Repeated}
use Rattle.cnf.specs.Clauses.{Clause, ◌∈◌, IsClause, literals}
use Rattle.cnf.specs.Arranging.{outside, names, beyond, in_range_until, twice, new_until, arranged}
use Rattle.cnf.specs.Propagation.{Falsified, Forces}
use Rattle.engine.specs.declared.answers.Answer.{Answer}
use Rattle.engine.specs.declared.answers.Answer.TheVariants.{Conflict, Forced as ForcedBy, Nothing}
use Rattle.engine.specs.declared.faults.EngineFault.{EngineFault}
use Rattle.engine.specs.declared.faults.EngineFault.TheVariants.{Clause as Faulty, Full, NoSuchText, AlreadyOn, NotOn, HasValue, TrialOpen, NoTrial}

-- the texts, a mark for each that says whether it is on, and the trail, all oldest first; whether a trial is open; how
-- often it answered; how many texts and how many literals it can hold
pub record Meaning : Type 0 where
  pub texts : List Clause
  pub on : List Bool
  pub trail : List Forced
  pub opened : Bool
  pub answers : ℕ
  pub text_limit : ℕ
  pub literal_limit : ℕ

-- the highest variable
abbrev pub highest : ℕ
highest = 512

-- where the count of answers stops
abbrev pub most : ℕ
most = 4294967295

-- the text with this number; texts count from 1
abbrev pub text_in : List Clause → (number : ℕ) → Clause
text_in texts zero = []
text_in texts (suc n) = slice_index_or texts n []

-- the mark with this number
abbrev pub mark_in : List Bool → (number : ℕ) → Bool
mark_in marks zero = false
mark_in marks (suc n) = slice_index_or marks n false

abbrev pub text_of : Meaning → (number : ℕ) → Clause
text_of m n = text_in m.texts n

abbrev pub is_on : Meaning → (number : ℕ) → Bool
is_on m n = mark_in m.on n

abbrev pub On : Meaning → (number : ℕ) → Type 0
On m n = is_on m n ≡ true

-- the literals of a trail
abbrev pub values_of : List Forced → List Literal
values_of trail = map (λ e. e.literal) trail

abbrev pub values : Meaning → List Literal
values m = values_of m.trail

abbrev pub entry : Literal → (number : ℕ) → Forced
entry l n = record { literal = l; number = n }

-- an engine with nothing in it
abbrev pub empty : (text_limit literal_limit : ℕ) → Meaning
empty t l = record { texts = []; on = []; trail = []; opened = false; answers = 0; text_limit = t; literal_limit = l }

abbrev pub cleared : Meaning → Meaning
cleared m = empty m.text_limit m.literal_limit

-- one text more, which is off
abbrev pub with_text : Clause → Meaning → Meaning
with_text c m = record { texts = m.texts ++ c ∷ []; on = m.on ++ false ∷ []; trail = m.trail; opened = m.opened; answers = m.answers; text_limit = m.text_limit; literal_limit = m.literal_limit }

abbrev pub with_on : List Bool → Meaning → Meaning
with_on marks m = record { texts = m.texts; on = marks; trail = m.trail; opened = m.opened; answers = m.answers; text_limit = m.text_limit; literal_limit = m.literal_limit }

-- one text is on, or off
abbrev pub with_mark : (number : ℕ) → Bool → Meaning → Meaning
with_mark n b m = with_on (slice_set m.on (n - 1) b) m

-- a trial begins or ends, with an empty trail
abbrev pub with_opened : Bool → Meaning → Meaning
with_opened b m = record { texts = m.texts; on = m.on; trail = []; opened = b; answers = m.answers; text_limit = m.text_limit; literal_limit = m.literal_limit }

abbrev pub with_trail : List Forced → Meaning → Meaning
with_trail t m = record { texts = m.texts; on = m.on; trail = t; opened = m.opened; answers = m.answers; text_limit = m.text_limit; literal_limit = m.literal_limit }

-- one literal more at the end of the trail
abbrev pub joined_by : Literal → (number : ℕ) → Meaning → Meaning
joined_by l n m = with_trail (m.trail ++ entry l n ∷ []) m

-- one answer more
abbrev pub counted : Meaning → Meaning
counted m = record { texts = m.texts; on = m.on; trail = m.trail; opened = m.opened; answers = min (m.answers + 1) most; text_limit = m.text_limit; literal_limit = m.literal_limit }

-- so many answers more
abbrev pub counted_by : (more : ℕ) → Meaning → Meaning
counted_by k m = record { texts = m.texts; on = m.on; trail = m.trail; opened = m.opened; answers = min (m.answers + k) most; text_limit = m.text_limit; literal_limit = m.literal_limit }

-- a rule: whether it is broken, and the fault if it is
pub data Rule : Type 0 where
  rule : (broken : Bool) → EngineFault → Rule

-- the fault of the first rule that is broken
abbrev pub first_broken : List Rule → Option EngineFault
first_broken [] = None
first_broken (rule broken fault ∷ rules) = cond broken (Some fault) (first_broken rules)

-- no text has this number
abbrev pub no_text : Meaning → (number : ℕ) → Bool
no_text m n = n == 0 || nat_lt (length m.texts) n

-- there is no room for a text of so many literals
abbrev pub no_room : Meaning → (count : ℕ) → Bool
no_room m k = nat_le m.text_limit (length m.texts) || nat_lt m.literal_limit (literals m.texts + k)

-- why each call is refused, if it is
abbrev pub shut : Meaning → Option EngineFault
shut m = first_broken (rule m.opened TrialOpen ∷ [])

abbrev pub no_trial : Meaning → Option EngineFault
no_trial m = first_broken (rule (not m.opened) NoTrial ∷ [])

abbrev pub no_put : Meaning → List Literal → Option EngineFault
no_put m ls =
    first_broken (
    rule m.opened TrialOpen
    ∷ rule (beyond highest ls) (Faulty (OutOfRange (in_range_until highest ls)))
    ∷ rule (twice ls) (Faulty (Repeated (new_until [] ls)))
    ∷ rule (no_room m (length ls)) Full
    ∷ [])

abbrev pub no_on : Meaning → (number : ℕ) → Option EngineFault
no_on m n = first_broken (rule m.opened TrialOpen ∷ rule (no_text m n) NoSuchText ∷ rule (is_on m n) AlreadyOn ∷ [])

abbrev pub no_off : Meaning → (number : ℕ) → Option EngineFault
no_off m n = first_broken (rule m.opened TrialOpen ∷ rule (no_text m n) NoSuchText ∷ rule (not (is_on m n)) NotOn ∷ [])

abbrev pub no_assume : Meaning → Literal → Option EngineFault
no_assume m l =
    first_broken (
    rule (not m.opened) NoTrial
    ∷ rule (outside highest l) (Faulty (OutOfRange 0))
    ∷ rule (names l.variable (values m)) HasValue
    ∷ [])

-- what an answer says
abbrev pub Says : Meaning → Answer → Type 0
Says m (Conflict n) = On m n × Falsified (values m) (text_of m n)
Says m (ForcedBy f) = On m f.number × Forces (values m) (text_of m f.number) f.literal
Says m Nothing =
    ((n : ℕ) → On m n → Falsified (values m) (text_of m n) → ⊥)
    × ((n : ℕ) (l : Literal) → On m n → Forces (values m) (text_of m n) l → ⊥)

-- what an answer leaves
abbrev pub answered : Meaning → Answer → Meaning
answered m (Conflict n) = counted m
answered m (ForcedBy f) = counted (joined_by f.literal f.number m)
answered m Nothing = counted m

-- A call that is refused with the fault that `refusal` names, changing nothing, and else leaves `after`.
abbrev pub Does : {T : Type 0} → (refusal : Option EngineFault) → (before after : Meaning) → Result T EngineFault → Meaning → Type 0
Does refusal before after (Ok x) m = (refusal ≡ None) × (m ≡ after)
Does refusal before after (Err e) m = (refusal ≡ Some e) × (m ≡ before)

-- What each call does: before, arguments, result, after.
abbrev pub Clears : Meaning → Result (Unit {0}) EngineFault → Meaning → Type 0
Clears m r n = Does (shut m) m (cleared m) r n

abbrev pub Puts : Meaning → List Literal → Result (Unit {0}) EngineFault → Meaning → Type 0
Puts m ls r n = Does (no_put m ls) m (with_text (arranged ls) m) r n

abbrev pub TurnsOn : Meaning → (number : ℕ) → Result (Unit {0}) EngineFault → Meaning → Type 0
TurnsOn m k r n = Does (no_on m k) m (with_mark k true m) r n

abbrev pub TurnsOff : Meaning → (number : ℕ) → Result (Unit {0}) EngineFault → Meaning → Type 0
TurnsOff m k r n = Does (no_off m k) m (with_mark k false m) r n

abbrev pub Prefers : Meaning → (number : ℕ) → Result (Unit {0}) EngineFault → Meaning → Type 0
Prefers m k r n = Does (no_off m k) m m r n

abbrev pub Opens : {T : Type 0} → Meaning → Result T EngineFault → Meaning → Type 0
Opens m r n = Does (shut m) m (with_opened true m) r n

abbrev pub Assumes : Meaning → Literal → Result (Unit {0}) EngineFault → Meaning → Type 0
Assumes m l r n = Does (no_assume m l) m (joined_by l 0 m) r n

-- the one call whose result is not settled by what was before: any right answer will do
abbrev pub Next : Meaning → Result Answer EngineFault → Meaning → Type 0
Next m (Ok a) n = (no_trial m ≡ None) × Says m a × (n ≡ answered m a)
Next m (Err e) n = (no_trial m ≡ Some e) × (n ≡ m)

-- an answer is one that an engine promises
abbrev pub Picked : (picks : Meaning → Answer → Type 0) → Meaning → Result Answer EngineFault → Type 0
Picked picks m (Ok a) = picks m a
Picked picks m (Err e) = Unit {0}

abbrev pub Ends : Meaning → Result (Unit {0}) EngineFault → Meaning → Type 0
Ends m r n = Does (no_trial m) m (with_opened false m) r n

-- literals that can stand on one trail: each variable is in range, and none comes twice
abbrev pub Consistent : List Literal → Type 0
Consistent ls = (beyond highest ls ≡ false) × (twice ls ≡ false)

-- what holds of an engine with nothing in it, and stays so by every call
pub record WellFormed (m : Meaning) : Type 0 where
  pub clauses : (c : Clause) → c ∈ m.texts → IsClause highest c
  pub marks : length m.on ≡ length m.texts
  pub few_texts : length m.texts ≤ m.text_limit
  pub few_literals : literals m.texts ≤ m.literal_limit
  pub consistent : Consistent (values m)
  pub at_rest : m.opened ≡ false → m.trail ≡ []
  pub countable : m.answers ≤ most
  pub small : (m.text_limit ≤ 4096) × (m.literal_limit ≤ 32768)
