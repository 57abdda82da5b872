-- The making of an engine over lent lists.
use Rattle.std.specs.Prelude.{ℕ, ◌-◌, cond, ◌||◌, [], ◌∷◌, Some, None, Ok, Err, Option, Result, ◌==◌, nat_lt}
use Rattle.engine.specs.declared.faults.EngineFault.{EngineFault}
use Rattle.engine.specs.declared.faults.EngineFault.TheVariants.{ListTooShort, LimitOutOfRange, NoSuchText, TrialOpen}
use Rattle.engine.specs.Meaning.{Meaning, empty, rule, first_broken, no_text}

-- why a making is refused, if it is: over lists of so many text records and so many literal places
abbrev pub no_making : (text_limit literal_limit records places : ℕ) → Option EngineFault
no_making t l records places =
    first_broken (
    rule (nat_lt 4096 t || nat_lt 32768 l) LimitOutOfRange
    ∷ rule (nat_lt records t || nat_lt places l) ListTooShort
    ∷ [])

-- a value, unless a call is refused
abbrev pub unless : {T : Type 0} → Option EngineFault → T → Result T EngineFault
unless None x = Ok x
unless (Some fault) x = Err fault

-- what a call says that only looks whether it would be refused
abbrev pub judged : Option EngineFault → Result (Unit {0}) EngineFault
judged refusal = unless refusal tt

-- what is made: an empty engine with these limits, or with limits 0 where the making would be refused
abbrev pub made : Option EngineFault → (text_limit literal_limit : ℕ) → Meaning
made None t l = empty t l
made (Some fault) t l = empty 0 0

-- why a call about a text is refused, whether it is on or not
abbrev pub no_place : Meaning → (number : ℕ) → Option EngineFault
no_place m n = first_broken (rule m.opened TrialOpen ∷ rule (no_text m n) NoSuchText ∷ [])

-- the place of the text with this number, where so many texts are held; texts count from 1, places from 0
abbrev pub placed : (texts number : ℕ) → Result ℕ EngineFault
placed texts n = cond (n == 0 || nat_lt texts n) (Err NoSuchText) (Ok (n - 1))
