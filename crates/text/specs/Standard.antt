-- The standard form of a text.
use Rattle.std.specs.Prelude.{◌≡◌, ℕ, List, Ok, Err, Result}
use Rattle.lines.specs.declared.faults.WriteFault.TheVariants.{NoRoom as NoPlace}
use Rattle.lines.specs.Texts.{formula_text, refusal_line}
use Rattle.lines.specs.Writes.{Writes}
use Rattle.text.specs.declared.standard.PrintFault.{PrintFault}
use Rattle.text.specs.declared.standard.PrintFault.TheVariants.{NoRoom, Memory}
use Rattle.text.specs.Faults.{number_of, place_of}
use Rattle.text.specs.Formulas.{Formula', Read, formula_of}

-- the text of a formula
abbrev pub text_of : Formula' → List ℕ
text_of f = formula_text f.highest f.all

-- a formula in standard form, or the line of its refusal
abbrev pub printed : Read → List ℕ
printed (Ok f) = text_of f
printed (Err fault) = refusal_line (number_of fault) (place_of fault)

-- the standard form of what a text reads as
abbrev pub standard_text : (text : List ℕ) → List ℕ
standard_text text = printed (formula_of text)

-- bs is written from the start of out, or refused where there is no room; for want of memory nothing is written
abbrev pub Prints : (out bs : List ℕ) → Result ℕ PrintFault → (out' : List ℕ) → Type 0
Prints out bs (Ok n) out' = Writes out 0 bs (Ok n) out'
Prints out bs (Err NoRoom) out' = Writes out 0 bs (Err NoPlace) out'
Prints out bs (Err Memory) out' = out' ≡ out
