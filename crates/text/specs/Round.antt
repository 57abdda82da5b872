-- What is written in standard form reads back as itself.
use Rattle.std.specs.Prelude.{◌≡◌, ℕ, ◌≤◌, List, take, Ok, Err, All, Result}
use Rattle.cnf.specs.Clauses.{IsClause}
use Rattle.lines.specs.declared.faults.WriteFault.{WriteFault}
use Rattle.text.specs.declared.standard.PrintFault.{PrintFault}
use Rattle.text.specs.Formulas.{Formula', Read, formula_of}

-- a formula in standard form: at most 512 variables, and each clause has them by rising number
pub record Standard (f : Formula') : Type 0 where
  pub few : f.highest ≤ 512
  pub clauses : All (IsClause f.highest) f.all

-- a formula that is read is in standard form
abbrev pub StandardRead : Read → Type 0
StandardRead (Ok f) = Standard f
StandardRead (Err fault) = Unit {0}

-- what was written up to n reads as the formula, if that is in standard form
abbrev pub ReadsBack : Formula' → Result ℕ WriteFault → (out : List ℕ) → Type 0
ReadsBack f (Ok n) out = Standard f → formula_of (take n out) ≡ Ok f
ReadsBack f (Err fault) out = Unit {0}

-- what was printed up to n reads as the same formula as the text, if that reads as one
abbrev pub ReadsAgain : (text : List ℕ) → Result ℕ PrintFault → (out : List ℕ) → Type 0
ReadsAgain text (Ok n) out = (f : Formula') → formula_of text ≡ Ok f → formula_of (take n out) ≡ Ok f
ReadsAgain text (Err fault) out = Unit {0}
