-- What a reader of formulas holds and tells.
use Rattle.std.specs.Prelude.{◌≡◌, ℕ, List, [], Ok, Err, Result}
use Rattle.std.specs.Result.{result_unwrap_or}
use Rattle.cnf.specs.Arranging.{Arrangement}
use Rattle.cnf.specs.Drafts.{outcome}
use Rattle.words.specs.Texts.{At, next_of}
use Rattle.words.specs.Reading.{left, extent}
use Rattle.text.specs.declared.faults.TextFault.{TextFault}
use Rattle.text.specs.declared.formulas.Position.{Position}
use Rattle.text.specs.declared.formulas.Position.TheVariants.{Before, Heading, Between, Inside}
use Rattle.text.specs.declared.formulas.Due.TheVariants.{Format, Variables, Clauses}
use Rattle.text.specs.declared.formulas.Step.{Step}
use Rattle.text.specs.declared.formulas.Step.TheVariants.{More, Variables as VariableCount, Heading as WholeHeading, Clause as OneClause, End}
use Rattle.text.specs.declared.formulas.FormulaReader.{FormulaReader}
use Rattle.text.specs.Formulas.{State, before, format, variables, clauses, between, inside, Item, nothing, variable_count, heading, clause, whole, Moved, refuses, moves, moved}

-- the state at a position, over v variables, with a clause so far
abbrev pub standing : Position → (v : ℕ) → Arrangement → State
standing Before v a = before
standing (Heading Format) v a = format
standing (Heading Variables) v a = variables
standing (Heading Clauses) v a = clauses v
standing (Between remaining) v a = between v remaining
standing (Inside remaining) v a = inside v remaining a

-- where a reader stands
abbrev pub state_of : FormulaReader → State
state_of r = standing r.position r.variables (outcome r.draft)

-- the words that it has still to take
abbrev pub words_left : FormulaReader → List At
words_left r = left r.words

-- the length of its text
abbrev pub extent_of : FormulaReader → ℕ
extent_of r = extent r.words

-- what a step says of the reader behind it
abbrev pub item_of : Step → FormulaReader → Item
item_of More r = nothing
item_of (VariableCount count place) r = variable_count count place
item_of WholeHeading r = heading r.variables
item_of OneClause r = clause (result_unwrap_or (outcome r.draft) [])
item_of End r = whole r.variables

-- a reader's answer to a word, with its state behind it
abbrev pub told_by : Result Step TextFault → FormulaReader → Moved
told_by (Ok step) r = moves (state_of r) (item_of step r)
told_by (Err fault) r = refuses fault

-- what the next word, or the text's end, does
abbrev pub move_of : FormulaReader → Moved
move_of r = let next : At = next_of (extent_of r) (words_left r) in moved (state_of r) next.word next.place

-- a word that is refused leaves the state
abbrev pub settled : Moved → State → State
settled (refuses fault) s = s
settled (moves t item) s = t

-- a reader behind a word: its answer is the move, and a refusal leaves its state
pub record Takes (r : Result Step TextFault) (was now : FormulaReader) (move : Moved) : Type 0 where
  pub answer : told_by r now ≡ move
  pub state : state_of now ≡ settled move (state_of was)

-- a reader whose word is taken off already: it takes this move, and the same words are left of the same text
pub record MovesOn (r : Result Step TextFault) (was now : FormulaReader) (move : Moved) : Type 0 where
  pub takes : Takes r was now move
  pub words : words_left now ≡ words_left was
  pub extent : extent_of now ≡ extent_of was
