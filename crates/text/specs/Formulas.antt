-- How the words of a text read as a formula: the words p, cnf, V and C, both without a sign, and then C clauses, each its
-- literals and 0.
use Rattle.std.specs.Prelude.{ℕ, zero, suc, min, Bool, true, false, cond, ◌&&◌, List, [], ◌∷◌, length, drop, Ok, Err, Result, ◌==◌, nat_lt, slice_index}
use Rattle.cnf.specs.declared.literals.Literal.{Literal}
use Rattle.cnf.specs.Clauses.{Clause}
use Rattle.cnf.specs.Arranging.{Arrangement, joined_by}
use Rattle.words.specs.Lexis.{Shape, name, number, end, natural, is_zero}
use Rattle.words.specs.Numbers.{value}
use Rattle.words.specs.Texts.{At, words_of}
use Rattle.text.specs.declared.faults.TextFault.{TextFault}
use Rattle.text.specs.declared.faults.TextFault.TheVariants.{Word, Count, Unfinished, Clause as OfClause, Variables}

-- the word p
abbrev pub is_p : List ℕ → Bool
is_p w = length w == 1 && slice_index w 0 == 112

-- the word cnf
abbrev pub is_cnf : List ℕ → Bool
is_cnf w = length w == 3 && (slice_index w 0 == 99 && (slice_index w 1 == 110 && slice_index w 2 == 102))

-- a number in 16 bits; a larger one counts as 65,535, which is beyond every limit
abbrev pub capped : List ℕ → ℕ
capped digits = min (value digits) 65535

-- a number of clauses in 64 bits; a larger one counts as the highest of these, which no text comes to
abbrev pub counted : List ℕ → ℕ
counted digits = min (value digits) 18446744073709551615

-- the literal that a number writes
abbrev pub literal_of : List ℕ → Literal
literal_of w =
    cond (slice_index w 0 == 45) (record { variable = capped (drop 1 w); negated = true })
    (record { variable = capped w; negated = false })

-- where a reader stands
pub data State : Type 0 where
  -- before the heading
  before : State
  -- in the heading: behind p, behind cnf, and behind V
  format : State
  variables : State
  clauses : (v : ℕ) → State
  -- between clauses, of which so many are left
  between : (v left : ℕ) → State
  -- inside a clause, behind which so many are left
  inside : (v left : ℕ) → Arrangement → State

-- what a word has completed
pub data Item : Type 0 where
  nothing : Item
  -- the number of variables, which stands at this place
  variable_count : (v place : ℕ) → Item
  heading : (v : ℕ) → Item
  clause : Clause → Item
  whole : (v : ℕ) → Item

-- a reader refuses a word, or moves on: its state behind the word, and what the word has completed
pub data Moved : Type 0 where
  refuses : TextFault → Moved
  moves : State → Item → Moved

-- the literals of a clause are in range up to its highest variable, and to 512 at the most
abbrev pub joins_clause : (v left : ℕ) → Arrangement → (w : List ℕ) → (place : ℕ) → Moved
joins_clause v left a w place = moves (inside v left (joined_by (min v 512) a (literal_of w) place)) nothing

-- the closing 0
abbrev pub closes : (v left : ℕ) → Arrangement → Moved
closes v left (Ok c) = moves (between v left) (clause c)
closes v left (Err fault) = refuses (OfClause fault)

-- position and word decide together what follows
abbrev pub moved : State → Shape → (place : ℕ) → Moved
moved before (name w) place = cond (is_p w) (moves format nothing) (refuses (Word place))
moved before (number w) place = refuses (Word place)
moved before end place = refuses (Count place)
moved format (name w) place = cond (is_cnf w) (moves variables nothing) (refuses (Word place))
moved format (number w) place = refuses (Word place)
moved format end place = refuses (Count place)
moved variables (name w) place = refuses (Word place)
moved variables (number w) place =
    cond (natural w) (moves (clauses (capped w)) (variable_count (capped w) place)) (refuses (Word place))
moved variables end place = refuses (Count place)
moved (clauses v) (name w) place = refuses (Word place)
moved (clauses v) (number w) place = cond (natural w) (moves (between v (counted w)) (heading v)) (refuses (Word place))
moved (clauses v) end place = refuses (Count place)
moved (between v zero) (name w) place = refuses (Count place)
moved (between v zero) (number w) place = refuses (Count place)
moved (between v zero) end place = moves (between v zero) (whole v)
moved (between v (suc left)) (name w) place = refuses (Word place)
moved (between v (suc left)) (number w) place =
    cond (is_zero w) (closes v left (Ok [])) (joins_clause v left (Ok []) w place)
moved (between v (suc left)) end place = refuses (Count place)
moved (inside v left a) (name w) place = refuses (Word place)
moved (inside v left a) (number w) place = cond (is_zero w) (closes v left a) (joins_clause v left a w place)
moved (inside v left a) end place = refuses (Unfinished place)

-- a formula: how many variables it has, and its clauses
pub record Formula' : Type 0 where
  pub highest : ℕ
  pub all : List Clause

-- what is read of a text
abbrev pub Read : Type 0
Read = Result Formula' TextFault

-- a clause ahead of those that are read
abbrev pub with_clause : Clause → Read → Read
with_clause c (Ok f) = Ok (record { highest = f.highest; all = c ∷ f.all })
with_clause c (Err fault) = Err fault

-- a reader goes on from a move, or ends; a heading with more than 512 variables is refused once it is read
abbrev pub goes_on : Item → Read → Read
goes_on nothing on = on
goes_on (variable_count v place) on = on
goes_on (heading v) on = cond (nat_lt 512 v) (Err Variables) on
goes_on (clause c) on = with_clause c on
goes_on (whole v) on = Ok (record { highest = v; all = [] })

abbrev pub follows : Moved → (State → Read) → Read
follows (refuses fault) on = Err fault
follows (moves s item) on = goes_on item (on s)

-- what these words read as from a state on, in a text of n bytes
abbrev pub reads : (n : ℕ) → State → List At → Read
reads n s [] = follows (moved s end n) (λ t. Err (Count n))
reads n s (a ∷ more) = follows (moved s a.word a.place) (λ t. reads n t more)

-- what a text reads as
abbrev pub formula_of : (text : List ℕ) → Read
formula_of text = reads (length text) before (words_of text)
