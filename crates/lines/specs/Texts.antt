-- The bytes of each line: one space parts words, and one line feed ends a line.
use Rattle.std.specs.Prelude.{ℕ, cond, List, ◌∷◌, ◌++◌, length, codes, decimal}
use Rattle.std.specs.List.{flat_map}
use Rattle.cnf.specs.declared.literals.Literal.{Literal}

-- `-` for a negated literal, and then its variable's number
abbrev pub literal_text : Literal → List ℕ
literal_text l = cond l.negated (45 ∷ decimal l.variable) (decimal l.variable)

-- a literal and one space
abbrev pub literal_word : Literal → List ℕ
literal_word l = literal_text l ++ codes " "

-- each literal and one space, then `0` and a line feed
abbrev pub clause_line : List Literal → List ℕ
clause_line clause = flat_map literal_word clause ++ codes "0\n"

-- a word, a number, one space and another number
abbrev pub pair_line : (word : List ℕ) (first second : ℕ) → List ℕ
pair_line word first second = word ++ decimal first ++ codes " " ++ decimal second ++ codes "\n"

-- `p cnf`, how many variables and how many clauses
abbrev pub heading_line : (variables clauses : ℕ) → List ℕ
heading_line variables clauses = pair_line (codes "p cnf ") variables clauses

-- the heading line, and then each clause's line
abbrev pub formula_text : (variables : ℕ) → List (List Literal) → List ℕ
formula_text variables clauses = heading_line variables (length clauses) ++ flat_map clause_line clauses

-- `refused`, the number of the refusal and its place
abbrev pub refusal_line : (number place : ℕ) → List ℕ
refusal_line number place = pair_line (codes "refused ") number place
