-- DIMACS by its grammar: which words make a formula. Places don't matter here.
use Rattle.std.specs.Prelude.{◌≡◌, ℕ, ◌^◌, ◌<◌, ◌≤◌, true, false, List, [], ◌∷◌, map, length, Ok}
use Rattle.cnf.specs.declared.literals.Literal.{Literal}
use Rattle.cnf.specs.Clauses.{Clause}
use Rattle.cnf.specs.Arranging.{beyond, twice, arranged}
use Rattle.words.specs.Lexis.{Shape, name, number, natural, is_zero}
use Rattle.words.specs.Numbers.{value}
use Rattle.words.specs.Texts.{At, words_of}
use Rattle.text.specs.Formulas.{is_p, is_cnf, literal_of, between, Formula', reads, formula_of}
use Rattle.text.specs.Round.{StandardRead}

-- the words of a text, without their places
abbrev pub shapes : List At → List Shape
shapes ws = map (λ (a : At). a.word) ws

-- these words are numbers that write the literals, then the word 0, and then the rest
abbrev pub ClauseWords : List Shape → List Literal → (rest : List Shape) → Type 0
ClauseWords ws [] rest = (w : List ℕ) × (is_zero w ≡ true) × (ws ≡ number w ∷ rest)
ClauseWords ws (l ∷ ls) rest =
    (w : List ℕ) × (more : List Shape)
    × (is_zero w ≡ false) × (literal_of w ≡ l) × (ws ≡ number w ∷ more) × ClauseWords more ls rest

-- these words are just those of the clauses: the literals of each are in range, no variable twice, in any order
abbrev pub ClausesWords : (v : ℕ) → List Shape → List Clause → Type 0
ClausesWords v ws [] = ws ≡ []
ClausesWords v ws (c ∷ cs) =
    (ls : List Literal) × (rest : List Shape)
    × ClauseWords ws ls rest × (beyond v ls ≡ false) × (twice ls ≡ false) × (arranged ls ≡ c) × ClausesWords v rest cs

-- these words are p, cnf, the number of variables, the number of clauses, and then the clauses
pub record FormulaWords (ws : List Shape) (f : Formula') : Type 0 where
  pub p : List ℕ
  pub cnf : List ℕ
  pub v : List ℕ
  pub c : List ℕ
  pub body : List Shape
  pub says_p : is_p p ≡ true
  pub says_cnf : is_cnf cnf ≡ true
  pub v_unsigned : natural v ≡ true
  pub c_unsigned : natural c ≡ true
  pub all_words : ws ≡ name p ∷ name cnf ∷ number v ∷ number c ∷ body
  pub variables : value v ≡ f.highest
  pub few : f.highest ≤ 512
  pub count : value c ≡ length f.all
  pub clauses : ClausesWords f.highest body f.all

-- a text reads as a formula exactly when its words make that formula
abbrev pub ReadByGrammar : Type 0
ReadByGrammar =
    (text : List ℕ) (f : Formula') → length text < 2 ^ 64
    → (formula_of text ≡ Ok f → FormulaWords (shapes (words_of text)) f)
    × (FormulaWords (shapes (words_of text)) f → formula_of text ≡ Ok f)

-- whatever a text reads as is in standard form
abbrev pub ReadInStandardForm : Type 0
ReadInStandardForm = (text : List ℕ) → StandardRead (formula_of text)

-- a number of clauses beyond the number of words reads like any other such number
abbrev pub HugeCountsReadAlike : Type 0
HugeCountsReadAlike =
    (n v k j : ℕ) (ws : List At) → length ws < k → length ws < j → reads n (between v k) ws ≡ reads n (between v j) ws
