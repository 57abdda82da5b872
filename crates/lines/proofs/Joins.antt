-- The steps of a loop that adds one text after another. Assumes nothing.
use Rattle.std.proofs.Common.{◌≡◌, ℕ, ◌+◌, ◌<◌, false, List, [], ◌++◌, map, length, get_or, take, sym, ap, ◌∙◌}
use Rattle.std.specs.List.{flat_map}
use Rattle.cnf.specs.declared.literals.Literal.{Literal}
use Rattle.lines.specs.Texts.{clause_line, heading_line, formula_text}
use Rattle.std.proofs.lemmas.List.{length-map, take_more, flat_map_more}
use Rattle.std.proofs.lemmas.List.Folds.{flat_map-map}

module _ {X : Type 0} (f : X → List ℕ) where
  -- one more text
  pub joined_push : (xs : List X) (i : ℕ) (d : X) → i < length xs → flat_map f (take (i + 1) xs) ≡ flat_map f (take i xs) ++ f (get_or xs i d)
  joined_push xs i d h = ap (flat_map f) (take_more xs i d h) ∙ sym (flat_map_more f [] (take i xs) (get_or xs i d))

  -- one more text, of an element that was read
  pub joined_read : (xs : List X) (i : ℕ) (x : X) (bs : List ℕ) → i < length xs → x ≡ get_or xs i x → bs ≡ f x → flat_map f (take (i + 1) xs) ≡ flat_map f (take i xs) ++ bs
  joined_read xs i x bs h is e = joined_push xs i x h ∙ ap (λ l. flat_map f (take i xs) ++ l) (ap f (sym is) ∙ sym e)

-- what a literal past the end of a clause reads as
abbrev pub none : Literal
none = record { variable = 0; negated = false }

-- a formula of clauses that a function gives
pub formula_of : {X : Type 0} (variables : ℕ) (g : X → List Literal) (xs : List X) → formula_text variables (map g xs) ≡ heading_line variables (length xs) ++ flat_map (λ x. clause_line (g x)) xs
formula_of variables g xs =
    ap (λ n. heading_line variables n ++ flat_map clause_line (map g xs)) (length-map xs g) ∙ ap (λ l. heading_line variables (length xs) ++ l) (flat_map-map clause_line g xs)
