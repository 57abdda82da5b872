-- How a reader of formulas moves.
use Rattle.std.proofs.Common.{◌≡◌, ℕ, zero, suc, ◌-◌, ◌<◌, Bool, true, false, cond, List, [], ◌∷◌, ◌++◌, length, Ok, Err, sym, refl, ap, ◌∙◌, append_assoc, arith}
use Rattle.std.proofs.lemmas.Bool.{both_ways}
use Rattle.cnf.specs.Clauses.{Clause}
use Rattle.words.specs.Lexis.{number, end, is_zero}
use Rattle.words.specs.Texts.{At, next_of, rest_of}
use Rattle.text.specs.Formulas.{State, before, format, variables, clauses, between, inside, Item, nothing, variable_count, heading, clause, whole, Moved, refuses, moves, moved, closes, joins_clause, Read, with_clause, goes_on, follows, reads}
use Rattle.text.specs.Memory.{with_clauses}
use Rattle.text.specs.Readers.{settled}

-- a clause begins: from between clauses as from inside an empty one
pub begins : (v n : ℕ) (w : List ℕ) (place : ℕ) → 0 < n → moved (inside v (n - 1) (Ok [])) (number w) place ≡ moved (between v n) (number w) place
begins v zero w place some = absurd (omega arith)
begins v (suc n) w place some =
    let same : suc n - 1 ≡ n = omega arith in ap (λ k. moved (inside v k (Ok [])) (number w) place) same

-- the first word of a clause is not refused, if it is a number
pub begins_settled : (v n : ℕ) (w : List ℕ) (place : ℕ) (s t : State)
    → settled (moved (inside v n (Ok [])) (number w) place) s ≡ settled (moved (inside v n (Ok [])) (number w) place) t
begins_settled v n w place s t = go (is_zero w)
  where
    go : (b : Bool) → settled (cond b (closes v n (Ok [])) (joins_clause v n (Ok []) w place)) s ≡ settled (cond b (closes v n (Ok [])) (joins_clause v n (Ok []) w place)) t
    go true = refl
    go false = refl

-- the next word, or the text's end, decides how the words read
pub reads_step : (n : ℕ) (s : State) (ws : List At)
    → reads n s ws ≡ follows (moved s (next_of n ws).word (next_of n ws).place) (λ t. reads n t (rest_of ws))
reads_step n s (a ∷ more) = refl
reads_step n before [] = refl
reads_step n format [] = refl
reads_step n variables [] = refl
reads_step n (clauses v) [] = refl
reads_step n (between v zero) [] = refl
reads_step n (between v (suc left)) [] = refl
reads_step n (inside v left a) [] = refl

-- the text's end completes the text or nothing
abbrev pub is_whole : Item → Bool
is_whole nothing = false
is_whole (variable_count v place) = false
is_whole (heading v) = false
is_whole (clause c) = false
is_whole (whole v) = true

abbrev ends_well : Moved → Bool
ends_well (refuses fault) = true
ends_well (moves s item) = is_whole item

end_whole : (s : State) (n : ℕ) → ends_well (moved s end n) ≡ true
end_whole before n = refl
end_whole format n = refl
end_whole variables n = refl
end_whole (clauses v) n = refl
end_whole (between v zero) n = refl
end_whole (between v (suc left)) n = refl
end_whole (inside v left a) n = refl

-- a word that completes less than the text is there
pub word_there : (n : ℕ) (s t : State) (ws : List At) (item : Item)
    → moves t item ≡ moved s (next_of n ws).word (next_of n ws).place → is_whole item ≡ false → length (rest_of ws) < length ws
word_there n s t (a ∷ more) item e less = omega arith
word_there n s t [] item e less = absurd (both_ways (is_whole item) less (ap ends_well e ∙ end_whole s n))

-- clauses that were read go ahead of the others
pub with_none : (r : Read) → with_clauses [] r ≡ r
with_none (Ok f) = refl
with_none (Err fault) = refl

pub with_more : (cs : List Clause) (c : Clause) (r : Read) → with_clauses cs (with_clause c r) ≡ with_clauses (cs ++ c ∷ []) r
with_more cs c (Ok f) = ap (λ (l : List Clause). Ok (record { highest = f.highest; all = l })) (sym (append_assoc cs (c ∷ []) f.all))
with_more cs c (Err fault) = refl

-- what is read stays the same over a move
pub move_reads : (cs : List Clause) (n m : ℕ) (s t : State) (ws us : List At) (item : Item) (read : Read)
    → moves t item ≡ moved s (next_of n ws).word (next_of n ws).place → m ≡ n → us ≡ rest_of ws
    → with_clauses cs (reads n s ws) ≡ read → with_clauses cs (goes_on item (reads m t us)) ≡ read
move_reads cs n m s t ws us item read e same rest was =
    ap (λ k. with_clauses cs (goes_on item (reads k t us))) same
    ∙ ap (λ l. with_clauses cs (goes_on item (reads n t l))) rest
    ∙ ap (λ o. with_clauses cs (follows o (λ u. reads n u (rest_of ws)))) e
    ∙ ap (with_clauses cs) (sym (reads_step n s ws))
    ∙ was
