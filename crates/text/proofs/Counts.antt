-- A number of clauses beyond the number of words reads like any other such number.
use Rattle.std.proofs.Common.{◌≡◌, ℕ, zero, suc, ◌<◌, cond, List, [], ◌∷◌, length, Ok, refl, arith}
use Rattle.cnf.specs.Arranging.{Arrangement}
use Rattle.words.specs.Lexis.{Shape, name, number, end, is_zero}
use Rattle.words.specs.Texts.{At}
use Rattle.text.specs.Formulas.{between, inside, moved, closes, joins_clause, follows, reads}
use Rattle.text.specs.Grammar.{HugeCountsReadAlike}

-- a number inside a clause
number_alike : (n v k j : ℕ) (a : Arrangement) (w : List ℕ) (place : ℕ) (more : List At)
    → reads n (between v k) more ≡ reads n (between v j) more
    → ((b : Arrangement) → reads n (inside v k b) more ≡ reads n (inside v j b) more)
    → follows (cond (is_zero w) (closes v k a) (joins_clause v k a w place)) (λ t. reads n t more)
    ≡ follows (cond (is_zero w) (closes v j a) (joins_clause v j a w place)) (λ t. reads n t more)
number_alike n v k j a w place more after on = grind (arith, after, on)

-- between clauses, and inside one
alike : (n v k j : ℕ) (ws : List At) → length ws < k → length ws < j
    → (reads n (between v k) ws ≡ reads n (between v j) ws) × ((a : Arrangement) → reads n (inside v k a) ws ≡ reads n (inside v j a) ws)
alike n v zero j ws h i = absurd (omega arith)
alike n v (suc k) zero ws h i = absurd (omega arith)
alike n v (suc k) (suc j) [] h i = (refl, λ a. refl)
alike n v (suc k) (suc j) (x ∷ more) h i =
    let fewer = alike n v k j more (omega arith) (omega arith) in
    let same = alike n v (suc k) (suc j) more (omega arith) (omega arith) in
    (begun x.word fewer.0 fewer.1, λ a. within x.word a same.0 same.1)
  where
    begun : (s : Shape) → reads n (between v k) more ≡ reads n (between v j) more
        → ((b : Arrangement) → reads n (inside v k b) more ≡ reads n (inside v j b) more)
        → follows (moved (between v (suc k)) s x.place) (λ t. reads n t more) ≡ follows (moved (between v (suc j)) s x.place) (λ t. reads n t more)
    begun (name w) p q = refl
    begun (number w) p q = number_alike n v k j (Ok []) w x.place more p q
    begun end p q = refl

    within : (s : Shape) (a : Arrangement) → reads n (between v (suc k)) more ≡ reads n (between v (suc j)) more
        → ((b : Arrangement) → reads n (inside v (suc k) b) more ≡ reads n (inside v (suc j) b) more)
        → follows (moved (inside v (suc k) a) s x.place) (λ t. reads n t more) ≡ follows (moved (inside v (suc j) a) s x.place) (λ t. reads n t more)
    within (name w) a p q = refl
    within (number w) a p q = number_alike n v (suc k) (suc j) a w x.place more p q
    within end a p q = refl

pub huge_counts : HugeCountsReadAlike
huge_counts n v k j ws h i = (alike n v k j ws h i).0
