-- Marks: a truth value for each number, and what the marked numbers pick out of a job.
use Rattle.std.specs.Prelude.{ℕ, suc, Bool, cond, ◌||◌, List, [], ◌∷◌, length, ◌==◌}
use Rattle.std.specs.List.{list_any}
use Rattle.cnf.specs.Clauses.{Clause}
use Rattle.drup.specs.History.{Step, learned, struck, next_number}

-- which clauses are kept, by number
abbrev pub Marks : Type 0
Marks = ℕ → Bool

-- n is among these numbers
abbrev pub has : List ℕ → (n : ℕ) → Bool
has ks n = list_any (λ k. n == k) ks

-- only the number k is marked
abbrev pub lone : (k : ℕ) → Marks
lone k = λ n. (n == k)

-- these numbers are marked too
abbrev pub marked : List ℕ → Marks → Marks
marked numbers kept = λ n. has numbers n || kept n

-- the clauses of a table whose numbers are marked
abbrev pub sieved : Marks → List Clause → List Clause
sieved kept [] = []
sieved kept (c ∷ cs) = cond (kept (suc (length cs))) (c ∷ sieved kept cs) (sieved kept cs)

-- the kept lemmas
abbrev pub kept_lemmas : Marks → (inputs : List Clause) → List Step → List Clause
kept_lemmas kept inputs [] = []
kept_lemmas kept inputs (learned c ∷ earlier) =
    cond (kept (next_number inputs earlier)) (c ∷ kept_lemmas kept inputs earlier) (kept_lemmas kept inputs earlier)
kept_lemmas kept inputs (struck n ∷ earlier) = kept_lemmas kept inputs earlier

-- the numbers of the kept lemmas, rising, and then these later ones
abbrev pub lemma_numbers : Marks → (inputs : List Clause) → List Step → (later : List ℕ) → List ℕ
lemma_numbers kept inputs [] later = later
lemma_numbers kept inputs (learned c ∷ earlier) later =
    lemma_numbers kept inputs earlier (cond (kept (next_number inputs earlier)) (next_number inputs earlier ∷ later) later)
lemma_numbers kept inputs (struck n ∷ earlier) later = lemma_numbers kept inputs earlier later
