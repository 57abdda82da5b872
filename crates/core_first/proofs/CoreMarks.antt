-- The marks of two sides together.
use Rattle.std.proofs.Common.{◌≡◌, ℕ, zero, suc, ◌-◌, ◌≤◌, Bool, true, false, ◌||◌, ◌⊎◌, List, [], ◌∷◌, ◌++◌, length, get_or, set, sym, refl, ap, ◌∙◌, inl, inr, ⊎_elim, arith}
use Rattle.std.proofs.lemmas.Bool.{both_ways, cases_eq}
use Rattle.std.proofs.lemmas.List.{get_or-set_same, get_or-set_other, set-get_or}
use Rattle.engine.specs.Meaning.{mark_in}
use Rattle.core_first.specs.Core.{either}

set_off : (xs : List Bool) (i : ℕ) → get_or (set xs i false) i false ≡ false
set_off [] i = refl
set_off (x ∷ xs) zero = refl
set_off (x ∷ xs) (suc i) = set_off xs i

-- marks that are set in both
pub either_set : (xs ys : List Bool) (i : ℕ) (x y : Bool) → either (set xs i x) (set ys i y) ≡ set (either xs ys) i (x || y)
either_set [] ys i x y = refl
either_set (a ∷ xs) [] zero x y = refl
either_set (a ∷ xs) [] (suc i) x y = refl
either_set (a ∷ xs) (b ∷ ys) zero x y = refl
either_set (a ∷ xs) (b ∷ ys) (suc i) x y = ap (λ (vs : List Bool). (a || b) ∷ vs) (either_set xs ys i x y)

-- a text more, which is off in both
pub either_push : (xs ys : List Bool) → length xs ≡ length ys → either (xs ++ false ∷ []) (ys ++ false ∷ []) ≡ either xs ys ++ false ∷ []
either_push [] [] h = refl
either_push [] (y ∷ ys) h = absurd (omega arith)
either_push (x ∷ xs) [] h = absurd (omega arith)
either_push (x ∷ xs) (y ∷ ys) h = ap (λ (vs : List Bool). (x || y) ∷ vs) (either_push xs ys (omega arith))

get_or_either : (xs ys : List Bool) (i : ℕ) → length xs ≡ length ys → get_or (either xs ys) i false ≡ (get_or xs i false || get_or ys i false)
get_or_either [] [] i h = refl
get_or_either [] (y ∷ ys) i h = absurd (omega arith)
get_or_either (x ∷ xs) [] i h = absurd (omega arith)
get_or_either (x ∷ xs) (y ∷ ys) zero h = refl
get_or_either (x ∷ xs) (y ∷ ys) (suc i) h = get_or_either xs ys i (omega arith)

pub mark_either : (xs ys : List Bool) (n : ℕ) → length xs ≡ length ys → mark_in (either xs ys) n ≡ (mark_in xs n || mark_in ys n)
mark_either xs ys zero h = refl
mark_either xs ys (suc k) h = get_or_either xs ys k h

-- a mark by its number, and by its place
at_number : (xs : List Bool) (n : ℕ) → 1 ≤ n → mark_in xs n ≡ get_or xs (n - 1) false
at_number xs zero h = absurd (omega arith)
at_number xs (suc k) h = let back : k ≡ suc k - 1 = omega arith in ap (λ (j : ℕ). get_or xs j false) back

pub same_mark : (xs : List Bool) (n : ℕ) (b : Bool) → 1 ≤ n → mark_in xs n ≡ b → set xs (n - 1) b ≡ xs
same_mark xs n b h e = ap (set xs (n - 1)) (sym e ∙ at_number xs n h) ∙ set-get_or xs (n - 1) false

pub on_there : (xs : List Bool) (n : ℕ) → 1 ≤ n → n ≤ length xs → mark_in (set xs (n - 1) true) n ≡ true
on_there xs n low high = at_number (set xs (n - 1) true) n low ∙ get_or-set_same xs (n - 1) true false (omega arith)

other_mark : (xs : List Bool) (n k : ℕ) (b : Bool) → 1 ≤ n → (k ≡ n → ⊥) → mark_in (set xs (n - 1) b) k ≡ mark_in xs k
other_mark xs n zero b low d = refl
other_mark xs n (suc k) b low d = get_or-set_other xs (n - 1) k b false (λ e. d (omega arith))

-- what is on after a text was turned off, or on
pub left_on : (xs : List Bool) (n k : ℕ) → 1 ≤ n → mark_in (set xs (n - 1) false) k ≡ true → (k ≡ n → ⊥) × (mark_in xs k ≡ true)
left_on xs n k low o =
    let other : k ≡ n → ⊥ = λ e. both_ways (mark_in (set xs (n - 1) false) n) (at_number (set xs (n - 1) false) n low ∙ set_off xs (n - 1)) (ap (λ (j : ℕ). mark_in (set xs (n - 1) false) j) (sym e) ∙ o) in
    (other, sym (other_mark xs n k false low other) ∙ o)

pub new_on : (xs : List Bool) (n k : ℕ) → 1 ≤ n → mark_in (set xs (n - 1) true) k ≡ true → (k ≡ n) ⊎ (mark_in xs k ≡ true)
new_on xs n k low o = ⊎_elim (λ e. inl e) (λ d. inr (sym (other_mark xs n k true low d) ∙ o)) (cases_eq k n)
