-- Numbers of clauses: a number has a text, a text a number, and marks sieve a table.
use Rattle.std.proofs.Common.{◌≡◌, ℕ, suc, ◌+◌, ◌≤◌, Bool, true, false, cond, eqb, ◌⊎◌, List, [], ◌∷◌, ◌++◌, length, sym, refl, ap, ◌∙◌, subst, inl, inr, arith}
use mathlib.Core.List.Memᴰ.{cases_cons as in-cons}
use mathlib.Core.List.Memᴰ.{head as here}
use mathlib.Core.List.Memᴰ.{tail as there}
use Rattle.std.proofs.lemmas.Bool.{cases_Bool, eq-eqb, eqb-false, eqb-true, ne_eqb, or_cases, or_right}
use Rattle.std.specs.Cmp.{both_ways}
use Rattle.cnf.proofs.Passing.{any_passes, some_passes}
use Rattle.cnf.specs.Clauses.{Clause, ◌∈◌, literals}
use Rattle.drup.specs.History.{Step, learned, struck, table, text}
use Rattle.drup.specs.Marks.{Marks, has, marked, sieved}

-- a number up to the next is the next or lower
pub at_most : (n k : ℕ) → n ≤ suc k → (n ≡ suc k) ⊎ (n ≤ k)
at_most n k h =
    elim (cases_Bool (eqb n (suc k))) [
      | inl e ↦ inl (eqb-true n (suc k) e)
      | inr e ↦ inr (let d = eqb-false n (suc k) e in omega arith)
    ]

-- the newest clause has the highest number
pub text_newest : (c : Clause) (cs : List Clause) → text (c ∷ cs) (suc (length cs)) ≡ c
text_newest c cs = rw (eq-eqb (suc (length cs)) (suc (length cs)) refl)

-- an older number has the text that it had
pub text_older : (c : Clause) (cs : List Clause) (n : ℕ) → n ≤ length cs → text (c ∷ cs) n ≡ text cs n
text_older c cs n h = rw (ne_eqb n (suc (length cs)) (λ e. omega arith))

-- what a number names stands in the table
pub text_in_table : (cs : List Clause) (n : ℕ) → 1 ≤ n → n ≤ length cs → text cs n ∈ cs
text_in_table [] n low high = absurd (omega arith)
text_in_table (c ∷ cs) n low high =
    elim (at_most n (length cs) high) [
      | inl e ↦ here (ap (text (c ∷ cs)) e ∙ text_newest c cs)
      | inr h ↦ rw (text_older c cs n h) (there (text_in_table cs n low h))
    ]

-- what stands in the table has a number
pub number_of : {c : Clause} {cs : List Clause} → c ∈ cs → (n : ℕ) × (1 ≤ n) × (n ≤ length cs) × (text cs n ≡ c)
number_of (here {x = d} {xs = cs} e) = (suc (length cs), omega arith, omega arith, text_newest d cs ∙ sym e)
number_of (there {x = d} {xs = cs} m) =
    let r = number_of m in
    (r.0, r.1, omega arith, text_older d cs r.0 r.2 ∙ r.3)

-- steps add clauses and take none away
pub table_grows :
    (inputs : List Clause) (later earlier : List Step) → length (table inputs earlier) ≤ length (table inputs (later ++ earlier))
table_grows inputs [] earlier = omega arith
table_grows inputs (learned c ∷ later) earlier = let h = table_grows inputs later earlier in omega arith
table_grows inputs (struck n ∷ later) earlier = table_grows inputs later earlier

-- the test of a list of numbers is right
pub has_true : (ks : List ℕ) (n : ℕ) → has ks n ≡ true → n ∈ ks
has_true ks n e = let r = some_passes (λ k. eqb n k) ks e in subst (λ k. k ∈ ks) (sym (eqb-true n r.0 r.2)) r.1

pub in_has : {n : ℕ} {ks : List ℕ} → n ∈ ks → has ks n ≡ true
in_has {n} m = any_passes (λ k. eqb n k) m (eq-eqb n n refl)

module _ (ks : List ℕ) (kept : Marks) (n : ℕ) where
  -- a number of the list is marked
  pub marked_row : n ∈ ks → marked ks kept n ≡ true
  marked_row m = rw (in_has m)

  -- what was marked stays so
  pub marked_stays : kept n ≡ true → marked ks kept n ≡ true
  marked_stays e = rw e (or_right (has ks n) true refl)

  -- nothing else is marked
  pub marked_cases : marked ks kept n ≡ true → (n ∈ ks) ⊎ (kept n ≡ true)
  marked_cases e = elim (or_cases (has ks n) (kept n) e) [ inl h ↦ inl (has_true ks n h) | inr k ↦ inr k ]

  -- a number that is not in the list keeps its mark
  pub marked_same : (n ∈ ks → ⊥) → marked ks kept n ≡ kept n
  marked_same out = elim (cases_Bool (has ks n)) [ inl h ↦ absurd (out (has_true ks n h)) | inr h ↦ rw h refl ]

-- marks on the same numbers are equal
pub same_marks : (a b : Marks) → ((n : ℕ) → a n ≡ true → b n ≡ true) → ((n : ℕ) → b n ≡ true → a n ≡ true) → a ≡ b
same_marks a b f g = λ i n. both_ways (a n) (b n) (f n) (g n) i

-- a kept clause stays in the sieved table
pub text_sieved :
    (kept : Marks) (cs : List Clause) (n : ℕ) → 1 ≤ n → n ≤ length cs → kept n ≡ true → text cs n ∈ sieved kept cs
text_sieved kept [] n low high k = absurd (omega arith)
text_sieved kept (c ∷ cs) n low high k =
    elim (at_most n (length cs) high) [
      | inl e ↦ rw (ap (text (c ∷ cs)) e ∙ text_newest c cs) (rw (ap kept (sym e) ∙ k) (here refl))
      | inr h ↦ rw (text_older c cs n h) (kept_on (kept (suc (length cs))) (text_sieved kept cs n low h k))
    ]
  where
    kept_on : (b : Bool) → text cs n ∈ sieved kept cs → text cs n ∈ cond b (c ∷ sieved kept cs) (sieved kept cs)
    kept_on true r = there r
    kept_on false r = r

-- what is sieved was there
pub sieved_drawn : (kept : Marks) (cs : List Clause) (c : Clause) → c ∈ sieved kept cs → c ∈ cs
sieved_drawn kept [] c m = m
sieved_drawn kept (d ∷ cs) c m = go (kept (suc (length cs))) (sieved_drawn kept cs c) m
  where
    go : (b : Bool) → (c ∈ sieved kept cs → c ∈ cs) → c ∈ cond b (d ∷ sieved kept cs) (sieved kept cs) → c ∈ (d ∷ cs)
    go true below m' = elim (in-cons m') [ inl e ↦ here e | inr n ↦ there (below n) ]
    go false below m' = there (below m')

-- a sieve adds no clause and no literal
pub sieved_length : (kept : Marks) (cs : List Clause) → length (sieved kept cs) ≤ length cs
sieved_length kept [] = omega arith
sieved_length kept (c ∷ cs) = go (kept (suc (length cs))) (sieved_length kept cs)
  where
    go : (b : Bool) → length (sieved kept cs) ≤ length cs → length (cond b (c ∷ sieved kept cs) (sieved kept cs)) ≤ suc (length cs)
    go true h = omega arith
    go false h = omega arith

pub sieved_literals : (kept : Marks) (cs : List Clause) → literals (sieved kept cs) ≤ literals cs
sieved_literals kept [] = omega arith
sieved_literals kept (c ∷ cs) = go (kept (suc (length cs))) (sieved_literals kept cs)
  where
    go :
        (b : Bool) → literals (sieved kept cs) ≤ literals cs
        → literals (cond b (c ∷ sieved kept cs) (sieved kept cs)) ≤ length c + literals cs
    go true h = omega arith
    go false h = omega arith
