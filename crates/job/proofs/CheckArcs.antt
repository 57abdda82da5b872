-- Reading the rows back from the arc list.
use Rattle.std.proofs.Common.{◌≡◌, ℕ, suc, ◌+◌, ◌-◌, ◌*◌, ◌<◌, ◌≤◌, true, false, eqb, ltb, ◌⊎◌, List, [], ◌∷◌, length, get_or, replicate, sym, refl, ap, ◌∙◌, inl, inr, mul-le-mul_right, add-mul, one-mul, arith}
use mathlib.Core.List.Memᴰ
use mathlib.Core.List.Memᴰ.{cases_cons as in-cons}
use mathlib.Core.List.Memᴰ.{head as here}
use mathlib.Core.List.Memᴰ.{tail as there}
use lib.Seq.{paste}
use Rattle.std.proofs.lemmas.List.{places, get_or_past, length-replicate}
use Rattle.std.proofs.lemmas.List.Edits.{length-paste}
use Rattle.cnf.specs.Clauses.{◌∈◌}
use Rattle.drup.specs.Backward.{Row}
use Rattle.drup.specs.Reading.{numbers_at}
use Rattle.std.proofs.lemmas.Bool.{eqb-false, eqb-true, cases_Bool, ltb-true, ltb-false}
use Rattle.drup.proofs.Reading.{written_row}
use Rattle.job.specs.View.{View}
use Rattle.job.specs.CheckLists.{row_start, arcs_of}

-- a list of the same, and what a read past its end gives
pub same_there : {A : Type 0} (k i : ℕ) (x : A) → get_or (replicate k x) i x ≡ x
same_there k i x = grind (arith, places)

module _ (d : List ℕ) (at : ℕ) (xs : List ℕ) (fits : at + length xs ≤ length d) where
  paste_in : (i : ℕ) → i < length xs → get_or (paste d at xs (length xs)) (at + i) 0 ≡ get_or xs i 0
  paste_in i h = grind (arith, places)

  paste_low : (p : ℕ) → p < at → get_or (paste d at xs (length xs)) p 0 ≡ get_or d p 0
  paste_low p h = grind (arith, places)

  paste_high : (p : ℕ) → at + length xs ≤ p → get_or (paste d at xs (length xs)) p 0 ≡ get_or d p 0
  paste_high p h = grind (arith, places)

-- a row that has its places
pub record Fits (s : View) (row : Row) : Type 0 where
  pub later : s.inputs < row.lemma_number
  pub short : length row.antecedents ≤ suc s.variables
  pub room : row_start s row.lemma_number + suc s.variables ≤ length s.arcs

pub step_over : (a b w : ℕ) → a < b → a * w + w ≤ b * w
step_over a b w h =
    let p = mul-le-mul_right {m = a + 1} {n = b} w (omega arith) in
    let q = add-mul a 1 w in
    let r = one-mul w in
    omega arith

-- two lemmas' places do not meet
apart :
    (s : View) (n k i : ℕ) → s.inputs < n → s.inputs < k → (n ≡ k → ⊥) → i < suc s.variables
    → (row_start s n + i < row_start s k) ⊎ (row_start s k + suc s.variables ≤ row_start s n + i)
apart s n k i x y d h =
    elim (cases_Bool (ltb n k)) [
      | inl e ↦ inl (let l = ltb-true n k e in let p = step_over (n - suc s.inputs) (k - suc s.inputs) (suc s.variables) (omega arith) in omega arith)
      | inr e ↦ inr (let l = ltb-false n k e in let p = step_over (k - suc s.inputs) (n - suc s.inputs) (suc s.variables) (omega arith) in omega arith)
    ]

module _ (s : View) where
  pub arcs_length : (rows : List Row) → ((row : Row) → row ∈ rows → Fits s row) → length (arcs_of s rows) ≡ length s.arcs
  arcs_length [] f = length-replicate (length s.arcs) 0
  arcs_length (row ∷ rows) f =
      let h = f row (here refl) in
      let ih = arcs_length rows (λ r x. f r (there x)) in
      let a = h.short in
      let b = h.room in
      length-paste (arcs_of s rows) (row_start s row.lemma_number) row.antecedents (length row.antecedents) (omega arith) (omega arith) ∙ ih

  module _ (row : Row) (rows : List Row) (f : (r : Row) → r ∈ (row ∷ rows) → Fits s r) where
    fits_there : row_start s row.lemma_number + length row.antecedents ≤ length (arcs_of s rows)
    fits_there =
        let h = f row (here refl) in
        let a = h.short in
        let b = h.room in
        let l = arcs_length rows (λ r x. f r (there x)) in
        omega arith

    -- the places of another lemma
    elsewhere : (n i : ℕ) → s.inputs < n → i < suc s.variables → (n ≡ row.lemma_number → ⊥) → get_or (arcs_of s (row ∷ rows)) (row_start s n + i) 0 ≡ get_or (arcs_of s rows) (row_start s n + i) 0
    elsewhere n i later h d =
        let a = (f row (here refl)).short in
        elim (apart s n row.lemma_number i later (f row (here refl)).later d h) [
          | inl l ↦ paste_low (arcs_of s rows) (row_start s row.lemma_number) row.antecedents fits_there (row_start s n + i) l
          | inr l ↦ paste_high (arcs_of s rows) (row_start s row.lemma_number) row.antecedents fits_there (row_start s n + i) (omega arith)
        ]

    own_low : (i : ℕ) → i < length row.antecedents → get_or (arcs_of s (row ∷ rows)) (row_start s row.lemma_number + i) 0 ≡ get_or row.antecedents i 0
    own_low i h = paste_in (arcs_of s rows) (row_start s row.lemma_number) row.antecedents fits_there i h

    own_high : (i : ℕ) → length row.antecedents ≤ i → get_or (arcs_of s (row ∷ rows)) (row_start s row.lemma_number + i) 0 ≡ get_or (arcs_of s rows) (row_start s row.lemma_number + i) 0
    own_high i h = paste_high (arcs_of s rows) (row_start s row.lemma_number) row.antecedents fits_there (row_start s row.lemma_number + i) (omega arith)

  -- where all rows of a lemma are the same, its places hold that row or nothing
  row_or_none :
      (rows : List Row) → ((r : Row) → r ∈ rows → Fits s r) → (n i : ℕ) (xs : List ℕ) → s.inputs < n → i < suc s.variables
      → ((r : Row) → r ∈ rows → r.lemma_number ≡ n → r.antecedents ≡ xs)
      → (get_or (arcs_of s rows) (row_start s n + i) 0 ≡ get_or xs i 0) ⊎ (get_or (arcs_of s rows) (row_start s n + i) 0 ≡ 0)
  row_or_none [] f n i xs later h same = inr (same_there (length s.arcs) (row_start s n + i) 0)
  row_or_none (row ∷ rows) f n i xs later h same =
      go (row_or_none rows (λ r x. f r (there x)) n i xs later h (λ r x. same r (there x))) (cases_Bool (eqb n row.lemma_number)) (cases_Bool (ltb i (length row.antecedents)))
    where
      at : n ≡ row.lemma_number → row_start s n + i ≡ row_start s row.lemma_number + i
      at e = ap (λ (k : ℕ). row_start s k + i) e

      go :
          (get_or (arcs_of s rows) (row_start s n + i) 0 ≡ get_or xs i 0) ⊎ (get_or (arcs_of s rows) (row_start s n + i) 0 ≡ 0)
          → (eqb n row.lemma_number ≡ true) ⊎ (eqb n row.lemma_number ≡ false)
          → (ltb i (length row.antecedents) ≡ true) ⊎ (ltb i (length row.antecedents) ≡ false)
          → (get_or (arcs_of s (row ∷ rows)) (row_start s n + i) 0 ≡ get_or xs i 0) ⊎ (get_or (arcs_of s (row ∷ rows)) (row_start s n + i) 0 ≡ 0)
      go ih (inr d) low =
          let e = elsewhere row rows f n i later h (eqb-false n row.lemma_number d) in
          elim ih [ inl p ↦ inl (e ∙ p) | inr p ↦ inr (e ∙ p) ]
      go ih (inl e) (inl l) =
          let q = eqb-true n row.lemma_number e in
          inl (ap (λ (p : ℕ). get_or (arcs_of s (row ∷ rows)) p 0) (at q) ∙ own_low row rows f i (ltb-true i (length row.antecedents) l)
          ∙ ap (λ (ys : List ℕ). get_or ys i 0) (same row (here refl) (sym q)))
      go ih (inl e) (inr l) =
          let q = eqb-true n row.lemma_number e in
          let z = ap (λ (p : ℕ). get_or (arcs_of s (row ∷ rows)) p 0) (at q) ∙ own_high row rows f i (ltb-false i (length row.antecedents) l) ∙ ap (λ (p : ℕ). get_or (arcs_of s rows) p 0) (sym (at q)) in
          elim ih [ inl p ↦ inl (z ∙ p) | inr p ↦ inr (z ∙ p) ]

  -- the places of a recorded lemma hold its row, and zeros behind it
  pub row_there :
      (rows : List Row) → ((r : Row) → r ∈ rows → Fits s r) → (n i : ℕ) (xs : List ℕ) → s.inputs < n → i < suc s.variables
      → ((r : Row) → r ∈ rows → r.lemma_number ≡ n → r.antecedents ≡ xs) → (row : Row) → row ∈ rows → row.lemma_number ≡ n
      → get_or (arcs_of s rows) (row_start s n + i) 0 ≡ get_or xs i 0
  row_there [] f n i xs later h same row x e = absurd (Memᴰ.not-nil x)
  row_there (r ∷ rows) f n i xs later h same row x e =
      go (cases_Bool (eqb n r.lemma_number)) (cases_Bool (ltb i (length r.antecedents))) (row_or_none rows (λ q y. f q (there y)) n i xs later h (λ q y. same q (there y))) (in-cons x)
      (λ m. row_there rows (λ q y. f q (there y)) n i xs later h (λ q y. same q (there y)) row m e)
    where
      at : n ≡ r.lemma_number → row_start s n + i ≡ row_start s r.lemma_number + i
      at p = ap (λ (k : ℕ). row_start s k + i) p

      its : n ≡ r.lemma_number → r.antecedents ≡ xs
      its p = same r (here refl) (sym p)

      go :
          (eqb n r.lemma_number ≡ true) ⊎ (eqb n r.lemma_number ≡ false)
          → (ltb i (length r.antecedents) ≡ true) ⊎ (ltb i (length r.antecedents) ≡ false)
          → (get_or (arcs_of s rows) (row_start s n + i) 0 ≡ get_or xs i 0) ⊎ (get_or (arcs_of s rows) (row_start s n + i) 0 ≡ 0)
          → (row ≡ r) ⊎ (row ∈ rows)
          → (row ∈ rows → get_or (arcs_of s rows) (row_start s n + i) 0 ≡ get_or xs i 0)
          → get_or (arcs_of s (r ∷ rows)) (row_start s n + i) 0 ≡ get_or xs i 0
      go (inl p) (inl l) o m ih =
          let q = eqb-true n r.lemma_number p in
          ap (λ (j : ℕ). get_or (arcs_of s (r ∷ rows)) j 0) (at q) ∙ own_low r rows f i (ltb-true i (length r.antecedents) l) ∙ ap (λ (ys : List ℕ). get_or ys i 0) (its q)
      go (inl p) (inr l) o m ih =
          let q = eqb-true n r.lemma_number p in
          let b = ltb-false i (length r.antecedents) l in
          let z = ap (λ (j : ℕ). get_or (arcs_of s (r ∷ rows)) j 0) (at q) ∙ own_high r rows f i b ∙ ap (λ (j : ℕ). get_or (arcs_of s rows) j 0) (sym (at q)) in
          let past : get_or xs i 0 ≡ 0 = get_or_past xs i 0 (let y = ap length (its q) in omega arith) in
          elim o [ inl u ↦ z ∙ u | inr u ↦ z ∙ u ∙ sym past ]
      go (inr d) l o (inl m) ih = absurd (eqb-false n r.lemma_number d (sym e ∙ ap (λ (q : Row). q.lemma_number) m))
      go (inr d) l o (inr m) ih =
          elsewhere r rows f n i later h (eqb-false n r.lemma_number d) ∙ ih m

  -- the row is read back
  pub row_read :
      (rows : List Row) (row : Row) → ((r : Row) → r ∈ rows → Fits s r) → ((r : Row) → r ∈ rows → r.lemma_number ≡ row.lemma_number → r ≡ row) → row ∈ rows
      → ((k : ℕ) → k ∈ row.antecedents → 1 ≤ k)
      → numbers_at (arcs_of s rows) (row_start s row.lemma_number) (suc s.variables) ≡ row.antecedents
  row_read rows row f only x low =
      let t = f row x in
      let each = λ (i : ℕ) (h : i < suc s.variables). row_there rows f row.lemma_number i row.antecedents t.later h (λ r y e. ap (λ (q : Row). q.antecedents) (only r y e)) row x refl in
      written_row (arcs_of s rows) (row_start s row.lemma_number) (suc s.variables) row.antecedents t.short low
      (λ i h. let b = t.short in each i (omega arith))
      (λ h. each (length row.antecedents) h ∙ get_or_past row.antecedents (length row.antecedents) 0 (omega arith))
