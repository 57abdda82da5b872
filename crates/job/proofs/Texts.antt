-- The clauses that rows and literals stand for, and what a write leaves of them.
use Rattle.std.proofs.Common.{◌≡◌, ℕ, zero, suc, ◌+◌, ◌-◌, ◌<◌, ◌≤◌, true, eqb, List, [], ◌∷◌, ◌++◌, map, length, get_or, take, set, sym, refl, ap, ◌∙◌, inl, inr, arith, rules, ◌≢◌}
use lib.Seq.{paste}
use Rattle.std.proofs.lemmas.List.{ext_get_or, same_lists, places, get_or-map, get_or-take, get_or_push, get_or_append_left, length-map, length-take-le, take_more_set, map_push, length-set}
use Rattle.std.proofs.lemmas.Bool.{and_parts, eqb-true}
use Rattle.cnf.specs.declared.literals.Literal.{Literal}
use Rattle.cnf.specs.Clauses.{Clause, literals}
use Rattle.drup.proofs.Numbers.{at_most}
use Rattle.job.specs.declared.rows.ClauseRow.{ClauseRow}
use Rattle.job.specs.View.{blank_row, clause_at, texts_in, text_in}
use Rattle.job.specs.History.{down_from}
use Rattle.job.specs.Sound.{laid_to, Laid}

-- where the rows lie
pub laid_within : (rows : List ClauseRow) (n end : ℕ) → laid_to rows n end ≡ true
    → (k : ℕ) → k < n → (get_or rows k blank_row).start + (get_or rows k blank_row).len ≤ end
laid_within rows zero end e k h = absurd (omega arith)
laid_within rows (suc n) end e k h =
    let p = and_parts (eqb ((get_or rows n blank_row).start + (get_or rows n blank_row).len) end) (laid_to rows n (get_or rows n blank_row).start) e in
    let q = eqb-true ((get_or rows n blank_row).start + (get_or rows n blank_row).len) end p.0 in
    elim (at_most (suc k) n h) [
      | inl at ↦
          let same : k ≡ n = omega arith in
          rw same (omega arith)
      | inr b ↦ let below = laid_within rows n (get_or rows n blank_row).start p.1 k b in omega arith
    ]

pub laid_same : (rows rows' : List ClauseRow) (n end : ℕ)
    → ((k : ℕ) → k < n → ((get_or rows k blank_row).start ≡ (get_or rows' k blank_row).start) × ((get_or rows k blank_row).len ≡ (get_or rows' k blank_row).len))
    → laid_to rows n end ≡ laid_to rows' n end
laid_same rows rows' zero end same = refl
laid_same rows rows' (suc n) end same =
    let here = same n (omega arith) in
    let a = here.0 in
    let b = here.1 in
    let below = laid_same rows rows' n (get_or rows n blank_row).start (λ k h. same k (omega arith)) in
    let start = ap (laid_to rows' n) a in
    cc

-- the last row starts where the others end
pub laid_last : (rows : List ClauseRow) (n end : ℕ) → laid_to rows (suc n) end ≡ true
    → ((get_or rows n blank_row).start + (get_or rows n blank_row).len ≡ end) × (laid_to rows n (get_or rows n blank_row).start ≡ true)
laid_last rows n end e =
    let p = and_parts (eqb ((get_or rows n blank_row).start + (get_or rows n blank_row).len) end) (laid_to rows n (get_or rows n blank_row).start) e in
    (eqb-true ((get_or rows n blank_row).start + (get_or rows n blank_row).len) end p.0, p.1)

-- the length of a row's clause
pub length_clause : (lits : List Literal) (row : ClauseRow) → row.start + row.len ≤ length lits → length (clause_at lits row) ≡ row.len
length_clause lits row h = search (rules, places)

module _ (rows : List ClauseRow) (lits : List Literal) (c : ℕ) (room : c ≤ length rows) where
  pub length_texts : length (texts_in rows lits c) ≡ c
  length_texts = length-map (take c rows) (clause_at lits) ∙ length-take-le c rows room

  pub get_or_texts : (k : ℕ) → k < c → get_or (texts_in rows lits c) k [] ≡ clause_at lits (get_or rows k blank_row)
  get_or_texts k h =
      let e = length-take-le c rows room in
      get_or-map (clause_at lits) (take c rows) k blank_row [] (omega arith) ∙ ap (clause_at lits) (get_or-take c rows k blank_row h)

  -- the clause with a number
  pub text_at : (n : ℕ) → 1 ≤ n → n ≤ c → text_in (texts_in rows lits c) n ≡ clause_at lits (get_or rows (n - 1) blank_row)
  text_at zero low high = absurd (omega arith)
  text_at (suc k) low high =
      let e : suc k - 1 ≡ k = omega arith in
      get_or_texts k (omega arith) ∙ ap (λ (j : ℕ). clause_at lits (get_or rows j blank_row)) (sym e)

  -- the literals in use are those of the clauses
  pub laid_literals : (n end : ℕ) → n ≤ c → end ≤ length lits → laid_to rows n end ≡ true → literals (down_from (text_in (texts_in rows lits c)) n) ≡ end
  laid_literals zero end h fits e = sym (eqb-true end 0 e)
  laid_literals (suc n) end h fits e =
      let p = laid_last rows n end e in
      let q = p.0 in
      let below = laid_literals n (get_or rows n blank_row).start (omega arith) (omega arith) p.1 in
      let len = ap length (get_or_texts n h) ∙ length_clause lits (get_or rows n blank_row) (omega arith) in
      omega arith

-- rows with the same clauses
pub texts_same : (rows rows' : List ClauseRow) (lits lits' : List Literal) (c : ℕ) → c ≤ length rows → c ≤ length rows'
    → ((k : ℕ) → k < c → clause_at lits (get_or rows k blank_row) ≡ clause_at lits' (get_or rows' k blank_row))
    → texts_in rows lits c ≡ texts_in rows' lits' c
texts_same rows rows' lits lits' c room room' same =
    let e = length_texts rows lits c room in
    ext_get_or [] (texts_in rows lits c) (texts_in rows' lits' c) (e ∙ sym (length_texts rows' lits' c room'))
    (λ k h. get_or_texts rows lits c room k (omega arith) ∙ same k (omega arith) ∙ sym (get_or_texts rows' lits' c room' k (omega arith)))

-- one clause fewer
pub text_before : (rows : List ClauseRow) (lits : List Literal) (c : ℕ) → suc c ≤ length rows
    → (n : ℕ) → 1 ≤ n → n ≤ c → text_in (texts_in rows lits (suc c)) n ≡ text_in (texts_in rows lits c) n
text_before rows lits c room n low high =
    text_at rows lits (suc c) room n low (omega arith) ∙ sym (text_at rows lits c (omega arith) n low high)

-- one clause more
pub text_older : (texts : List Clause) (c : Clause) (n : ℕ) → 1 ≤ n → n ≤ length texts → text_in (texts ++ c ∷ []) n ≡ text_in texts n
text_older texts c zero low high = absurd (omega arith)
text_older texts c (suc n) low high = get_or_append_left texts (c ∷ []) [] n high

pub text_newest : (texts : List Clause) (c : Clause) (n : ℕ) → length texts ≡ n → text_in (texts ++ c ∷ []) (suc n) ≡ c
text_newest texts c n e = get_or_push texts c [] n e

-- a literal is written behind those of a row
pub clause_beyond : (lits : List Literal) (p : ℕ) (l : Literal) (row : ClauseRow) → row.start + row.len ≤ p → p < length lits
    → clause_at (set lits p l) row ≡ clause_at lits row
clause_beyond lits p l row w b =
    let e = length-set lits p l in
    let n = length_clause (set lits p l) row (omega arith) in
    same_lists _ _ (search (rules, places))
    (λ k d h. let ne : row.start + k ≢ p = omega arith in grind (arith, places))

-- literals are laid behind those of a row
module _ (lits : List Literal) (used : ℕ) (c : Clause) (fits : used + length c ≤ length lits) where
  pub clause_kept : (row : ClauseRow) → row.start + row.len ≤ used → clause_at (paste lits used c (length c)) row ≡ clause_at lits row
  clause_kept row w = same_lists _ _ (search (rules, places)) (λ k d h. grind (arith, places))

  clause_new : (row : ClauseRow) → row.start ≡ used → row.len ≡ length c → clause_at (paste lits used c (length c)) row ≡ c
  clause_new row e f = same_lists _ _ (search (rules, places)) (λ k d h. grind (arith, places))

  pub texts_entered : (rows : List ClauseRow) (clauses : ℕ) (row : ClauseRow) → clauses < length rows → Laid rows clauses used
      → row.start ≡ used → row.len ≡ length c
      → texts_in (set rows clauses row) (paste lits used c (length c)) (clauses + 1) ≡ texts_in rows lits clauses ++ c ∷ []
  texts_entered rows clauses row room laid e f =
      let g = clause_at (paste lits used c (length c)) in
      let more = ap (map g) (take_more_set rows clauses row room) ∙ map_push g (take clauses rows) row in
      let old = texts_same rows rows (paste lits used c (length c)) lits clauses (omega arith) (omega arith)
      (λ k h. clause_kept (get_or rows k blank_row) (laid_within rows clauses used laid k h)) in
      let new = clause_new row e f in
      more ∙ cc
