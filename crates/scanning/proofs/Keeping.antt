-- The rows and places of a scanning engine: what is read there, and what is written.
use Rattle.std.proofs.Common.{◌≡◌, ℕ, zero, suc, ◌+◌, ◌-◌, ◌<◌, ◌≤◌, Bool, false, List, [], ◌∷◌, ◌++◌, map, length, get_or, take, drop, set, sym, refl, ap, ◌∙◌, arith}
use mathlib.Core.Path.{subst₃}
use Rattle.std.specs.List.{list_all}
use Rattle.std.proofs.lemmas.Bool.{and_from}
use Rattle.std.proofs.lemmas.Grind.{common_steps}
use Rattle.std.proofs.lemmas.List.Folds.{list_all-append}
use Rattle.std.proofs.lemmas.Slice.{take-put_mid_below, between-put_mid}
use borrow.Rule.Slice.PartMut.{put_mid}
use Rattle.std.proofs.lemmas.List.{length-append, length-map, length-take-le, length-drop, take_more_set, drop-take, take-take, get_or-map, get_or-take, map_push}
use Rattle.cnf.specs.declared.literals.Literal.{Literal}
use Rattle.cnf.specs.Clauses.{Clause, IsClause, literals}
use Rattle.cnf.specs.Ascending.{ascending}
use Rattle.cnf.proofs.Rising.{clause_ascending}
use Rattle.engine.specs.Meaning.{highest, text_in, mark_in}
use Rattle.engine.proofs.Keeping.{literals_push}
use Rattle.engine.specs.Looks.{text_at}
use Rattle.scanning.specs.declared.rows.TextRow.{TextRow}
use Rattle.scanning.specs.declared.Scanning.{Scanning}
use Rattle.scanning.specs.Store.{blank_row, stored_text, texts_in, marks_in, Placed, AllRising}

-- what stands at a number
module _ (rows : List TextRow) (count : ℕ) (enough : count ≤ length rows) where
  pub texts_length : (places : List Literal) → length (texts_in rows places count) ≡ count
  texts_length places = length-map (take count rows) (stored_text places) ∙ length-take-le count rows enough

  pub mark_at : (n : ℕ) → 1 ≤ n → n ≤ count → mark_in (marks_in rows count) n ≡ (get_or rows (n - 1) blank_row).on
  mark_at zero low high = absurd (omega arith)
  mark_at (suc k) low high =
      let long = length-take-le count rows enough in
      let back : k ≡ suc k - 1 = omega arith in
      get_or-map (λ (r : TextRow). r.on) (take count rows) k blank_row false (omega arith)
      ∙ ap (λ (r : TextRow). r.on) (get_or-take count rows k blank_row (omega arith) ∙ ap (λ (j : ℕ). get_or rows j blank_row) back)

  pub text_at_lem : (places : List Literal) (n : ℕ) → 1 ≤ n → n ≤ count
      → text_in (texts_in rows places count) n ≡ stored_text places (get_or rows (n - 1) blank_row)
  text_at_lem places zero low high = absurd (omega arith)
  text_at_lem places (suc k) low high =
      let long = length-take-le count rows enough in
      let back : k ≡ suc k - 1 = omega arith in
      get_or-map (stored_text places) (take count rows) k blank_row [] (omega arith)
      ∙ ap (stored_text places) (get_or-take count rows k blank_row (omega arith) ∙ ap (λ (j : ℕ). get_or rows j blank_row) back)

-- a row with another mark
abbrev pub marked : TextRow → Bool → TextRow
marked r b = record { start = r.start; length = r.length; on = b }

pub texts_marked : (places : List Literal) (n i : ℕ) (rows : List TextRow) (d : TextRow) (b : Bool)
    → texts_in (set rows i (marked (get_or rows i d) b)) places n ≡ texts_in rows places n
texts_marked places zero i rows d b = refl
texts_marked places (suc n) i [] d b = refl
texts_marked places (suc n) zero (r ∷ rows) d b = refl
texts_marked places (suc n) (suc i) (r ∷ rows) d b = ap (λ (x : List Clause). stored_text places r ∷ x) (texts_marked places n i rows d b)

pub marks_marked : (n i : ℕ) (rows : List TextRow) (d : TextRow) (b : Bool)
    → marks_in (set rows i (marked (get_or rows i d) b)) n ≡ set (marks_in rows n) i b
marks_marked zero i rows d b = refl
marks_marked (suc n) i [] d b = refl
marks_marked (suc n) zero (r ∷ rows) d b = refl
marks_marked (suc n) (suc i) (r ∷ rows) d b = ap (λ (x : List Bool). r.on ∷ x) (marks_marked n i rows d b)

pub placed_marked : (rows : List TextRow) (count used i : ℕ) (b : Bool) → i < length rows → Placed rows count used
    → Placed (set rows i (marked (get_or rows i blank_row) b)) count used
placed_marked rows count used i b h p k l = let q = p k l in grind (arith, common_steps, q)

-- a text that lies within a front is read off the front
part_same : {X : Type 0} (xs ys : List X) (s n e : ℕ) → take e xs ≡ take e ys → s + n ≤ e → take n (drop s xs) ≡ take n (drop s ys)
part_same xs ys s n e q h =
    sym (drop-take s n xs) ∙ ap (drop s) (sym (take-take (s + n) e xs h) ∙ ap (take (s + n)) q ∙ take-take (s + n) e ys h) ∙ drop-take s n ys

texts_same : (rows : List TextRow) (ps qs : List Literal) (count used : ℕ) → Placed rows count used → take used ps ≡ take used qs
    → texts_in rows ps count ≡ texts_in rows qs count
texts_same rows ps qs zero used p e = refl
texts_same [] ps qs (suc n) used p e = refl
texts_same (r ∷ rows) ps qs (suc n) used p e =
    let head = part_same ps qs r.start r.length used e (p 0 (omega arith)) in
    let rest = texts_same rows ps qs n used (λ k h. p (suc k) (omega arith)) e in
    λ i. head i ∷ rest i

-- the rows, with the place of a text that lies behind the others
module _ (rows : List TextRow) (count used : ℕ) (text : List Literal) (placed : Placed rows count used) (room : count < length rows) where
  abbrev pub new_row : TextRow
  new_row = record { start = used; length = length text; on = false }

  pub marks_stored : marks_in (set rows count new_row) (count + 1) ≡ marks_in rows count ++ false ∷ []
  marks_stored =
      ap (map (λ (r : TextRow). r.on)) (take_more_set rows count new_row room)
      ∙ map_push (λ (r : TextRow). r.on) (take count rows) new_row

  pub placed_stored : Placed (set rows count new_row) (count + 1) (used + length text)
  placed_stored k l = grind (arith, common_steps, placed)

  pub texts_stored : (places after : List Literal) → take used after ≡ take used places → text_at after used (length text) ≡ text
      → texts_in (set rows count new_row) after (count + 1) ≡ texts_in rows places count ++ text ∷ []
  texts_stored places after front added =
      ap (map (stored_text after)) (take_more_set rows count new_row room)
      ∙ map_push (stored_text after) (take count rows) new_row
      ∙ ap (λ (t : Clause). texts_in rows after count ++ t ∷ []) added
      ∙ ap (λ (ts : List Clause). ts ++ text ∷ []) (texts_same rows after places count used placed front)

-- the rows and places of an engine with one text more, which is off
pub record OneMore (s : Scanning) (text : Clause) (rows : List TextRow) (places : List Literal) (count used : ℕ) : Type 0 where
  pub texts : texts_in rows places count ≡ texts_in s.rows.now s.places.now s.books.room.texts ++ text ∷ []
  pub marks : marks_in rows count ≡ marks_in s.rows.now s.books.room.texts ++ false ∷ []
  pub placed : Placed rows count used
  pub counted : literals (texts_in rows places count) ≡ used
  pub rising : AllRising (texts_in rows places count)

-- a text that was copied behind the literals in use
module _ (s : Scanning) (text copied : List Literal) (start : ℕ) (is : copied ≡ text) (es : start ≡ s.books.room.literals)
    (fits : s.books.room.literals + length text ≤ s.books.room.limits.literals) where
  abbrev pub after : List Literal
  after = put_mid start (start + length text - start) s.places.now copied

  long : length copied ≡ start + length text - start
  long = ap length is ∙ (omega arith)

  within : start + length text ≤ length s.places.now
  within = omega (arith, s.served)

  front : take s.books.room.literals after ≡ take s.books.room.literals s.places.now
  front = take-put_mid_below start (start + length text - start) s.places.now copied s.books.room.literals (omega arith) (omega (arith, within))

  added : text_at after s.books.room.literals (length text) ≡ text
  added =
      let e : length text ≡ start + length text - start = omega arith in
      (λ i. take (e i) (drop (sym es i) after))
      ∙ between-put_mid start (start + length text - start) s.places.now copied (start + length text) (omega (arith, within)) long
      ∙ is

  pub places_kept : length after ≡ length s.places.now
  places_kept =
      let k = start + length text - start in
      let a = length-append (take start s.places.now) (copied ++ drop k (drop start s.places.now)) in
      let b = length-append copied (drop k (drop start s.places.now)) in
      let d = length-drop k (drop start s.places.now) in
      let e = length-drop start s.places.now in
      let f = length-take-le start s.places.now (omega (arith, within)) in
      omega (arith, long, within)

  pub texts_kept : texts_in s.rows.now after s.books.room.texts ≡ texts_in s.rows.now s.places.now s.books.room.texts
  texts_kept = texts_same s.rows.now after s.places.now s.books.room.texts s.books.room.literals s.placed front

  -- with its row, one text more counts
  module _ (room : s.books.room.texts < s.books.room.limits.texts) (clause : IsClause highest text) (at count used : ℕ) (ea : at ≡ s.books.room.texts)
      (ec : count ≡ s.books.room.texts + 1) (eu : used ≡ s.books.room.literals + length text) where
    abbrev rows_after : List TextRow
    rows_after = set s.rows.now at (record { start = start; length = length text; on = false })

    below : s.books.room.texts < length s.rows.now
    below = omega (arith, s.served)

    texts_after : texts_in rows_after after count ≡ texts_in s.rows.now s.places.now s.books.room.texts ++ text ∷ []
    texts_after =
        (λ i. texts_in (set s.rows.now (ea i) (record { start = es i; length = length text; on = false })) after (ec i))
        ∙ texts_stored s.rows.now s.books.room.texts s.books.room.literals text s.placed below s.places.now after front added

    pub one_more : OneMore s text rows_after after count used
    one_more = record {
      texts = texts_after;
      marks = (λ i. marks_in (set s.rows.now (ea i) (record { start = es i; length = length text; on = false })) (ec i))
          ∙ marks_stored s.rows.now s.books.room.texts s.books.room.literals text s.placed below;
      placed =
          subst₃ (λ (rs : List TextRow) (k u : ℕ). Placed rs k u)
          (λ i. set s.rows.now (sym ea i) (record { start = sym es i; length = length text; on = false })) (sym ec) (sym eu)
          (placed_stored s.rows.now s.books.room.texts s.books.room.literals text s.placed below);
      counted =
          ap literals texts_after ∙ literals_push (texts_in s.rows.now s.places.now s.books.room.texts) text
          ∙ ap (λ (n : ℕ). n + length text) s.counted ∙ sym eu;
      rising =
          ap (list_all (ascending 0 highest)) texts_after
          ∙ list_all-append (ascending 0 highest) (texts_in s.rows.now s.places.now s.books.room.texts) (text ∷ [])
          ∙ and_from _ _ s.rising (and_from _ _ (clause_ascending highest text clause) refl);
    }
