-- Writing marks into the rows of a job.
use Rattle.std.proofs.Common.{◌≡◌, ℕ, zero, suc, ◌+◌, ◌≤◌, Bool, true, false, cond, List, ◌∷◌, ◌++◌, map, length, get_or, take, drop, set, sym, refl, ap, ◌∙◌, add-one, append-nil, arith, length-set, ◌<◌, ◌-◌}
use Rattle.std.proofs.lemmas.List.{take_all, drop_all, drop_more}
use Rattle.std.proofs.Math.ListN.{get_or-map}
use Rattle.std.proofs.Math.Seq.{map-set_same}
use Rattle.std.proofs.lemmas.List.Sums.{count_by_more_yes, count_by_more_no}
use Rattle.std.specs.List.{count_by}
use Rattle.drup.specs.Marks.{sieved, Marks}
use Rattle.drup.specs.Reading.{marks_of}
use Rattle.job.specs.declared.rows.ClauseRow.{ClauseRow}
use Rattle.job.specs.View.{View, blank_row, text_in, texts, marks, with_rows, bare}
use Rattle.job.specs.History.{down_from}
use Rattle.job.specs.Sound.{Sound}
use Rattle.job.specs.CheckLists.{unmarked, kept_row, mark_all}
use Rattle.job.proofs.Histories.{length_down}
use Rattle.job.proofs.Keeping.{sound_rows}
use Rattle.job.proofs.CheckFraming.{bare_unmarked, unmarked_length}
use Rattle.job.proofs.CheckMarking.{mark_there}
use Rattle.cnf.specs.Clauses.{Clause}

-- rows that are the same but for their marks
bare_there : (rows rows' : List ClauseRow) → map bare rows' ≡ map bare rows → (k : ℕ) → bare (get_or rows' k blank_row) ≡ bare (get_or rows k blank_row)
bare_there rows rows' e k =
    sym (get_or-map bare rows' k blank_row) ∙ ap (λ (r : List ClauseRow). get_or r k blank_row) e ∙ get_or-map bare rows k blank_row

-- another mark
pub sound_marked : (s : View) (i : ℕ) (row : ClauseRow) → bare row ≡ bare (get_or s.rows i blank_row) → Sound s → Sound (with_rows (set s.rows i row) s)
sound_marked s i row e o =
    sound_rows s (set s.rows i row) (length-set s.rows i row)
    (λ k h. bare_there s.rows (set s.rows i row) (map-set_same bare s.rows i row blank_row e) k) o

-- one number more is marked
pub mark_one : (s start : View) (row : List ℕ) (j : ℕ) → j < length row
    → with_rows (mark_all (drop j row) s.rows) s ≡ with_rows (mark_all row start.rows) start
    → with_rows (mark_all (drop (j + 1) row) (set s.rows (get_or row j 0 - 1) (kept_row (get_or s.rows (get_or row j 0 - 1) blank_row)))) s
    ≡ with_rows (mark_all row start.rows) start
mark_one s start row j h inv = ap (λ (t : List ℕ). with_rows (mark_all t s.rows) s) (sym (drop_more row j 0 h)) ∙ inv

pub marked_all : (s start : View) (row : List ℕ) (j : ℕ) → length row ≤ j
    → with_rows (mark_all (drop j row) s.rows) s ≡ with_rows (mark_all row start.rows) start
    → s ≡ with_rows (mark_all row start.rows) start
marked_all s start row j h inv = ap (λ (t : List ℕ). with_rows (mark_all t s.rows) s) (sym (drop_all j row h)) ∙ inv

-- unmarking one after the other, and the rest behind
pub unmarked_all : (rows : List ClauseRow) (c i : ℕ) (items : List ClauseRow) → c ≤ length rows → length (take c rows) ≤ i → items ≡ unmarked i (take c rows)
    → items ++ drop c rows ≡ unmarked c rows
unmarked_all rows c i items room done e =
    ap (λ (r : List ClauseRow). r ++ drop c rows)
    (e
    ∙ ap (λ (r : List ClauseRow). map bare r ++ drop i (take c rows)) (take_all i (take c rows) done)
    ∙ ap (λ (r : List ClauseRow). map bare (take c rows) ++ r) (drop_all i (take c rows) done)
    ∙ append-nil (map bare (take c rows)))

pub sound_unmarked : (s : View) → Sound s → Sound (with_rows (unmarked s.clauses s.rows) s)
sound_unmarked s o =
    sound_rows s (unmarked s.clauses s.rows) (unmarked_length s.clauses s.rows)
    (λ k h. bare_there s.rows (unmarked s.clauses s.rows) (bare_unmarked s.clauses s.rows) k) o

-- how many of the first clauses are marked
pub sieved_most : (kept : Marks) (text : ℕ → Clause) (k : ℕ) → length (sieved kept (down_from text k)) ≤ k
sieved_most kept text zero = omega arith
sieved_most kept text (suc k) = go (kept (suc (length (down_from text k)))) (sieved_most kept text k)
  where
    go : (b : Bool) → length (sieved kept (down_from text k)) ≤ k
        → length (cond b (text (suc k) ∷ sieved kept (down_from text k)) (sieved kept (down_from text k))) ≤ suc k
    go true h = omega arith
    go false h = omega arith

pub sieved_more : (kept : Marks) (text : ℕ → Clause) (k : ℕ) (b : Bool) → kept (suc k) ≡ b
    → length (sieved kept (down_from text (k + 1))) ≡ cond b (length (sieved kept (down_from text k)) + 1) (length (sieved kept (down_from text k)))
sieved_more kept text k b e =
    let a : k + 1 ≡ suc k = omega arith in
    ap (λ (n : ℕ). length (sieved kept (down_from text n))) a
    ∙ ap (λ (x : Bool). length (cond x (text (suc k) ∷ sieved kept (down_from text k)) (sieved kept (down_from text k))))
    (ap (λ (n : ℕ). kept (suc n)) (length_down text k) ∙ e)
    ∙ go b
  where
    go : (b : Bool) → length (cond b (text (suc k) ∷ sieved kept (down_from text k)) (sieved kept (down_from text k)))
        ≡ cond b (length (sieved kept (down_from text k)) + 1) (length (sieved kept (down_from text k)))
    go true = omega arith
    go false = refl

pub kept_counted : (s : View) (k : ℕ) → k ≤ s.clauses → s.clauses ≤ length s.rows
    → count_by (λ (r : ClauseRow). r.kept) (take k s.rows) ≡ length (sieved (marks_of (marks s)) (down_from (text_in (texts s)) k))
kept_counted s zero h room = refl
kept_counted s (suc k) h room =
    ap (λ (n : ℕ). count_by (λ (r : ClauseRow). r.kept) (take n s.rows)) (sym (add-one k))
    ∙ go (kept_counted s k (omega arith) room) (get_or s.rows k blank_row).kept refl
  where
    mark : (b : Bool) → (get_or s.rows k blank_row).kept ≡ b → marks_of (marks s) (suc (length (down_from (text_in (texts s)) k))) ≡ b
    mark b e = ap (λ (n : ℕ). marks_of (marks s) (suc n)) (length_down (text_in (texts s)) k) ∙ mark_there s.clauses s.rows k (omega arith) ∙ e

    go : count_by (λ (r : ClauseRow). r.kept) (take k s.rows) ≡ length (sieved (marks_of (marks s)) (down_from (text_in (texts s)) k))
        → (b : Bool) → (get_or s.rows k blank_row).kept ≡ b
        → count_by (λ (r : ClauseRow). r.kept) (take (k + 1) s.rows) ≡ length (sieved (marks_of (marks s)) (down_from (text_in (texts s)) (suc k)))
    go ih true e =
        let rest = sieved (marks_of (marks s)) (down_from (text_in (texts s)) k) in
        count_by_more_yes (λ (r : ClauseRow). r.kept) s.rows k blank_row (omega arith) e
        ∙ ap (λ (n : ℕ). n + 1) ih
        ∙ add-one _
        ∙ ap (λ (b : Bool). length (cond b (text_in (texts s) (suc k) ∷ rest) rest)) (sym (mark true e))
    go ih false e =
        let rest = sieved (marks_of (marks s)) (down_from (text_in (texts s)) k) in
        count_by_more_no (λ (r : ClauseRow). r.kept) s.rows k blank_row (omega arith) e
        ∙ ih
        ∙ ap (λ (b : Bool). length (cond b (text_in (texts s) (suc k) ∷ rest) rest)) (sym (mark false e))
