-- What a scanning engine reads of its texts.
use Rattle.std.proofs.Common.{◌≡◌, ℕ, ◌+◌, ◌-◌, ◌<◌, ◌≤◌, Bool, true, false, cond, ◌&&◌, ◌||◌, eqb, ltb, leb, List, length, get_or, Some, None, Ok, Err, Option, Result, sym, refl, ap, ◌∙◌, subst, arith}
use mathlib.Core.Bool.{false≢true}
use denote.Ref.{Bor}
use Rattle.std.proofs.lemmas.Bool.{and_from, or_parts, or_left, or_right, eq-eqb, ltb-false, lt-ltb, leb-false}
use Rattle.std.specs.Prelude.{MatchBool, MatchOption}
use Rattle.std.specs.Result.{result_ok}
use Rattle.cnf.specs.declared.literals.Literal.{Literal}
use Rattle.cnf.specs.declared.literals.Forced.{Forced}
use Rattle.engine.specs.declared.faults.EngineFault.{EngineFault}
use Rattle.engine.specs.declared.faults.EngineFault.TheVariants.{NoSuchText}
use Rattle.engine.specs.Meaning.{Meaning, is_on, On, values, text_of, no_text, no_room}
use Rattle.engine.specs.Limits.{placed}
use Rattle.engine.specs.Looks.{falsified, forced}
use Rattle.engine.specs.Lowest.{FalseAt, ForcesAt, LowestFalse, LowestForcing}
use Rattle.engine.proofs.Consistent.{number_in, number_is_in}
use Rattle.engine.proofs.Keeping.{on_within}
use Rattle.std.proofs.lemmas.Option.{none-some, same_Some}
use Rattle.engine.proofs.Looking.{falsified_true, falsified_there, forced_is, IsForced}
use Rattle.scanning.specs.declared.Scanning.{Scanning}
use Rattle.scanning.specs.Store.{blank_row, stored_text}
use Rattle.scanning.specs.Seen.{scan_meaning}
use Rattle.scanning.specs.Laws.{texts_length, scan_laws}
use Rattle.scanning.proofs.Keeping.{mark_at, text_at_lem}

-- a place that was found
pub place_found : (texts n p : ℕ) → Some p ≡ result_ok (placed texts n) → (1 ≤ n) × (n ≤ texts) × (p ≡ n - 1)
place_found texts n p h =
    let q = go (eqb n 0 || ltb texts n) h in
    let w = number_is_in texts n q.0 in
    (w.0, w.1, q.1)
  where
    go : (b : Bool) → Some p ≡ result_ok (cond {A = Result ℕ EngineFault} b (Err NoSuchText) (Ok (n - 1))) → (b ≡ false) × (p ≡ n - 1)
    go true h = absurd (none-some p (sym h))
    go false h = (refl, same_Some p (n - 1) h)

module _ (s : Scanning) where
  enough : s.books.room.texts ≤ length s.rows.now
  enough = omega (arith, s.books.room.few, s.served)

  -- which numbers have a text
  pub no_text_low : (n : ℕ) → n ≡ 0 → no_text (scan_meaning s) n ≡ true
  no_text_low n e = or_left (eqb n 0) _ (eq-eqb n 0 e)

  pub no_text_high : (n : ℕ) → s.books.room.texts < n → no_text (scan_meaning s) n ≡ true
  no_text_high n h = let k = texts_length s in or_right (eqb n 0) _ (lt-ltb (length (scan_meaning s).texts) n (omega arith))

  pub has_text : (n : ℕ) → 1 ≤ n → n ≤ s.books.room.texts → no_text (scan_meaning s) n ≡ false
  has_text n low high = let k = texts_length s in number_in (length (scan_meaning s).texts) n low (omega arith)

  pub has_number : (n : ℕ) → no_text (scan_meaning s) n ≡ false → (1 ≤ n) × (n ≤ s.books.room.texts)
  has_number n e =
      let k = texts_length s in
      let w = number_is_in (length (scan_meaning s).texts) n e in
      (w.0, omega arith)

  module _ (n : ℕ) (low : 1 ≤ n) (high : n ≤ s.books.room.texts) where
    pub on_is : is_on (scan_meaning s) n ≡ (get_or s.rows.now (n - 1) blank_row).on
    on_is = mark_at s.rows.now s.books.room.texts enough n low high

    pub text_is : text_of (scan_meaning s) n ≡ stored_text s.places.now (get_or s.rows.now (n - 1) blank_row)
    text_is = text_at_lem s.rows.now s.books.room.texts enough s.places.now n low high

  -- the rule for room, over what the engine keeps count of
  pub room_is : (k : ℕ) → no_room (scan_meaning s) k
      ≡ (leb s.books.room.limits.texts s.books.room.texts || ltb s.books.room.limits.literals (s.books.room.literals + k))
  room_is k = let a = texts_length s in λ i. leb s.books.room.limits.texts (a i) || ltb s.books.room.limits.literals (s.counted i + k)

  pub room_for : (k : ℕ) → no_room (scan_meaning s) k ≡ false
      → (s.books.room.texts < s.books.room.limits.texts) × (s.books.room.literals + k ≤ s.books.room.limits.literals)
  room_for k e =
      let p = or_parts (leb s.books.room.limits.texts s.books.room.texts) (ltb s.books.room.limits.literals (s.books.room.literals + k)) (sym (room_is k) ∙ e) in
      (leb-false s.books.room.limits.texts s.books.room.texts p.0, ltb-false s.books.room.limits.literals (s.books.room.literals + k) p.1)

  -- no number beyond the texts is on
  pub on_low : (n : ℕ) → On (scan_meaning s) n → (1 ≤ n) × (n ≤ s.books.room.texts)
  on_low n o = let k = texts_length s in let w = on_within (scan_meaning s) (scan_laws s) n o in (omega arith, omega arith)

  -- the first number from 1 on is the lowest of all
  pub first_false : (r : Option ℕ) → MatchOption r ((k : ℕ) → 1 ≤ k → k ≤ s.books.room.texts → FalseAt (scan_meaning s) k → ⊥)
      (λ i. FalseAt (scan_meaning s) i × ((k : ℕ) → 1 ≤ k → k < i → FalseAt (scan_meaning s) k → ⊥)) → LowestFalse (scan_meaning s) r
  first_false None h = λ k f. let w = on_low k f.0 in h k w.0 w.1 f
  first_false (Some i) h = (h.0, λ k l f. h.1 k (on_low k f.0).0 l f)

  pub first_forcing : (r : Option Forced) → MatchOption r ((k : ℕ) → 1 ≤ k → k ≤ s.books.room.texts → (l : Literal) → ForcesAt (scan_meaning s) k l → ⊥)
      (λ f. (i : ℕ) × ((f.number ≡ i) × ForcesAt (scan_meaning s) i f.literal) × ((k : ℕ) → 1 ≤ k → k < i → (l : Literal) → ForcesAt (scan_meaning s) k l → ⊥))
      → LowestForcing (scan_meaning s) r
  first_forcing None h = λ k l f. let w = on_low k f.0 in h k w.0 w.1 l f
  first_forcing (Some f) h = (
    subst (λ (n : ℕ). ForcesAt (scan_meaning s) n f.literal) (sym h.1.0) h.1.1,
    λ k l below g. h.2 k (on_low k g.0).0 (omega (arith, below, h.1.0)) l g,
  )

-- the tests at a number whose text is on
module _ (m : Meaning) (n : ℕ) where
  pub false_at : (b : Bool) → On m n → b ≡ falsified (values m) (text_of m n) → MatchBool b (FalseAt m n) (FalseAt m n → ⊥)
  false_at true o e = (o, falsified_true (values m) (text_of m n) (sym e))
  false_at false o e = λ f. false≢true (e ∙ falsified_there (values m) (text_of m n) f.1)

  pub false_there : FalseAt m n → (is_on m n && falsified (values m) (text_of m n)) ≡ true
  false_there f = and_from (is_on m n) (falsified (values m) (text_of m n)) f.0 (falsified_there (values m) (text_of m n) f.1)

  -- and at any number, by a look at the text if it is on
  pub false_look : {Seen : Bor (List Literal) → Type 0} (r : Option (Bor (List Literal))) (b : Bool)
      → MatchOption r (is_on m n ≡ false) (λ text. On m n × (text.now ≡ text_of m n)) → MatchOption r (b ≡ false) Seen
      → ((text : Bor (List Literal)) → Seen text → b ≡ falsified (values m) text.now) → MatchBool b (FalseAt m n) (FalseAt m n → ⊥)
  false_look (Some text) b there seen look = false_at b there.0 (look text seen ∙ ap (falsified (values m)) there.1)
  false_look None true off seen look = absurd (false≢true (sym seen))
  false_look None false off seen look = λ f. false≢true (sym off ∙ f.0)

  pub forces_at : (l : Literal) → On m n → Some l ≡ forced (values m) (text_of m n) → ForcesAt m n l
  forces_at l o e = (o, subst (IsForced (values m) (text_of m n)) (sym e) (forced_is (values m) (text_of m n)))

  pub forces_none : None ≡ forced (values m) (text_of m n) → (l : Literal) → ForcesAt m n l → ⊥
  forces_none e l f = subst (IsForced (values m) (text_of m n)) (sym e) (forced_is (values m) (text_of m n)) l f.1
