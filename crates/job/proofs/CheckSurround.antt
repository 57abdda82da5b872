-- Filling the engine, turning on what is live, and turning all off.
use Rattle.std.proofs.Common.{◌≡◌, ℕ, zero, suc, ◌+◌, ◌-◌, ◌<◌, ◌≤◌, Bool, true, false, not, ltb, List, [], ◌∷◌, ◌++◌, length, get_or, take, set, replicate, Some, None, Ok, Err, Result, sym, refl, ap, ◌∙◌, subst, inl, inr, add-one, arith, length-set, get_or-set_other, get_or-set_same, is_none, Option}
use mathlib.Core.Bool.{false≢true}
use Rattle.std.proofs.lemmas.List.{take_more, take_all, set-get_or, ext_get_or, length-replicate, length-take-le, length_push, get_or-replicate}
use Rattle.std.proofs.lemmas.Bool.{cases_Bool, le-ltb, lt-leb, ltb-true, ltb-false, not-true}
use Rattle.cnf.specs.Clauses.{Clause, IsClause, literals}
use Rattle.cnf.specs.Arranging.{arranged}
use Rattle.cnf.proofs.Arranging.{clause_beyond, clause_twice, clause_arranged}
use Rattle.drup.specs.History.{is_struck, Live}
use Rattle.drup.proofs.Numbers.{at_most}
use Rattle.engine.specs.Meaning.{Meaning, On, is_on, mark_in, with_on, with_mark, with_text, no_put, no_off, TurnsOff, no_text, no_on, rule, first_broken}
use Rattle.engine.specs.Meaning.{text_in as text_from}
use Rattle.engine.specs.declared.faults.EngineFault.{EngineFault}
use Rattle.engine.proofs.Refusing.{off_done}
use Rattle.engine.proofs.Allowed.{has_text, off_allowed}
use Rattle.job.specs.View.{View, blank_row, text_in, texts}
use Rattle.job.specs.History.{down_from, inputs_of, steps_of}
use Rattle.job.specs.CheckFrame.{filled, Large, Lit, Dark}
use Rattle.job.specs.CheckShowing.{Shows, Holds}
use Rattle.std.proofs.lemmas.Grind.{replicate_next}
use Rattle.job.proofs.CheckFit.{Fit}
use Rattle.engine.specs.declared.faults.EngineFault.TheVariants.{TrialOpen, NoSuchText, AlreadyOn}

-- a clause with its number, as the job and as an engine say it
pub same_number : (ts : List Clause) → text_from ts ≡ text_in ts
same_number ts = λ i n. at n i
  where
    at : (n : ℕ) → text_from ts n ≡ text_in ts n
    at zero = refl
    at (suc n) = refl

pub wider : (low high : ℕ) (c : Clause) → low ≤ high → IsClause low c → IsClause high c
wider low high c h is = record { rising = is.rising; within = λ k i. let w = is.within k i in (w.0, omega (arith, w.1)) }

-- a number that is off cannot be turned off, and need not be
pub off_already : (m : Meaning) (n : ℕ) (f : EngineFault) → m.opened ≡ false → 1 ≤ n → n ≤ length m.texts → no_off m n ≡ Some f → m ≡ with_mark n false m
off_already m n f shut low high e =
    elim (cases_Bool (is_on m n)) [
      | inl on ↦
          let none : no_off m n ≡ None = off_done m n shut (has_text m n low high) on in
          let z : ◌≡◌ {A = ℕ} 0 1 = cc in
          absurd (omega arith)
      | inr off ↦ ap (λ (o : List Bool). with_on o m) (sym (same n low off))
    ]
  where
    same : (k : ℕ) → 1 ≤ k → mark_in m.on k ≡ false → set m.on (k - 1) false ≡ m.on
    same zero l o = absurd (omega arith)
    same (suc k) l o =
        let e : suc k - 1 ≡ k = omega arith in
        ap (λ (j : ℕ). set m.on j false) e ∙ ap (set m.on k) (sym o) ∙ set-get_or m.on k false

pub off_either : (m m' : Meaning) (n : ℕ) (r : Result (Unit {0}) EngineFault) → m.opened ≡ false → 1 ≤ n → n ≤ length m.texts → TurnsOff m n r m'
    → m' ≡ with_mark n false m
off_either m m' n (Ok done) shut low high does = does.1
off_either m m' n (Err f) shut low high does = does.1 ∙ off_already m n f shut low high does.0

literals_push : (ts : List Clause) (c : Clause) → literals (ts ++ c ∷ []) ≡ literals ts + length c
literals_push [] c = omega arith
literals_push (t ∷ ts) c = let h = literals_push ts c in omega arith

literals_down : (ts : List Clause) (k : ℕ) → k ≤ length ts → literals (down_from (text_in ts) k) ≡ literals (take k ts)
literals_down ts zero h = refl
literals_down ts (suc k) h =
    let ih = literals_down ts k (omega arith) in
    let e : literals (take (suc k) ts) ≡ literals (take k ts) + length (get_or ts k []) =
    ap (λ (n : ℕ). literals (take n ts)) (sym (add-one k)) ∙ ap literals (take_more ts k [] (omega arith)) ∙ literals_push (take k ts) (get_or ts k []) in
    omega arith

literals_take : (ts : List Clause) (i : ℕ) → i < length ts → literals (take i ts) + length (get_or ts i []) ≤ literals ts
literals_take [] i h = absurd (omega arith)
literals_take (t ∷ ts) zero h = omega arith
literals_take (t ∷ ts) (suc i) h = let r = literals_take ts i (omega arith) in omega arith

module _ (s : View) (o : Fit s) where
  all_stored : literals (texts s) ≡ s.used
  all_stored =
      let l = o.all_texts in
      sym (literals_down (texts s) s.clauses (omega arith) ∙ ap literals (take_all s.clauses (texts s) (omega arith)))
      ∙ ap literals (sym o.all_down)
      ∙ o.stored

  module _ (m : Meaning) (large : Large s m) (i : ℕ) (h : i < s.clauses) (before : Meaning) (t : Clause)
      (b : before ≡ filled (take i (texts s)) m) (n : ℕ) (up : n ≡ suc i) (e : t ≡ text_in (texts s) n) where
    its_text : t ≡ get_or (texts s) i []
    its_text = e ∙ ap (text_in (texts s)) up

    is_clause : IsClause 512 t
    is_clause = subst (IsClause 512) (sym e) (wider s.variables 512 (text_in (texts s) n) o.range (o.clause n (omega arith) (omega arith)))

    pub put_allowed : no_put before t ≡ None
    put_allowed =
        let l = o.all_texts in
        let k = length-take-le i (texts s) (omega arith) in
        let r = literals_take (texts s) i (omega arith) in
        let q : length t ≡ length (get_or (texts s) i []) = ap length its_text in
        let u = all_stored in
        let x = large.0 in
        let y = large.1 in
        ap (λ (n : Meaning). no_put n t) b
        ∙ rw (clause_beyond 512 t is_clause, clause_twice 512 t is_clause, lt-leb m.text_limit (length (take i (texts s))) (omega arith), le-ltb m.literal_limit (literals (take i (texts s)) + length t) (omega arith)) refl

    pub put_more : (k : ℕ) → k ≡ i + 1 → (after : Meaning) → after ≡ with_text (arranged t) before → after ≡ filled (take k (texts s)) m
    put_more k one after a =
        let l = o.all_texts in
        let p : take i (texts s) ++ t ∷ [] ≡ take (i + 1) (texts s) =
        ap (λ (x : Clause). take i (texts s) ++ x ∷ []) its_text ∙ sym (take_more (texts s) i [] (omega arith)) in
        let q : replicate (length (take i (texts s))) false ++ false ∷ [] ≡ replicate (length (take (i + 1) (texts s))) false =
        sym (replicate_next (length (take i (texts s))) false) ∙ ap (λ (k : ℕ). replicate k false) (sym (length_push (take i (texts s)) t) ∙ ap length p) in
        a ∙ ap (λ (c : Clause). with_text c before) (clause_arranged 512 t is_clause) ∙ ap (with_text t) b
        ∙ (λ k. record { texts = p k; on = q k; trail = []; opened = false; answers = 0; text_limit = m.text_limit; literal_limit = m.literal_limit })
        ∙ ap (λ (j : ℕ). filled (take j (texts s)) m) (sym one)

-- one mark is set to what it should be
module _ (s : View) (m : Meaning) (k : ℕ) (before : Meaning) (g : Lit s m k before) (h : k < s.clauses) where
  pub lit_allowed : m.opened ≡ false → length m.texts ≡ s.clauses → no_on before (suc k) ≡ None
  lit_allowed shut l =
      let a : before.opened ≡ false = ap (λ (x : Meaning). x.opened) g.but_for ∙ shut in
      let b : length before.texts ≡ s.clauses = ap (λ (x : Meaning). length x.texts) g.but_for ∙ l in
      off_allowed before (suc k) (omega arith) (omega arith) a (g.above k (omega arith))

  pub lit_more : (after : Meaning) → after ≡ with_on (set before.on k (is_none (get_or s.rows k blank_row).struck)) before → Lit s m (k + 1) after
  lit_more after a =
      let b = is_none (get_or s.rows k blank_row).struck in
      let l = g.level in
      subst (Lit s m (k + 1)) (sym a)
      (record {
        but_for = ap (with_on (set before.on k b)) g.but_for;
        level = length-set before.on k b ∙ g.level;
        below = λ j x.
            elim (at_most (suc j) k (omega arith)) [
              | inl e ↦
                  let q : j ≡ k = omega arith in
                  ap (λ (i : ℕ). get_or (set before.on k b) i false) q ∙ get_or-set_same before.on k b false (omega arith) ∙ ap (λ (i : ℕ). is_none (get_or s.rows i blank_row).struck) (sym q)
              | inr y ↦ get_or-set_other before.on k j b false (λ e. omega arith) ∙ g.below j y
            ];
        above = λ j x. get_or-set_other before.on k j b false (λ e. omega arith) ∙ g.above j (omega arith);
      })

-- one mark more is off
module _ (c : ℕ) (m : Meaning) (k : ℕ) (before : Meaning) (g : Dark c m k before) where
  pub dark_more : (n : ℕ) → n ≡ k + 1 → k < c → (after : Meaning) → after ≡ with_mark n false before → Dark c m n after
  dark_more n one h after a =
      let l = g.level in
      let p : n - 1 ≡ k = omega arith in
      subst (Dark c m n) (sym (a ∙ ap (λ (j : ℕ). with_on (set before.on j false) before) p))
      (record {
        but_for = ap (with_on (set before.on k false)) g.but_for;
        level = length-set before.on k false ∙ g.level;
        below = λ j x.
            elim (at_most (suc j) k (omega arith)) [
              | inl e ↦
                  let q : j ≡ k = omega arith in
                  ap (λ (i : ℕ). get_or (set before.on k false) i false) q ∙ get_or-set_same before.on k false false (omega arith)
              | inr y ↦ get_or-set_other before.on k j false false (λ e. omega arith) ∙ g.below j y
            ];
      })

  pub dark_all : c ≤ k → before ≡ with_on (replicate c false) m
  dark_all h =
      let l = g.level in
      g.but_for
      ∙ ap (λ (o : List Bool). with_on o m)
      (ext_get_or false before.on (replicate c false) (g.level ∙ sym (length-replicate c false))
      (λ i x. g.below i (omega arith) ∙ sym (get_or-replicate c i false false (omega arith))))

  pub dark_shut : m.opened ≡ false → before.opened ≡ false
  dark_shut e = ap (λ (x : Meaning). x.opened) g.but_for ∙ e

  pub dark_texts : length m.texts ≡ c → length before.texts ≡ c
  dark_texts e = ap (λ (x : Meaning). length x.texts) g.but_for ∙ e

-- where the last rule could be tried, it was not broken
not_broken : (a b d : Bool) (f g h : EngineFault) → first_broken (rule a f ∷ rule b g ∷ rule d h ∷ []) ≡ None → d ≡ false
not_broken true b d f g h e = let z : ◌≡◌ {A = ℕ} 0 1 = cc in absurd (omega arith)
not_broken false true d f g h e = let z : ◌≡◌ {A = ℕ} 0 1 = cc in absurd (omega arith)
not_broken false false true f g h e = let z : ◌≡◌ {A = ℕ} 0 1 = cc in absurd (omega arith)
not_broken false false false f g h e = refl

-- a struck clause stays off
pub lit_skip : (m : Meaning) (i : ℕ) (struck : Option ℕ) → no_on m (suc i) ≡ None → (struck ≡ None → ⊥) → m ≡ with_on (set m.on i (is_none struck)) m
lit_skip m i None e d = absurd (d refl)
lit_skip m i (Some step) e d =
    let off : is_on m (suc i) ≡ false = not_broken m.opened (no_text m (suc i)) (is_on m (suc i)) TrialOpen NoSuchText AlreadyOn e in
    ap (λ (o : List Bool). with_on o m) (sym (ap (set m.on i) (sym off) ∙ set-get_or m.on i false))

none_there : (k i : ℕ) → get_or (replicate k false) i false ≡ false
none_there zero i = refl
none_there (suc k) zero = refl
none_there (suc k) (suc i) = none_there k i

-- an engine that was just filled
module _ (s : View) (o : Fit s) (m₀ m : Meaning) (e : m ≡ filled (texts s) m₀) where
  pub lit_start : Lit s m 0 m
  lit_start = record {
    but_for = refl;
    level = ap (λ (x : Meaning). length x.on) e ∙ length-replicate (length (texts s)) false ∙ o.all_texts;
    below = λ j h. absurd (omega arith);
    above = λ j h. ap (λ (x : Meaning). get_or x.on j false) e ∙ none_there (length (texts s)) j;
  }

  pub filled_shut : m.opened ≡ false
  filled_shut = ap (λ (x : Meaning). x.opened) e

  pub filled_texts : length m.texts ≡ s.clauses
  filled_texts = ap (λ (x : Meaning). length x.texts) e ∙ o.all_texts

module _ (s : View) (o : Fit s) where
  -- what is live is on
  module _ (m₀ m : Meaning) (g : Lit s (filled (texts s) m₀) s.clauses m) where
    on_below : (n : ℕ) → On m n → (k : ℕ) × (n ≡ suc k) × (k < s.clauses) × (is_none (get_or s.rows k blank_row).struck ≡ true)
    on_below zero e = absurd (false≢true e)
    on_below (suc k) e =
        elim (cases_Bool (ltb k s.clauses)) [
          | inl h ↦ let l = ltb-true k s.clauses h in (k, refl, l, sym (g.below k l) ∙ e)
          | inr h ↦ absurd (false≢true (sym (g.above k (ltb-false k s.clauses h)) ∙ e))
        ]

    pub lit_holds : Holds m s
    lit_holds = record {
      shut = ap (λ (x : Meaning). x.opened) g.but_for;
      same = ap (λ (x : Meaning). x.texts) g.but_for;
      idle = ap (λ (x : Meaning). x.trail) g.but_for;
      numbered = λ n on. let (k, e, h, b) = on_below n on in (omega arith, omega arith);
    }

    lit_on : (n : ℕ) → Live (inputs_of s) (steps_of s) n → On m n
    lit_on zero l = absurd (let a = l.numbered in omega arith)
    lit_on (suc k) l =
        let h : k < s.clauses = let a = l.entered in let b = o.all_in in omega arith in
        g.below k h ∙ o.alive k h ∙ ap not l.unstruck

    pub lit_shows : Shows m (inputs_of s) (steps_of s)
    lit_shows =
        let l = o.all_texts in
        let ts : m.texts ≡ texts s = ap (λ (x : Meaning). x.texts) g.but_for in
        let lts = ap length ts in
        let a = o.all_in in
        record {
          level = g.level ∙ sym l ∙ sym lts;
          has_all = omega arith;
          same_text = λ n low high. ap (λ (x : List Clause). text_from x n) ts ∙ (λ i. same_number (texts s) i n) ∙ sym (o.same_text n low (omega arith));
          live_on = lit_on;
          on_live = λ n on.
              let (k, e, h, b) = on_below n on in
              record {
                numbered = omega arith;
                entered = omega arith;
                unstruck = ap (λ (j : ℕ). is_struck j (steps_of s)) e ∙ not-true (is_struck (suc k) (steps_of s)) (sym (o.alive k h) ∙ b);
              };
        }

    pub lit_uncounted : m.answers ≡ 0
    lit_uncounted = ap (λ (x : Meaning). x.answers) g.but_for
