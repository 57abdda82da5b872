-- The trial of a kept lemma: what its parts ask for.
use Rattle.std.proofs.Common.{◌≡◌, ℕ, suc, ◌+◌, ◌-◌, ◌*◌, ◌≤◌, List, [], ◌∷◌, length, sym, ap, ◌∙◌, subst, add-one, arith, ◌<◌, get_or}
use mathlib.Core.List.Memᴰ
use lib.Seq.{paste}
use Rattle.cnf.specs.declared.literals.Literal.{Literal}
use Rattle.cnf.specs.Clauses.{Clause, ◌∈◌, Within}
use Rattle.cnf.specs.Arranging.{beyond, twice}
use Rattle.cnf.proofs.Arranging.{clause_beyond, clause_twice, all_cons}
use Rattle.cnf.specs.declared.literals.Forced.{Forced}
use Rattle.drup.specs.Backward.{RightOver, gathered}
use Rattle.drup.proofs.Short.{asked_few}
use Rattle.drup.proofs.Trials.{row_few}
use Rattle.engine.specs.Meaning.{Meaning, On, text_of, Consistent, WellFormed, counted_by}
use Rattle.engine.specs.Meaning.{text_in as text_from}
use Rattle.trial.specs.Gathering.{AllKnown, AllWithin}
use Rattle.trial.proofs.Conflicts.{answers_known}
use Rattle.job.specs.View.{View, text_in, texts, with_rows, with_arcs}
use Rattle.job.specs.CheckLists.{mark_all, row_start, recorded}
use Rattle.job.specs.CheckShowing.{Holds}
use Rattle.job.proofs.CheckFit.{Fit}
use Rattle.job.proofs.CheckSurround.{same_number, wider}

pub place_same : (n i v : ℕ) → ((n - 1) - i) * (v + 1) ≡ (n - suc i) * suc v
place_same n i v =
    ap (λ (x : ℕ). x * (v + 1)) (let e : (n - 1) - i ≡ n - suc i = omega arith in e)
    ∙ ap (λ (x : ℕ). (n - suc i) * x) (add-one v)

each_in : (P : Clause → Type 0) (ts : List Clause) → ((k : ℕ) → k < length ts → P (get_or ts k [])) → (c : Clause) → c ∈ ts → P c
each_in P [] h = λ c x. absurd (Memᴰ.not-nil x)
each_in P (t ∷ ts) h = all_cons P (h 0 (omega arith)) (each_in P ts (λ k b. h (suc k) (omega arith)))

module _ (s : View) (o : Fit s) where
  -- a lemma can be assumed
  pub lemma_consistent : (n : ℕ) → 1 ≤ n → n ≤ s.clauses → (c : Clause) → c ≡ text_in (texts s) n → Consistent c
  lemma_consistent n low high c e =
      let is = wider s.variables 512 (text_in (texts s) n) o.range (o.clause n low high) in
      (ap (beyond 512) e ∙ clause_beyond 512 (text_in (texts s) n) is, ap twice e ∙ clause_twice 512 (text_in (texts s) n) is)

  -- the literals of each clause are an engine's
  pub all_within : AllWithin (texts s)
  all_within = each_in (Within 512) (texts s) (λ k h. let l = o.all_texts in (wider s.variables 512 (get_or (texts s) k []) o.range (o.clause (suc k) (omega arith) (omega arith))).within)

module _ (m : Meaning) (s : View) (h : Holds m s) (o : Fit s) where
  pub same_texts : text_of m ≡ text_in (texts s)
  same_texts = ap text_from h.same ∙ same_number (texts s)

  pub on_within : (k : ℕ) → On m k → Within s.variables (text_of m k)
  on_within k on =
      let r = h.numbered k on in
      subst (Within s.variables) (λ i. sym same_texts i k) (o.clause k r.0 r.1).within

  module _ (assumed : List Literal) (answers : List Forced) (right : RightOver (On m) (text_of m) assumed answers) where
    pub all_known : WellFormed m → AllKnown (texts s) answers
    all_known well = answers_known m well (texts s) (let e = ap length h.same in omega arith) assumed answers right

    -- each forced literal has a variable of its own, and the job's are fewer than an engine's
    pub few_answers : length answers ≤ s.variables
    few_answers = let a = asked_few s.variables (On m) (text_of m) assumed on_within answers right in omega arith

-- the engine after the trial still holds the job's texts
pub holds_after : (m m' : Meaning) (s : View) (k : ℕ) → m' ≡ counted_by k m → Holds m s → Holds m' s
holds_after m m' s k e h =
    subst (λ (x : Meaning). Holds x s) (sym e)
    (record { shut = h.shut; same = h.same; idle = h.idle; numbered = h.numbered })

-- the row that was gathered
module _ (m : Meaning) (s : View) (h : Holds m s) (answers : List Forced) (at : ℕ) (numbers : List ℕ)
    (e : numbers ≡ gathered (text_from (texts s)) answers (at ∷ [])) where
  pub its_row : numbers ≡ gathered (text_of m) answers (at ∷ [])
  its_row = e ∙ ap (λ (ts : List Clause). gathered (text_from ts) answers (at ∷ [])) (sym h.same)

  pub row_fits : (n place : ℕ) → place ≡ ((n - 1) - s.inputs) * (s.variables + 1) → length answers ≤ s.variables
      → row_start s n + suc s.variables ≤ length s.arcs → place + length numbers ≤ length s.arcs
  row_fits n place p few room =
      let a = place_same n s.inputs s.variables in
      let b = row_few (text_from (texts s)) answers at in
      let d = ap length e in
      omega arith

  pub row_on : ((k : ℕ) → k ∈ gathered (text_of m) answers (at ∷ []) → On m k) → (k : ℕ) → k ∈ numbers → On m k
  row_on on k x = on k (subst (λ (r : List ℕ). k ∈ r) its_row x)

-- the lists after a row is recorded
pub recorded_is :
    (s s₁ s₂ : View) (n at : ℕ) (xs ys row : List ℕ) → xs ≡ row → ys ≡ row → at ≡ row_start s n
    → s₁ ≡ with_arcs (paste s.arcs at xs (length xs)) s → s₂ ≡ with_rows (mark_all ys s₁.rows) s₁
    → s₂ ≡ recorded s n row
recorded_is s s₁ s₂ n at xs ys row e f p a b =
    b
    ∙ ap (λ (t : View). with_rows (mark_all ys t.rows) t) a
    ∙ (λ i. with_rows (mark_all (f i) s.rows) (with_arcs (paste s.arcs (p i) (e i) (length (e i))) s))
