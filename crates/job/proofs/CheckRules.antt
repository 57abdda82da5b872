-- The rules of a check.
use Rattle.std.proofs.Common.{◌≡◌, ℕ, suc, ◌+◌, ◌-◌, ◌*◌, true, false, ◌||◌, ltb, List, [], ◌∷◌, length, sym, refl, ap, ◌∙◌, add-one, arith, ◌<◌, ◌≤◌}
use Rattle.cnf.specs.Clauses.{Clause, literals}
use Rattle.drup.specs.History.{Step, learned, struck, table, lemmas, ended}
use Rattle.drup.specs.Box.{too_small, check_refused}
use Rattle.std.proofs.lemmas.Bool.{or_parts, ltb-false, lt-ltb, le-ltb}
use Rattle.engine.specs.Meaning.{Meaning}
use Rattle.job.specs.View.{View, text_in, texts}
use Rattle.job.specs.History.{inputs_of, steps_of, machine_of}
use Rattle.job.specs.Checking.{Allowed, lent_by}
use Rattle.job.proofs.Histories.{length_down}
use Rattle.job.proofs.Standing.{lemmas_many}
use Rattle.job.proofs.CheckFit.{Fit}
use Rattle.job.proofs.CheckArcs.{step_over}

module _ (s : View) (o : Fit s) where
  same_lemmas : lemmas (steps_of s) ≡ s.clauses - s.inputs
  same_lemmas =
      let a = lemmas_many (inputs_of s) (steps_of s) in
      let b = length_down (text_in (texts s)) s.inputs in
      let c = o.all_in in
      omega arith

  pub short_is :
      (m : Meaning)
      → too_small (machine_of s) (lent_by s m)
      ≡ ((ltb m.text_limit s.clauses || ltb m.literal_limit s.used) || ltb (length s.arcs) ((s.clauses - s.inputs) * (s.variables + 1)))
  short_is m =
      ap (λ (n : ℕ). (ltb m.text_limit n || ltb m.literal_limit (literals (table (inputs_of s) (steps_of s)))) || ltb (length s.arcs) (lemmas (steps_of s) * suc s.variables)) (sym o.all_in)
      ∙ ap (λ (n : ℕ). (ltb m.text_limit s.clauses || ltb m.literal_limit n) || ltb (length s.arcs) (lemmas (steps_of s) * suc s.variables)) o.stored
      ∙ ap (λ (n : ℕ). (ltb m.text_limit s.clauses || ltb m.literal_limit s.used) || ltb (length s.arcs) (n * suc s.variables)) same_lemmas
      ∙ ap (λ (n : ℕ). (ltb m.text_limit s.clauses || ltb m.literal_limit s.used) || ltb (length s.arcs) ((s.clauses - s.inputs) * n)) (sym (add-one s.variables))

  module _ (m : Meaning) (a b : ℕ) (p : a ≡ m.text_limit) (q : b ≡ m.literal_limit) where
    pub short_first : a < s.clauses → true ≡ too_small (machine_of s) (lent_by s m)
    short_first h = sym (short_is m ∙ rw (lt-ltb m.text_limit s.clauses (omega arith)) refl)

    pub short_second : s.clauses ≤ a → b < s.used → true ≡ too_small (machine_of s) (lent_by s m)
    short_second g h = sym (short_is m ∙ rw (le-ltb m.text_limit s.clauses (omega arith), lt-ltb m.literal_limit s.used (omega arith)) refl)

    pub short_third : s.clauses ≤ a → s.used ≤ b → ltb (length s.arcs) ((s.clauses - s.inputs) * (s.variables + 1)) ≡ too_small (machine_of s) (lent_by s m)
    short_third g h = sym (short_is m ∙ rw (le-ltb m.text_limit s.clauses (omega arith), le-ltb m.literal_limit s.used (omega arith)) refl)

  -- what a check that breaks no rule can rest on
  pub allowed : (m : Meaning) → ended (steps_of s) ≡ true → too_small (machine_of s) (lent_by s m) ≡ false → m.opened ≡ false → Allowed s m
  allowed m e t h =
      let n = or_parts (ltb m.text_limit s.clauses || ltb m.literal_limit s.used) (ltb (length s.arcs) ((s.clauses - s.inputs) * (s.variables + 1))) (sym (short_is m) ∙ t) in
      let k = or_parts (ltb m.text_limit s.clauses) (ltb m.literal_limit s.used) n.0 in
      let a = ltb-false m.text_limit s.clauses k.0 in
      let b = ltb-false m.literal_limit s.used k.1 in
      let c = ltb-false (length s.arcs) ((s.clauses - s.inputs) * (s.variables + 1)) n.1 in
      let d = ap (λ (x : ℕ). (s.clauses - s.inputs) * x) (add-one s.variables) in
      record {
        is_ended = e;
        shut = h;
        large = (a, b);
        rooms = λ i low high. let g = step_over (i - suc s.inputs) (s.clauses - s.inputs) (suc s.variables) (omega arith) in omega arith;
      }

  pub none_refused : (m : Meaning) → ended (steps_of s) ≡ true → too_small (machine_of s) (lent_by s m) ≡ false → m.opened ≡ false → check_refused (machine_of s) (lent_by s m) ≡ 0
  none_refused m e t h = rw (e, t, h) refl
