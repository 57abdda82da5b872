-- A whole trial, from what the engine was before it.
use Rattle.std.proofs.Common.{◌≡◌, ℕ, ◌+◌, ◌≤◌, true, false, List, [], ◌++◌, map, length, reverse, Some, None, Option, sym, ap, ◌∙◌, subst, arith}
use Rattle.std.proofs.lemmas.List.{length-reverse}
use Rattle.cnf.specs.declared.literals.Literal.{Literal}
use Rattle.cnf.specs.Literals.{complement}
use Rattle.cnf.specs.declared.literals.Forced.{Forced}
use Rattle.engine.specs.Meaning.{Meaning, highest, values, values_of, with_trail, with_opened, counted_by, WellFormed}
use Rattle.trial.specs.Trying.{supposed, EndsRight}
use Rattle.trial.proofs.Asking.{few_noted}
use Rattle.trial.proofs.Supposing.{values_supposed, supposed_length}

-- once the complements of these literals are assumed
module _ (m during : Meaning) (ls : List Literal) (d : during ≡ with_trail (supposed ls) (with_opened true m)) where
  -- what the trial finds
  pub found : (answers : List Forced) (end : Option ℕ) → EndsRight during (values during) answers end → EndsRight m (map complement ls) answers end
  found answers end r =
      subst (λ (t : List Literal). EndsRight m t answers end) (values_supposed ls)
      (same end (subst (λ (x : Meaning). EndsRight x (values x) answers end) d r))
    where
      same : (end : Option ℕ) → EndsRight (with_trail (supposed ls) (with_opened true m)) (values_of (supposed ls)) answers end → EndsRight m (values_of (supposed ls)) answers end
      same (Some n) r = r
      same None r = r

  -- what it leaves
  pub left : m.opened ≡ false → m.trail ≡ [] → (k : ℕ) (noted : List Forced) (asked after : Meaning)
      → asked ≡ with_trail (during.trail ++ noted) (counted_by k during) → after ≡ with_opened false asked → after ≡ counted_by k m
  left o e k noted asked after a f =
      f
      ∙ ap (with_opened false) (a ∙ ap (λ (x : Meaning). with_trail (x.trail ++ noted) (counted_by k x)) d)
      ∙ (λ i. record { texts = m.texts; on = m.on; trail = sym e i; opened = sym o i; answers = (counted_by k m).answers; text_limit = m.text_limit; literal_limit = m.literal_limit })

  -- and how many literals were forced
  pub few : (k : ℕ) (noted : List Forced) (asked : Meaning) → WellFormed asked → asked ≡ with_trail (during.trail ++ noted) (counted_by k during)
      → length ls + length (reverse noted) ≤ highest
  few k noted asked well a =
      let h = few_noted during noted k asked well a in
      let e = ap (λ (x : Meaning). length x.trail) d ∙ supposed_length ls in
      let r = length-reverse noted in
      omega arith
