-- The numbers from the last down to 1, one after another.
use Rattle.std.proofs.Common.{◌≡◌, ℕ, ◌-◌, ◌<◌, ◌≤◌, Bool, true, false, Some, None, Option, sym, subst, ap, ◌∙◌, arith}
use denote.Ref.{Bor}
use denote.Param.Members.{Mut}
use Rattle.std.specs.Prelude.{IfSome, IsSomeAnd, MatchOption, IsTrue}
use Rattle.std.specs.Fn.{CalledAt}
use Rattle.std.specs.Option.{option_map}
use Rattle.std.specs.declared.ops.RangeInclusive.{RangeInclusive}
use Rattle.std.specs.declared.iter.Rev.{Rev}
use Rattle.std.specs.Range.{range_inclusive_start, range_inclusive_end, range_inclusive_exhausted}
use Rattle.std.specs.Iterator.Adapters.{rev_steps, RevKeepsRuns}
use Rattle.std.specs.Iterator.Runs.{Run, SomeRun, AllItems, AllItemsBelow, CallKeepsClosure, NoItemPasses, EndsAtFirstPassing}
use Rattle.std.proofs.iter.runs.Sources.{nat_range_inclusive_steps_back, inclusive_listed_back}

-- an item that is copied is that item
itself : (o : Option ℕ) (x : ℕ) → option_map (λ y. y) o ≡ Some x → o ≡ Some x
itself (Some y) x e = e
itself None x e = cc

-- the numbers come from n down to 1, one after another
pub record RunsDown {T : Type 0} (steps : T → Option ℕ → T → Type 0) (t : T) (n : ℕ) : Type 0 where
  pub come : (p : Run steps) → p.from ≡ t → (p.len ≤ n) × (p.whole ≡ true → p.len ≡ n) × ((k : ℕ) → k < p.len → p.at k ≡ Some (n - k))

pub runs_down : (s : RangeInclusive ℕ) (t : Rev (RangeInclusive ℕ)) (n : ℕ) → range_inclusive_start s ≡ 1 → range_inclusive_end s ≡ n → range_inclusive_exhausted s ≡ false
    → RevKeepsRuns nat_range_inclusive_steps_back s t → RunsDown (rev_steps nat_range_inclusive_steps_back) t n
runs_down s t n start end fresh back = record {
  come = λ p from.
      let q = back p p.seen from in
      let l = inclusive_listed_back q.0 q.0.seen in
      let e = l.4 (ap range_inclusive_exhausted q.1 ∙ fresh) in (
        omega (arith, e.0.0, l.2, l.3, ap range_inclusive_start q.1, ap range_inclusive_end q.1, start, end, q.2.0.0),
        λ w. omega (arith, e.0.1 (q.2.1 ∙ w), l.2, l.3, ap range_inclusive_start q.1, ap range_inclusive_end q.1, start, end, q.2.0.0),
        λ k h.
            let down : l.1 - 1 - k ≡ n - k = omega (arith, l.3, ap range_inclusive_end q.1, end) in
            sym (q.2.0.2 k) ∙ itself (q.0.at k) (n - k) (e.0.3 k (omega (arith, q.2.0.0)) ∙ ap (λ (x : ℕ). Some x) down),
      );
}

module _ {T : Type 0} {steps : T → Option ℕ → T → Type 0} (t : T) (n : ℕ) (down : RunsDown steps t n) (p : Run steps) (from : p.from ≡ t) where
  -- what holds of each item holds of each number
  of_all : (P : ℕ → Type 0) → p.whole ≡ true → AllItems p P → (k : ℕ) → 1 ≤ k → k ≤ n → P k
  of_all P w each k low high =
      let d = down.come p from in
      let m = d.1 w in
      let its : n - (n - k) ≡ k = omega arith in
      subst P its (subst (λ (o : Option ℕ). IfSome o P) (d.2 (n - k) (omega arith)) (each (n - k)))

  of_those_above : (P : ℕ → Type 0) (i : ℕ) → i < p.len → AllItemsBelow p i P → (k : ℕ) → n - i < k → k ≤ n → P k
  of_those_above P i h each k low high =
      let its : n - (n - k) ≡ k = omega arith in
      subst P its (subst (λ (o : Option ℕ). IsSomeAnd o P) ((down.come p from).2 (n - k) (omega arith)) (each (n - k) (omega arith)))

-- what `find` answers over such numbers
pub last_number : {F T : Type 0} {g : Mut F (Bor ℕ × Unit {0}) Bool} {steps : T → Option ℕ → T → Type 0} (t : T) (f : F) (n : ℕ) (r : Option ℕ) (Yes No : ℕ → Type 0)
    → RunsDown steps t n → SomeRun steps t (λ u. MatchOption r (IsTrue u.whole × NoItemPasses u g f) (EndsAtFirstPassing u g f))
    → CallKeepsClosure g f → ((x : ℕ) → CalledAt g f x true f → Yes x) → ((x : ℕ) → CalledAt g f x false f → No x)
    → MatchOption r ((k : ℕ) → 1 ≤ k → k ≤ n → No k) (λ i. (1 ≤ i) × (i ≤ n) × Yes i × ((k : ℕ) → i < k → k ≤ n → No k))
last_number t f n None Yes No down run keeps hit miss =
    λ k low high. miss k (of_all t n down run.0 run.1 _ run.2.0 (run.2.1 keeps) k low high)
last_number t f n (Some x) Yes No down run keeps hit miss =
    let e = run.2 in
    let i = e.0 in
    let l : i < run.0.len = omega (arith, e.1) in
    let d = down.come run.0 run.1 in
    let few = d.0 in
    let is : x ≡ n - i = cc (e.2, d.2 i l) in
    (omega arith, omega arith, hit x (e.3 keeps).0, λ k low high. miss k (of_those_above t n down run.0 run.1 _ i l (e.3 keeps).1 k (omega arith) high))
