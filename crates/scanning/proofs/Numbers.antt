-- The numbers from 1 to the last, one after another.
use Rattle.std.proofs.Common.{◌≡◌, ℕ, ◌+◌, ◌-◌, ◌<◌, ◌≤◌, Bool, true, false, Some, None, Option, subst, ap, ◌∙◌, arith}
use denote.Ref.{Bor}
use denote.Param.Members.{Mut, Called}
use Rattle.std.specs.Prelude.{IfSome, IsSomeAnd, MatchOption, IsTrue}
use Rattle.std.specs.Fn.{CalledAt}
use Rattle.std.specs.Option.{option_map}
use Rattle.std.specs.declared.ops.RangeInclusive.{RangeInclusive}
use Rattle.std.specs.Range.{range_inclusive_start, range_inclusive_end, range_inclusive_exhausted}
use Rattle.std.specs.Iterator.Runs.{Run, SomeRun, AllItems, AllItemsBelow, CallKeepsClosure, NoItemPasses, EndsAtFirstPassing, AllItemsGive, IsFirstToGive}
use Rattle.std.proofs.iter.runs.Sources.{nat_range_inclusive_steps, inclusive_listed}

-- an item that is copied is that item
itself : (o : Option ℕ) (x : ℕ) → option_map (λ y. y) o ≡ Some x → o ≡ Some x
itself (Some y) x e = e
itself None x e = cc

module _ (s : RangeInclusive ℕ) (n : ℕ) (start : range_inclusive_start s ≡ 1) (end : range_inclusive_end s ≡ n)
    (fresh : range_inclusive_exhausted s ≡ false) (p : Run nat_range_inclusive_steps) (from : p.from ≡ s) where
  -- the number at each place
  number_at : (k : ℕ) → k < p.len → p.at k ≡ Some (k + 1)
  number_at k h =
      let l = inclusive_listed p p.seen in
      let e = l.4 (ap range_inclusive_exhausted from ∙ fresh) in
      let one : l.0 ≡ 1 = l.2 ∙ ap range_inclusive_start from ∙ start in
      let next : l.0 + k ≡ k + 1 = omega arith in
      itself (p.at k) (k + 1) (e.0.3 k h ∙ ap (λ (x : ℕ). Some x) next)

  all_come : p.whole ≡ true → p.len ≡ n
  all_come w =
      let l = inclusive_listed p p.seen in
      let e = l.4 (ap range_inclusive_exhausted from ∙ fresh) in
      omega (arith, e.0.1 w, l.2, l.3, ap range_inclusive_start from, ap range_inclusive_end from, start, end)

  -- what holds of each item holds of each number
  of_all : (P : ℕ → Type 0) → p.whole ≡ true → AllItems p P → (k : ℕ) → 1 ≤ k → k ≤ n → P k
  of_all P w each k low high =
      let m = all_come w in
      let back : k - 1 + 1 ≡ k = omega arith in
      subst P back (subst (λ (o : Option ℕ). IfSome o P) (number_at (k - 1) (omega arith)) (each (k - 1)))

  of_those_below : (P : ℕ → Type 0) (i : ℕ) → i < p.len → AllItemsBelow p i P → (k : ℕ) → 1 ≤ k → k < i + 1 → P k
  of_those_below P i h each k low high =
      let back : k - 1 + 1 ≡ k = omega arith in
      subst P back (subst (λ (o : Option ℕ). IsSomeAnd o P) (number_at (k - 1) (omega arith)) (each (k - 1) (omega arith)))

  of_this : (P : ℕ → Type 0) (i : ℕ) → i < p.len → IsSomeAnd (p.at i) P → P (i + 1)
  of_this P i h here = subst (λ (o : Option ℕ). IsSomeAnd o P) (number_at i h) here

-- what `find` answers over these numbers
pub first_number : {F : Type 0} {g : Mut F (Bor ℕ × Unit {0}) Bool} (s : RangeInclusive ℕ) (f : F) (n : ℕ) (r : Option ℕ) (Yes No : ℕ → Type 0)
    → range_inclusive_start s ≡ 1 → range_inclusive_end s ≡ n → range_inclusive_exhausted s ≡ false
    → SomeRun nat_range_inclusive_steps s (λ u. MatchOption r (IsTrue u.whole × NoItemPasses u g f) (EndsAtFirstPassing u g f))
    → CallKeepsClosure g f → ((x : ℕ) → CalledAt g f x true f → Yes x) → ((x : ℕ) → CalledAt g f x false f → No x)
    → MatchOption r ((k : ℕ) → 1 ≤ k → k ≤ n → No k) (λ i. Yes i × ((k : ℕ) → 1 ≤ k → k < i → No k))
first_number s f n None Yes No start end fresh run keeps hit miss =
    λ k low high. miss k (of_all s n start end fresh run.0 run.1 _ run.2.0 (run.2.1 keeps) k low high)
first_number s f n (Some x) Yes No start end fresh run keeps hit miss =
    let e = run.2 in
    let i = e.0 in
    let l : i < run.0.len = omega (arith, e.1) in
    let is : x ≡ i + 1 = cc (e.2, number_at s n start end fresh run.0 run.1 i l) in
    (hit x (e.3 keeps).0, λ k low high. miss k (of_those_below s n start end fresh run.0 run.1 _ i l (e.3 keeps).1 k low (omega arith)))

-- and `find_map`
pub first_mapped : {F R : Type 0} {g : Mut F (ℕ × Unit {0}) (Option R)} (s : RangeInclusive ℕ) (f : F) (n : ℕ) (r : Option R) (Yes : ℕ → R → Type 0) (No : ℕ → Type 0)
    → range_inclusive_start s ≡ 1 → range_inclusive_end s ≡ n → range_inclusive_exhausted s ≡ false
    → SomeRun nat_range_inclusive_steps s (λ p. MatchOption r (IsTrue p.whole × AllItemsGive p g f None) (λ y. (i : ℕ) × (i < p.len) × (p.len ≡ i + 1) × IsFirstToGive p g f (Some y) None i))
    → CallKeepsClosure g f → ((x : ℕ) (y : R) → Called g f (x, tt) (Some y) f → Yes x y) → ((x : ℕ) → Called g f (x, tt) None f → No x)
    → MatchOption r ((k : ℕ) → 1 ≤ k → k ≤ n → No k) (λ y. (i : ℕ) × Yes i y × ((k : ℕ) → 1 ≤ k → k < i → No k))
first_mapped s f n None Yes No start end fresh run keeps hit miss =
    λ k low high. miss k (of_all s n start end fresh run.0 run.1 _ run.2.0 (run.2.1 keeps) k low high)
first_mapped s f n (Some y) Yes No start end fresh run keeps hit miss =
    let e = run.2 in
    let i = e.0 in
    let first = e.3 keeps in
    (i + 1, hit (i + 1) y (of_this s n start end fresh run.0 run.1 _ i e.1 first.0), λ k low high. miss k (of_those_below s n start end fresh run.0 run.1 _ i e.1 first.1 k low high))
