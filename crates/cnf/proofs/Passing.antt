-- A test over a list: some element passes, none does, or each does.
use Rattle.std.proofs.Common.{◌≡◌, Bool, true, false, List, [], ◌∷◌, sym, refl, ap, ◌∙◌, inl, inr}
use mathlib.Core.Bool.{false≢true}
use mathlib.Core.List.Memᴰ.{head as here}
use mathlib.Core.List.Memᴰ.{tail as there}
use Rattle.std.proofs.lemmas.Bool.{and_parts, or_cases, or_from, or_left, or_parts, or_right}
use Rattle.std.specs.List.{list_all, list_any}
use Rattle.cnf.specs.Clauses.{◌∈◌}

module _ {A : Type 0} (test : A → Bool) where
  -- an element that passes
  pub some_passes : (xs : List A) → list_any test xs ≡ true → (x : A) × (x ∈ xs) × (test x ≡ true)
  some_passes [] e = absurd (false≢true e)
  some_passes (x ∷ xs) e =
      elim (or_cases (test x) (list_any test xs) e) [
        | inl p ↦ (x, here refl, p)
        | inr h ↦ let r = some_passes xs h in (r.0, there r.1, r.2)
      ]

  pub any_passes : {x : A} {xs : List A} → x ∈ xs → test x ≡ true → list_any test xs ≡ true
  any_passes {x} (here {x = y} {xs = xs} e) p = or_left (test y) (list_any test xs) (ap test (sym e) ∙ p)
  any_passes {x} (there {x = y} {xs = xs} m) p = or_right (test y) (list_any test xs) (any_passes m p)

  -- no element passes
  pub none_passes : {x : A} {xs : List A} → x ∈ xs → list_any test xs ≡ false → test x ≡ false
  none_passes {x} (here {x = y} {xs = xs} e) n = ap test e ∙ (or_parts (test y) (list_any test xs) n).0
  none_passes {x} (there {x = y} {xs = xs} m) n = none_passes m (or_parts (test y) (list_any test xs) n).1

  pub all_fail : (xs : List A) → ((x : A) → x ∈ xs → test x ≡ false) → list_any test xs ≡ false
  all_fail [] f = refl
  all_fail (x ∷ xs) f = or_from (test x) (list_any test xs) (f x (here refl)) (all_fail xs (λ y m. f y (there m)))

  -- each element passes
  pub each_passes : {x : A} {xs : List A} → x ∈ xs → list_all test xs ≡ true → test x ≡ true
  each_passes {x} (here {x = y} {xs = xs} e) a = ap test e ∙ (and_parts (test y) (list_all test xs) a).0
  each_passes {x} (there {x = y} {xs = xs} m) a = each_passes m (and_parts (test y) (list_all test xs) a).1
