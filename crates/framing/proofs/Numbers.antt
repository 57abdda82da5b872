-- A number without a sign is what is written of its value. Assumes nothing.
use Rattle.std.proofs.Common.{◌≡◌, ℕ, ◌^◌, ◌<◌, ◌≤◌, min, Bool, true, false, leb, List, [], ◌∷◌, decimal, sym, refl, ap, ◌∙◌, MatchOption, arith}
use Rattle.std.specs.Bool.{then_some}
use Rattle.std.proofs.lemmas.Bool.{leb-true, leb-false, false≢true}
use Rattle.std.proofs.lemmas.Bool.Decides.{nat_tests}
use Rattle.std.proofs.lemmas.Fmt.{decimal-digits_value}
use Rattle.words.specs.Lexis.{natural}
use Rattle.words.specs.Numbers.{value}
use Rattle.words.proofs.Values.{own}
use Rattle.words.proofs.Spoken.{decimal_natural, decimal_value}
use Rattle.framing.specs.Counted.{NoCount}

-- a number without a sign is what is written of its value
pub natural_decimal : (ds : List ℕ) → natural ds ≡ true → value ds < 2 ^ 64 → decimal (value ds) ≡ ds
natural_decimal [] n small = absurd (false≢true n)
natural_decimal (b ∷ []) n small = decimal-digits_value own (b ∷ []) (grind (arith, nat_tests)) (omega arith) (λ e. refl) small
natural_decimal (b ∷ c ∷ cs) n small = decimal-digits_value own (b ∷ c ∷ cs) (grind (arith, nat_tests)) (omega arith) (λ e. grind (arith, nat_tests)) small

-- a line that is a number without a sign says it, where it is not too large
pub says : (line : List ℕ) (count : ℕ) → natural line ≡ true → count ≡ min (value line) 65535 → MatchOption (then_some (leb count 32768) count) (NoCount line) (λ n. (n ≤ 32768) × (line ≡ decimal n))
says line count is e = go (leb count 32768) refl
  where
    go : (u : Bool) → leb count 32768 ≡ u → MatchOption (then_some u count) (NoCount line) (λ n. (n ≤ 32768) × (line ≡ decimal n))
    go false many = λ n low q. omega (arith, leb-false count 32768 many, ap value q ∙ decimal_value n (omega arith))
    go true few =
        let low : count ≤ 32768 = leb-true count 32768 few in
        let same : value line ≡ count = omega arith in
        (low, sym (natural_decimal line is (omega arith)) ∙ ap decimal same)

-- any other line says none
pub says_none : (line : List ℕ) → natural line ≡ false → NoCount line
says_none line none n low q = false≢true (sym none ∙ ap natural q ∙ decimal_natural n (omega arith))
