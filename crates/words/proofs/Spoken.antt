-- What a text that is written word by word reads as. Assumes nothing.
use Rattle.std.proofs.Common.{◌≡◌, ℕ, zero, suc, ◌+◌, ◌^◌, ◌<◌, true, false, eqb, List, [], ◌∷◌, ◌++◌, length, get_or, take, drop, decimal, All, refl, ap, ◌∙◌, arith}
use Rattle.std.specs.List.{prefix_len}
use Rattle.std.specs.Str.{all_ascii_digits}
use Rattle.std.proofs.lemmas.List.{take_at, drop_at}
use Rattle.std.proofs.lemmas.List.Elements.{All-nil, All-cons, All-head, All-tail}
use Rattle.std.proofs.lemmas.Bool.{cond-true, cond-false, ne_eqb, and_right, or_left, false≢true}
use Rattle.std.proofs.lemmas.Bool.Decides.{nat_tests}
use Rattle.std.proofs.lemmas.Fmt.{decimal_nonempty, first_decimal, digits_decimal, digits_value-decimal, decimal_digit}
use Rattle.words.specs.declared.lexis.Mode.{Mode}
use Rattle.words.specs.declared.lexis.Mode.TheVariants.{Fresh, Within}
use Rattle.words.specs.Lexis.{inner, passes, plain, natural, numeral, is_zero, number, shape}
use Rattle.words.specs.Numbers.{value}
use Rattle.words.specs.Texts.{words_from}
use Rattle.words.proofs.Values.{own}
use Rattle.words.proofs.Walks.{inner_more, from_none, from_passed, from_word}

-- a text without a byte has no word
pub spoken_none : (m : Mode) (p : ℕ) → words_from m p [] ≡ []
spoken_none m p = from_none m p

-- a space behind a word is passed over
pub spoken_space : (p : ℕ) (bs : List ℕ) → words_from Within p (32 ∷ bs) ≡ words_from Within (suc p) bs
spoken_space p bs = from_passed Within p 32 bs refl

-- a line feed behind a word is passed over, and a line begins
pub spoken_line : (p : ℕ) (bs : List ℕ) → words_from Within p (10 ∷ bs) ≡ words_from Fresh (suc p) bs
spoken_line p bs = from_passed Within p 10 bs refl

-- a byte of a word
abbrev pub Solid : ℕ → Type 0
Solid b = (inner b ≡ true)

leading_word : (w : List ℕ) (s : ℕ) (rest : List ℕ) → All Solid w → inner s ≡ false → prefix_len inner (w ++ s ∷ rest) ≡ length w
leading_word [] s rest h e = cond-false _ _ _ e
leading_word (b ∷ w) s rest h e = inner_more b (w ++ s ∷ rest) (All-head Solid b w h) ∙ ap suc (leading_word w s rest (All-tail Solid b w h) e)

-- a word with a blank behind it is the next word
pub spoken_word : (m : Mode) (p : ℕ) (w : List ℕ) (s : ℕ) (rest : List ℕ) → 0 < length w → All Solid w → passes m (get_or w 0 0) ≡ false → inner s ≡ false → words_from m p (w ++ s ∷ rest) ≡ record { word = shape w; place = p } ∷ words_from Within (p + length w) (s ∷ rest)
spoken_word m p [] s rest some solid first white = absurd (omega arith)
spoken_word m p (b ∷ w) s rest some solid first white =
    let bs = w ++ s ∷ rest in
    let long : prefix_len inner bs ≡ length w = leading_word w s rest (All-tail Solid b w solid) white in
    let same : suc p + length w ≡ p + suc (length w) = omega arith in
    from_word m p b bs first
    ∙ ap (λ k. record { word = shape (b ∷ take k bs); place = p } ∷ words_from Within (suc p + k) (drop k bs)) long
    ∙ ap (λ l. record { word = shape (b ∷ l); place = p } ∷ words_from Within (suc p + length w) (drop (length w) bs)) (take_at w (s ∷ rest) (length w) refl)
    ∙ ap (λ l. record { word = shape (b ∷ w); place = p } ∷ words_from Within (suc p + length w) l) (drop_at w (s ∷ rest) (length w) refl)
    ∙ ap (λ q. record { word = shape (b ∷ w); place = p } ∷ words_from Within q (s ∷ rest)) same

-- what bytes are that are a word and a number, wherever they stand
pub record Spelled (w : List ℕ) : Type 0 where
  pub some : 0 < length w
  pub solid : All Solid w
  pub fresh : passes Fresh (get_or w 0 0) ≡ false
  pub within : passes Within (get_or w 0 0) ≡ false
  pub is_numeral : numeral w ≡ true
  pub is_number : shape w ≡ number w

solid_digits : (ds : List ℕ) → all_ascii_digits ds ≡ true → All Solid ds
solid_digits [] h = All-nil Solid
solid_digits (b ∷ bs) h = All-cons Solid b bs (grind (arith, nat_tests)) (solid_digits bs (grind (arith, nat_tests)))

digits_plain : (ds : List ℕ) → all_ascii_digits ds ≡ true → 0 < length ds → 48 < get_or ds 0 0 → plain ds ≡ true
digits_plain [] h some first = absurd (omega arith)
digits_plain (b ∷ bs) h some first = grind (arith, nat_tests)

-- digits that are a number without a sign
spelled_digits : (ds : List ℕ) → all_ascii_digits ds ≡ true → natural ds ≡ true → Spelled ds
spelled_digits [] h n = absurd (false≢true n)
spelled_digits (b ∷ bs) h n =
    let told : numeral (b ∷ bs) ≡ true = grind (arith, nat_tests) in
    record {
      some = omega arith;
      solid = solid_digits (b ∷ bs) h;
      fresh = grind (arith, nat_tests);
      within = grind (arith, nat_tests);
      is_numeral = told;
      is_number = cond-true _ _ _ told;
    }

spelled_minus : (ds : List ℕ) → all_ascii_digits ds ≡ true → plain ds ≡ true → Spelled (45 ∷ ds)
spelled_minus ds h p = record {
  some = omega arith;
  solid = All-cons Solid 45 ds refl (solid_digits ds h);
  fresh = refl;
  within = refl;
  is_numeral = p;
  is_number = cond-true _ _ _ p;
}

natural_plain : (ds : List ℕ) → plain ds ≡ true → natural ds ≡ true
natural_plain [] p = absurd (false≢true p)
natural_plain (b ∷ bs) p = or_left (plain (b ∷ bs)) _ p

decimal_plain : (n : ℕ) → 0 < n → n < 2 ^ 64 → plain (decimal n) ≡ true
decimal_plain n some fits = digits_plain (decimal n) (digits_decimal own n fits) (decimal_nonempty n fits) (first_decimal n some fits)

-- what is written of a number is a number without a sign, ..
pub decimal_natural : (n : ℕ) → n < 2 ^ 64 → natural (decimal n) ≡ true
decimal_natural zero fits = ap natural (decimal_digit 0 (omega arith))
decimal_natural (suc n) fits = natural_plain (decimal (suc n)) (decimal_plain (suc n) (omega arith) fits)

-- .. reads back as the number, ..
pub decimal_value : (n : ℕ) → n < 2 ^ 64 → value (decimal n) ≡ n
decimal_value n fits = digits_value-decimal own n fits

-- .. is a word wherever it stands, ..
pub decimal_spelled : (n : ℕ) → n < 2 ^ 64 → Spelled (decimal n)
decimal_spelled n fits = spelled_digits (decimal n) (digits_decimal own n fits) (decimal_natural n fits)

-- .. and so it is with a minus ahead, unless the number is 0
pub minus_spelled : (n : ℕ) → 0 < n → n < 2 ^ 64 → Spelled (45 ∷ decimal n)
minus_spelled n some fits = spelled_minus (decimal n) (digits_decimal own n fits) (decimal_plain n some fits)

-- `0` is the word that a number 0 is written as, and no other number is
pub zero_is_zero : is_zero (decimal 0) ≡ true
zero_is_zero = ap is_zero (decimal_digit 0 (omega arith))

pub decimal_not_zero : (n : ℕ) → 0 < n → n < 2 ^ 64 → is_zero (decimal n) ≡ false
decimal_not_zero n some fits = and_right _ _ (ne_eqb (get_or (decimal n) 0 0) 48 (λ q. omega (arith, first_decimal n some fits)))

pub minus_not_zero : (ds : List ℕ) → is_zero (45 ∷ ds) ≡ false
minus_not_zero ds = and_right _ _ refl

-- a minus is ahead of no number that is written without a sign
digits_no_minus : (ds : List ℕ) → all_ascii_digits ds ≡ true → 0 < length ds → eqb (get_or ds 0 0) 45 ≡ false
digits_no_minus [] h some = absurd (omega arith)
digits_no_minus (b ∷ bs) h some = grind (arith, nat_tests)

pub decimal_no_minus : (n : ℕ) → n < 2 ^ 64 → eqb (get_or (decimal n) 0 0) 45 ≡ false
decimal_no_minus n fits = digits_no_minus (decimal n) (digits_decimal own n fits) (decimal_nonempty n fits)

-- a word that begins with a minus is no number without a sign
pub minus_not_natural : (ds : List ℕ) → natural (45 ∷ ds) ≡ false
minus_not_natural ds = refl
