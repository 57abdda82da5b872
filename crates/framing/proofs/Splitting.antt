-- A counted text is its first line and what stands behind that. Assumes nothing.
use Rattle.std.proofs.Common.{◌≡◌, ℕ, suc, ◌+◌, ◌-◌, ◌<◌, ◌≤◌, Bool, eqb, Some, None, List, ◌∷◌, ◌++◌, length, take, drop, decimal, sym, refl, ap, ◌∙◌, arith, length-append, length-drop}
use Rattle.std.specs.List.{position, position_or_len, before_first, after_first}
use Rattle.std.proofs.Math.Seq.{get_or-append_seam}
use Rattle.std.proofs.lemmas.List.{take_at, take_all, drop_at, drop-drop, get_or_append_left}
use Rattle.std.proofs.lemmas.List.Quantifiers.{position-Some}
use Rattle.std.proofs.lemmas.List.Sums.{position_or_len_is, split_at_first, passes_at_first}
use Rattle.std.proofs.lemmas.Bool.{cond-true, lt-ltb, ne_eqb, eqb-true}
use Rattle.std.proofs.lemmas.Str.Parse.{not_in_digits}
use Rattle.std.proofs.lemmas.Fmt.{digits_decimal, decimal_injective}
use Rattle.words.proofs.Values.{own}
use Rattle.framing.specs.Counted.{Counts, NoCount, Uncounted}

-- a line feed
abbrev pub feed : ℕ → Bool
feed b = eqb b 10

-- the first line of a counted text, and what stands behind it
pub record Parts (input text rest : List ℕ) : Type 0 where
  pub few : length text ≤ 32768
  pub longer : position_or_len feed input < length input
  pub line : before_first feed input ≡ decimal (length text)
  pub behind : after_first feed input ≡ text ++ rest

-- digits have no line feed, so a line of digits ends at its line feed
line_end : (n : ℕ) (more : List ℕ) → n ≤ 32768 → position_or_len feed (decimal n ++ (10 ∷ more)) ≡ length (decimal n)
line_end n more few =
    let ds = decimal n in
    position_or_len_is feed (ds ++ (10 ∷ more)) (length ds) 0 (omega (arith, length-append ds (10 ∷ more)))
    (λ k h. ap feed (get_or_append_left ds (10 ∷ more) 0 k h) ∙ ne_eqb _ 10 (not_in_digits own ds 10 (digits_decimal own n (omega arith)) (λ r. omega (arith, r)) k h))
    (λ h. ap feed (get_or-append_seam ds 10 more 0))

pub parts_of : (input text rest : List ℕ) → Counts input text rest → Parts input text rest
parts_of input text rest c =
    let few = c.few in
    let number = decimal (length text) in
    let more = text ++ rest in
    let long : position_or_len feed input ≡ length number = ap (position_or_len feed) c.parts ∙ line_end (length text) more few in
    let size : length input ≡ length number + suc (length more) = ap length c.parts ∙ length-append number (10 ∷ more) in
    record {
      few = few;
      longer = omega arith;
      line = (λ i. take (long i) (c.parts i)) ∙ take_at number (10 ∷ more) (length number) refl;
      behind = (λ i. drop (long i + 1) (c.parts i)) ∙ sym (drop-drop 1 (length number) (number ++ (10 ∷ more))) ∙ ap (drop 1) (drop_at number (10 ∷ more) (length number) refl);
    }

pub counts_of : (input text rest : List ℕ) → Parts input text rest → Counts input text rest
counts_of input text rest p =
    let at = eqb-true _ 10 (passes_at_first feed input 0 p.longer) in
    record { few = p.few; parts = split_at_first feed input 0 p.longer ∙ (λ i. p.line i ++ (at i ∷ p.behind i)) }

-- where a line feed is found, the first line ends
pub line_ends : (input : List ℕ) (end : ℕ) → position feed input ≡ Some end → (end ≡ position_or_len feed input) × (end < length input)
line_ends input end e =
    let s = position-Some feed input end 0 e in
    (sym (position_or_len_is feed input end 0 (omega (arith, s.0)) s.2 (λ _. s.1)), s.0)

-- no counted text begins where there is no line feed, ..
pub no_line : (input : List ℕ) → position feed input ≡ None → Uncounted input
no_line input e text rest counts =
    let longer = (parts_of input text rest counts).longer in
    let none : Some (position_or_len feed input) ≡ None = sym (cond-true _ _ _ (lt-ltb _ _ longer)) ∙ e in
    cc

-- .. where the first line says no number, ..
pub no_count : (input : List ℕ) (end : ℕ) → end ≡ position_or_len feed input → NoCount (take end input) → Uncounted input
no_count input end e none text rest counts =
    none (length text) counts.few (ap (λ k. take k input) e ∙ (parts_of input text rest counts).line)

-- what the slice behind the first line is
pub behind_is : (input : List ℕ) (end : ℕ) → end ≡ position_or_len feed input → take (length input - (end + 1)) (drop (end + 1) input) ≡ after_first feed input
behind_is input end e = take_all (length input - (end + 1)) (drop (end + 1) input) (omega (arith, length-drop (end + 1) input)) ∙ ap (λ k. drop (k + 1) input) e

-- .. or where fewer bytes are behind it than it says
pub too_short : (input : List ℕ) (end count : ℕ) → end ≡ position_or_len feed input → count ≤ 32768 → take end input ≡ decimal count → length (after_first feed input) < count → Uncounted input
too_short input end count e few line short text rest counts =
    let p = parts_of input text rest counts in
    let same : decimal count ≡ decimal (length text) = sym line ∙ ap (λ k. take k input) e ∙ p.line in
    let is : count ≡ length text = decimal_injective count (length text) (omega arith) (omega (arith, p.few)) same in
    omega (arith, ap length p.behind, length-append text rest)
