-- What is left of a text's words behind the next one. Assumes nothing.
use Rattle.std.proofs.Common.{◌≡◌, ℕ, ◌+◌, ◌-◌, ◌≤◌, List, [], length, take, drop, sym, refl, ap, ◌∙◌, ⊎_elim, arith, length-drop}
use Rattle.std.specs.List.{prefix_len}
use Rattle.std.proofs.lemmas.List.{drop-drop, drop_all}
use Rattle.std.proofs.lemmas.Bool.{cond-false, cases_eq, ne_eqb}
use Rattle.words.specs.declared.lexis.Mode.TheVariants.{Within}
use Rattle.words.specs.Lexis.{inner, gap, start_at, Shape, name, number, end, shape}
use Rattle.words.specs.Texts.{At, front, words_from, next_of, rest_of}
use Rattle.words.proofs.Walks.{from_none, from_gap, from_here, given, gap_end}

given_next : (s : Shape) (p n : ℕ) (more : List At) → (s ≡ end → p ≡ n) → record { word = s; place = p } ≡ next_of n (given s p more)
given_next (name w) p n more h = refl
given_next (number w) p n more h = refl
given_next end p n more h = ap (λ q. record { word = end; place = q }) (h refl)

given_rest : (s : Shape) (p : ℕ) (more : List At) → (s ≡ end → more ≡ []) → more ≡ rest_of (given s p more)
given_rest (name w) p more h = refl
given_rest (number w) p more h = refl
given_rest end p more h = h refl

module _ (text : List ℕ) (at : ℕ) (fits : at ≤ length text) where
  -- where the next word begins, what it is, where it ends, and the words from there on
  abbrev begin : ℕ
  begin = at + gap (start_at at) (drop at text)

  abbrev spoken : Shape
  spoken = shape (front (drop begin text))

  abbrev stop : ℕ
  stop = begin + prefix_len inner (drop begin text)

  abbrev behind : List At
  behind = words_from Within stop (drop stop text)

  ahead_is : drop (gap (start_at at) (drop at text)) (drop at text) ≡ drop begin text
  ahead_is = drop-drop (gap (start_at at) (drop at text)) at text

  words_are : words_from (start_at at) at (drop at text) ≡ given spoken begin behind
  words_are =
      from_gap (start_at at) at (drop at text)
      ∙ ap (from_here begin) ahead_is
      ∙ ap (λ l. given spoken begin (words_from Within stop l)) (drop-drop (prefix_len inner (drop begin text)) begin text)

  at_end : spoken ≡ end → begin ≡ length text
  at_end e = omega (arith, gap_end (start_at at) (drop at text) (ap (λ l. shape (front l)) ahead_is ∙ e), length-drop at text)

  none_behind : spoken ≡ end → behind ≡ []
  none_behind e = let far : length text ≤ stop = omega (arith, at_end e) in ap (words_from Within stop) (drop_all stop text far) ∙ from_none Within stop

  -- a reader that stands behind the word goes on from there
  goes_on : words_from (start_at stop) stop (drop stop text) ≡ behind
  goes_on =
      ⊎_elim
      (λ none.
      let short : prefix_len inner (drop begin text) ≡ 0 = omega arith in
      let gone : spoken ≡ end = ap (λ k. shape (take k (drop begin text))) short in
      let far : length text ≤ stop = omega (arith, at_end gone) in
      ap (words_from (start_at stop) stop) (drop_all stop text far) ∙ from_none (start_at stop) stop ∙ sym (none_behind gone))
      (λ some. ap (λ m. words_from m stop (drop stop text)) (cond-false _ _ _ (ne_eqb stop 0 some)))
      (cases_eq stop 0)

  next_is : record { word = spoken; place = begin } ≡ next_of (length text) (words_from (start_at at) at (drop at text))
  next_is = given_next spoken begin (length text) behind at_end ∙ ap (next_of (length text)) (sym words_are)

  rest_is : words_from (start_at stop) stop (drop stop text) ≡ rest_of (words_from (start_at at) at (drop at text))
  rest_is = goes_on ∙ given_rest spoken begin behind none_behind ∙ ap rest_of (sym words_are)

  -- a reader that finds the word from p up to q
  module _ (p q : ℕ) (begins : p ≡ begin) (ends : q ≡ p + prefix_len inner (drop p text)) where
    pub next_found : record { word = shape (take (q - p) (drop p text)); place = p } ≡ next_of (length text) (words_from (start_at at) at (drop at text))
    next_found =
        let long : q - p ≡ prefix_len inner (drop p text) = omega arith in
        ap (λ k. record { word = shape (take k (drop p text)); place = p }) long
        ∙ ap (λ k. record { word = shape (front (drop k text)); place = k }) begins
        ∙ next_is

    pub rest_found : words_from (start_at q) q (drop q text) ≡ rest_of (words_from (start_at at) at (drop at text))
    rest_found = ap (λ k. words_from (start_at k) k (drop k text)) (ends ∙ ap (λ k. k + prefix_len inner (drop k text)) begins) ∙ rest_is
