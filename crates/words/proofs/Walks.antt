-- How the list of a text's words unfolds. Assumes nothing.
use Rattle.std.proofs.Common.{◌≡◌, ℕ, zero, suc, ◌+◌, true, false, List, [], ◌∷◌, length, take, drop, sym, refl, ap, ◌∙◌, ⊎_elim, one-add, arith}
use Rattle.std.specs.List.{prefix_len}
use Rattle.std.proofs.lemmas.Bool.{cond-true, cond-false, cond_both, cases_Bool, or_parts, not_from_false}
use Rattle.words.specs.declared.lexis.Mode.{Mode}
use Rattle.words.specs.declared.lexis.Mode.TheVariants.{Fresh, Within, Comment}
use Rattle.words.specs.Lexis.{blank, inner, passes, after, gap, Shape, name, number, end, numeral, shape}
use Rattle.words.specs.Texts.{At, front, words_past, words_from}

-- a byte that is not passed over belongs to a word
pub stops_inner : (m : Mode) (b : ℕ) → passes m b ≡ false → inner b ≡ true
stops_inner Fresh b e = not_from_false (blank b) (or_parts _ (blank b) e).1
stops_inner Within b e = not_from_false (blank b) e
stops_inner Comment b e = cc

-- a word goes on at a byte of a word
pub inner_more : (b : ℕ) (bs : List ℕ) → inner b ≡ true → prefix_len inner (b ∷ bs) ≡ suc (prefix_len inner bs)
inner_more b bs e = cond-true (inner b) _ _ e ∙ one-add _

-- the gap goes on at a byte that is passed over
pub gap_more : (m : Mode) (b : ℕ) (bs : List ℕ) → passes m b ≡ true → gap m (b ∷ bs) ≡ suc (gap (after m b) bs)
gap_more m b bs e = cond-true (passes m b) _ _ e ∙ one-add _

pub gap_none : (m : Mode) (b : ℕ) (bs : List ℕ) → passes m b ≡ false → gap m (b ∷ bs) ≡ 0
gap_none m b bs e = cond-false (passes m b) (1 + gap (after m b) bs) 0 e

-- the rest of a word is dropped
pub past_is : (k p : ℕ) (bs : List ℕ) → words_past k Within p bs ≡ words_from Within (p + k) (drop k bs)
unfolding words_past words_from
past_is zero p [] = refl
past_is (suc k) p [] = refl
past_is zero p (b ∷ bs) = let same : p ≡ p + 0 = omega arith in ap (λ q. words_past 0 Within q (b ∷ bs)) same
past_is (suc k) p (b ∷ bs) = let same : suc p + k ≡ p + suc k = omega arith in past_is k (suc p) bs ∙ ap (λ q. words_past 0 Within q (drop k bs)) same

pub from_none : (m : Mode) (p : ℕ) → words_from m p [] ≡ []
unfolding words_past words_from
from_none m p = refl

-- a byte that is passed over
pub from_passed : (m : Mode) (p b : ℕ) (bs : List ℕ) → passes m b ≡ true → words_from m p (b ∷ bs) ≡ words_from (after m b) (suc p) bs
unfolding words_past words_from
from_passed m p b bs e = cond-true (passes m b) _ _ e

-- a byte that begins a word
pub from_word : (m : Mode) (p b : ℕ) (bs : List ℕ) → passes m b ≡ false → words_from m p (b ∷ bs) ≡ record { word = shape (b ∷ front bs); place = p } ∷ words_from Within (suc p + prefix_len inner bs) (drop (prefix_len inner bs) bs)
unfolding words_past words_from
from_word m p b bs e = cond-false (passes m b) _ _ e ∙ ap (λ more. record { word = shape (b ∷ front bs); place = p } ∷ more) (past_is (prefix_len inner bs) (suc p) bs)

-- a word ahead of others; where there is no word, there are no others either
abbrev pub given : Shape → ℕ → List At → List At
given (name w) p more = record { word = name w; place = p } ∷ more
given (number w) p more = record { word = number w; place = p } ∷ more
given end p more = []

pub given_word : (b : ℕ) (bs : List ℕ) (p : ℕ) (more : List At) → given (shape (b ∷ bs)) p more ≡ record { word = shape (b ∷ bs); place = p } ∷ more
given_word b bs p more = cond_both (numeral (b ∷ bs)) _ _ (λ s. given s p more ≡ record { word = s; place = p } ∷ more) (λ _. refl) (λ _. refl)

-- the words of bs, of which the first begins at once
abbrev pub from_here : ℕ → List ℕ → List At
from_here p bs = given (shape (front bs)) p (words_from Within (p + prefix_len inner bs) (drop (prefix_len inner bs) bs))

here_inner : (p b : ℕ) (bs : List ℕ) → inner b ≡ true → from_here p (b ∷ bs) ≡ record { word = shape (b ∷ front bs); place = p } ∷ words_from Within (suc p + prefix_len inner bs) (drop (prefix_len inner bs) bs)
here_inner p b bs e =
    let n = prefix_len inner bs in
    let same : p + suc n ≡ suc p + n = omega arith in
    ap (λ k. given (shape (take k (b ∷ bs))) p (words_from Within (p + k) (drop k (b ∷ bs)))) (inner_more b bs e)
    ∙ given_word b (front bs) p _
    ∙ ap (λ q. record { word = shape (b ∷ front bs); place = p } ∷ words_from Within q (drop n bs)) same

-- the words are the one behind the gap, and those behind it
pub from_gap : (m : Mode) (p : ℕ) (bs : List ℕ) → words_from m p bs ≡ from_here (p + gap m bs) (drop (gap m bs) bs)
from_gap m p [] = from_none m p
from_gap m p (b ∷ bs) =
    ⊎_elim
    (λ passed.
    let g = gap (after m b) bs in
    let same : suc p + g ≡ p + suc g = omega arith in
    from_passed m p b bs passed
    ∙ from_gap (after m b) (suc p) bs
    ∙ ap (λ q. from_here q (drop g bs)) same
    ∙ ap (λ k. from_here (p + k) (drop k (b ∷ bs))) (sym (gap_more m b bs passed)))
    (λ stopped.
    let same : p ≡ p + 0 = omega arith in
    from_word m p b bs stopped
    ∙ sym (here_inner p b bs (stops_inner m b stopped))
    ∙ ap (λ q. from_here q (b ∷ bs)) same
    ∙ ap (λ k. from_here (p + k) (drop k (b ∷ bs))) (sym (gap_none m b bs stopped)))
    (cases_Bool (passes m b))

pub word_not_end : (b : ℕ) (bs : List ℕ) → shape (b ∷ bs) ≡ end → ⊥
word_not_end b bs = cond_both (numeral (b ∷ bs)) (number (b ∷ bs)) (name (b ∷ bs)) (λ s. s ≡ end → ⊥) (λ _ e. cc) (λ _ e. cc)

pub front_more : (b : ℕ) (bs : List ℕ) → inner b ≡ true → front (b ∷ bs) ≡ b ∷ front bs
front_more b bs e = ap (λ k. take k (b ∷ bs)) (inner_more b bs e)

-- where no word is behind the gap, the text ends there
pub gap_end : (m : Mode) (bs : List ℕ) → shape (front (drop (gap m bs) bs)) ≡ end → gap m bs ≡ length bs
gap_end m [] e = refl
gap_end m (b ∷ bs) e =
    ⊎_elim
    (λ passed.
    let g = gap_more m b bs passed in
    g ∙ ap suc (gap_end (after m b) bs (sym (ap (λ k. shape (front (drop k (b ∷ bs)))) g) ∙ e)))
    (λ stopped.
    let g = gap_none m b bs stopped in
    let w = front_more b bs (stops_inner m b stopped) in
    absurd (word_not_end b (front bs) (sym (ap (λ k. shape (front (drop k (b ∷ bs)))) g ∙ ap shape w) ∙ e)))
    (cases_Bool (passes m b))
