-- What a caller learns of the words that a reader gives. Assumes nothing.
use Rattle.std.proofs.Common.{◌≡◌, ℕ, zero, suc, true, false, List, [], ◌∷◌, All, sym, refl, ap, ◌∙◌, subst, arith}
use Rattle.std.specs.List.{prefix_len}
use Rattle.std.proofs.lemmas.List.Elements.{All-nil, All-cons, All-head, All-tail}
use Rattle.std.proofs.lemmas.Bool.{cond_both}
use Rattle.words.specs.declared.lexis.Mode.{Mode}
use Rattle.words.specs.declared.lexis.Mode.TheVariants.{Within}
use Rattle.words.specs.declared.reader.Words.{Words}
use Rattle.words.specs.Lexis.{inner, passes, after, numeral, Shape, name, number, end, shape}
use Rattle.words.specs.Texts.{At, front, words_past, words_from, next_of, rest_of}
use Rattle.words.specs.Reading.{left}

-- a number's bytes are a numeral, a name's are none, and the end is no word
abbrev pub Told : At → Type 0
Told a = elim a.word as (λ _. Type 0) [ name w ↦ numeral w ≡ false | number w ↦ numeral w ≡ true | end ↦ ⊥ ]

told_word : (b : ℕ) (bs : List ℕ) (p : ℕ) → Told (record { word = shape (b ∷ bs); place = p })
told_word b bs p = cond_both (numeral (b ∷ bs)) (number (b ∷ bs)) (name (b ∷ bs)) (λ s. Told (record { word = s; place = p })) (λ is. is) (λ is. is)

told_past : (k : ℕ) (m : Mode) (p : ℕ) (bs : List ℕ) → All Told (words_past k m p bs)
unfolding words_past
told_past k m p [] = All-nil Told
told_past (suc k) m p (b ∷ bs) = told_past k Within (suc p) bs
told_past zero m p (b ∷ bs) =
    cond_both (passes m b) _ _ (All Told) (λ passed. told_past 0 (after m b) (suc p) bs)
    (λ stopped. All-cons Told _ _ (told_word b (front bs) p) (told_past (prefix_len inner bs) Within (suc p) bs))

-- so it is with all words of a text, ..
pub told_from : (m : Mode) (p : ℕ) (bs : List ℕ) → All Told (words_from m p bs)
unfolding words_from
told_from m p bs = told_past 0 m p bs

-- .. with those that a reader has still to give, ..
pub told_left : (r : Words) → All Told (left r)
unfolding left
told_left r = told_from _ _ _

-- .. and with those behind the first
pub told_rest : (ws : List At) → All Told ws → All Told (rest_of ws)
told_rest [] h = All-nil Told
told_rest (a ∷ ws) h = All-tail Told a ws h

-- a name that comes next is the first word
pub next_name : (n : ℕ) (ws : List At) (a : At) (w : List ℕ) → a ≡ next_of n ws → a.word ≡ name w → ws ≡ a ∷ rest_of ws
next_name n [] a w e is = let q : name w ≡ end = sym is ∙ ap (λ x. x.word) e in let z : ◌≡◌ {A = ℕ} 0 1 = cc in absurd (omega arith)
next_name n (b ∷ ws) a w e is = ap (λ x. x ∷ ws) (sym e)

-- so is a number
pub next_number : (n : ℕ) (ws : List At) (a : At) (w : List ℕ) → a ≡ next_of n ws → a.word ≡ number w → ws ≡ a ∷ rest_of ws
next_number n [] a w e is = let q : number w ≡ end = sym is ∙ ap (λ x. x.word) e in let z : ◌≡◌ {A = ℕ} 0 1 = cc in absurd (omega arith)
next_number n (b ∷ ws) a w e is = ap (λ x. x ∷ ws) (sym e)

-- what is told of a word is told of its shape
told_as : (a b : At) (s : Shape) → a ≡ b → a.word ≡ s → Told b → Told (record { word = s; place = 0 })
told_as a b s e is h = subst (λ t. Told (record { word = t; place = 0 })) (ap (λ x. x.word) (sym e) ∙ is) h

-- its bytes are a numeral
pub next_numeral : (n : ℕ) (ws : List At) (a : At) (w : List ℕ) → All Told ws → a ≡ next_of n ws → a.word ≡ number w → numeral w ≡ true
next_numeral n [] a w h e is = let q : number w ≡ end = sym is ∙ ap (λ x. x.word) e in let z : ◌≡◌ {A = ℕ} 0 1 = cc in absurd (omega arith)
next_numeral n (b ∷ ws) a w h e is = told_as a b (number w) e is (All-head Told b ws h)

-- where the end comes next, no word is left, and the place is the text's length
pub next_end : (n : ℕ) (ws : List At) (a : At) → All Told ws → a ≡ next_of n ws → a.word ≡ end → (ws ≡ []) × (a.place ≡ n)
next_end n [] a h e is = (refl, ap (λ x. x.place) e)
next_end n (b ∷ ws) a h e is = absurd (told_as a b end e is (All-head Told b ws h))
