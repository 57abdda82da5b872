-- Each word stands in the text at its place. Assumes nothing.
use Rattle.std.proofs.Common.{◌≡◌, ℕ, zero, suc, ◌+◌, ◌<◌, true, false, List, [], ◌∷◌, length, get_or, take, drop, All, sym, refl, ap, ◌∙◌, ⊎_elim, add-one, arith}
use Rattle.std.specs.List.{prefix_len}
use Rattle.std.proofs.lemmas.List.Elements.{All-nil, All-cons}
use Rattle.std.proofs.lemmas.List.{drop-drop, get_or-drop, get_or_past}
use Rattle.std.proofs.lemmas.List.Folds.{length-prefix_len}
use Rattle.std.proofs.lemmas.List.Sums.{prefix_len_stops}
use Rattle.std.proofs.lemmas.Bool.{cond-false, cond_both, cases_Bool, cases_lt}
use Rattle.words.specs.declared.lexis.Mode.{Mode}
use Rattle.words.specs.declared.lexis.Mode.TheVariants.{Within}
use Rattle.words.specs.Lexis.{inner, passes, after, numeral, Shape, shape}
use Rattle.words.specs.Texts.{front, words_past, words_from}
use Rattle.words.specs.Runs.{bytes_of, Stands}
use Rattle.words.proofs.Walks.{stops_inner, inner_more}

pub bytes_shape : (b : ℕ) (bs : List ℕ) → bytes_of (shape (b ∷ bs)) ≡ b ∷ bs
bytes_shape b bs = cond_both (numeral (b ∷ bs)) _ _ (λ s. bytes_of s ≡ b ∷ bs) (λ _. refl) (λ _. refl)

front_solid : (bs : List ℕ) → All (λ b. inner b ≡ true) (front bs)
front_solid [] = All-nil _
front_solid (b ∷ bs) =
    ⊎_elim
    (λ e. rw (inner_more b bs e) (All-cons (λ x. inner x ≡ true) b (front bs) e (front_solid bs)))
    (λ e. rw (cond-false (inner b) (1 + prefix_len inner bs) 0 e) (All-nil _))
    (cases_Bool (inner b))

-- behind the front is a blank, or the end
pub front_whole : (bs : List ℕ) → inner (get_or bs (prefix_len inner bs) 32) ≡ false
front_whole bs =
    ⊎_elim (λ within. prefix_len_stops inner bs 32 within) (λ past. ap inner (get_or_past bs (prefix_len inner bs) 32 past)) (cases_lt (prefix_len inner bs) (length bs))

-- the bytes behind the first
pub drop_next : (text : List ℕ) (p b : ℕ) (bs : List ℕ) → drop p text ≡ b ∷ bs → drop (suc p) text ≡ bs
drop_next text p b bs e = ap (λ q. drop q text) (sym (add-one p)) ∙ sym (drop-drop 1 p text) ∙ ap (drop 1) e

stands_as : (text : List ℕ) (p : ℕ) (s : Shape) (w : List ℕ) → bytes_of s ≡ w → s ≡ shape w → 0 < length w → All (λ b. inner b ≡ true) w → take (length w) (drop p text) ≡ w → inner (get_or text (p + length w) 32) ≡ false → Stands text (record { word = s; place = p })
stands_as text p s w is told some solid there whole = record {
  some = rw is some;
  solid = rw is solid;
  there = rw is there;
  whole = rw is whole;
  told = told ∙ ap shape (sym is);
}

word_stands : (text : List ℕ) (p b : ℕ) (bs : List ℕ) → drop p text ≡ b ∷ bs → inner b ≡ true → Stands text (record { word = shape (b ∷ front bs); place = p })
word_stands text p b bs e first =
    let n = prefix_len inner bs in
    let long = length-prefix_len inner bs in
    stands_as text p (shape (b ∷ front bs)) (b ∷ front bs) (bytes_shape b (front bs)) refl (omega arith) (All-cons (λ x. inner x ≡ true) b (front bs) first (front_solid bs))
    (ap (take (suc (length (front bs)))) e ∙ ap (λ k. b ∷ take k bs) long)
    (ap inner (sym (get_or-drop p text (suc (length (front bs))) 32) ∙ ap (λ l. get_or l (suc (length (front bs))) 32) e ∙ ap (λ k. get_or bs k 32) long) ∙ front_whole bs)

stand_past : (text : List ℕ) (k : ℕ) (m : Mode) (p : ℕ) (bs : List ℕ) → drop p text ≡ bs → All (Stands text) (words_past k m p bs)
unfolding words_past
stand_past text k m p [] e = All-nil (Stands text)
stand_past text (suc k) m p (b ∷ bs) e = stand_past text k Within (suc p) bs (drop_next text p b bs e)
stand_past text zero m p (b ∷ bs) e =
    let next = drop_next text p b bs e in
    cond_both (passes m b) _ _ (All (Stands text)) (λ passed. stand_past text 0 (after m b) (suc p) bs next)
    (λ stopped. All-cons (Stands text) _ _ (word_stands text p b bs e (stops_inner m b stopped)) (stand_past text (prefix_len inner bs) Within (suc p) bs next))

pub stand : (text : List ℕ) (m : Mode) (p : ℕ) → All (Stands text) (words_from m p (drop p text))
unfolding words_from
stand text m p = stand_past text 0 m p (drop p text) refl
