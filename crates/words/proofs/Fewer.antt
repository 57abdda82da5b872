-- A text has no more words than bytes. Assumes nothing.
use Rattle.std.proofs.Common.{ℕ, zero, suc, ◌≤◌, List, [], ◌∷◌, length, arith}
use Rattle.std.specs.List.{prefix_len}
use Rattle.std.proofs.lemmas.Bool.{cond_both}
use Rattle.words.specs.declared.lexis.Mode.{Mode}
use Rattle.words.specs.declared.lexis.Mode.TheVariants.{Fresh, Within}
use Rattle.words.specs.Lexis.{inner, passes, after, shape}
use Rattle.words.specs.Texts.{front, words_past, words_from, words_of}

past_few : (k : ℕ) (m : Mode) (p : ℕ) (bs : List ℕ) → length (words_past k m p bs) ≤ length bs
unfolding words_past
past_few k m p [] = omega arith
past_few (suc k) m p (b ∷ bs) = let h = past_few k Within (suc p) bs in omega arith
past_few zero m p (b ∷ bs) =
    cond_both (passes m b) (words_past 0 (after m b) (suc p) bs) (record { word = shape (b ∷ front bs); place = p } ∷ words_past (prefix_len inner bs) Within (suc p) bs) (λ ws. length ws ≤ suc (length bs))
    (λ _. omega (arith, past_few 0 (after m b) (suc p) bs))
    (λ _. omega (arith, past_few (prefix_len inner bs) Within (suc p) bs))

pub few_words : (text : List ℕ) → length (words_of text) ≤ length text
unfolding words_from
few_words text = past_few 0 Fresh 0 text
