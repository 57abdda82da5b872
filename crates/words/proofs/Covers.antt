-- The words of a text come in order and hold just the bytes that are neither blank nor in a comment. Assumes nothing.
use Rattle.std.proofs.Common.{◌≡◌, ℕ, zero, suc, ◌+◌, ◌<◌, ◌≤◌, Bool, true, false, cond, not, ◌&&◌, ◌||◌, eqb, leb, List, [], ◌∷◌, length, get_or, All, sym, refl, ap, ◌∙◌, ⊎_elim, arith}
use Rattle.std.specs.List.{prefix_len}
use Rattle.std.proofs.lemmas.List.Elements.{All-weaker, All-nil, All-cons, All-head, All-tail}
use Rattle.std.proofs.lemmas.Bool.{cond-true, cond-false, cond_both, cases_Bool, cases_lt, cases_eq, eq-eqb, ne_eqb, eqb-true, le-leb, lt-leb, lt-ltb, le-ltb, and_from, and_left, and_right, or_left, or_from, not-true}
use Rattle.words.specs.declared.lexis.Mode.{Mode}
use Rattle.words.specs.declared.lexis.Mode.TheVariants.{Fresh, Within, Comment}
use Rattle.words.specs.Lexis.{blank, inner, passes, after, shape}
use Rattle.words.specs.Texts.{At, front, words_past, words_from, words_of}
use Rattle.words.specs.Runs.{end_of, line_start, commented, covered, Ordered, Parts}
use Rattle.std.proofs.lemmas.List.Folds.{length-prefix_len}
use Rattle.std.proofs.lemmas.List.Sums.{prefix_len_passes}
use Rattle.std.proofs.lemmas.Bool.Decides.{nat_tests}
use Rattle.words.proofs.Runs.{bytes_shape, stand}
use Rattle.words.proofs.Walks.{inner_more}

-- the word that begins at p
abbrev here : ℕ → ℕ → List ℕ → At
here p b bs = record { word = shape (b ∷ front bs); place = p }

end_is : (p b : ℕ) (bs : List ℕ) → end_of (here p b bs) ≡ p + suc (prefix_len inner bs)
end_is p b bs = ap (λ l. p + length l) (bytes_shape b (front bs)) ∙ ap (λ n. p + suc n) (length-prefix_len inner bs)

-- no word begins ahead of where the words begin
abbrev From : ℕ → At → Type 0
From q a = (q ≤ a.place)

later : (q r : ℕ) (ws : List At) → q ≤ r → All (From r) ws → All (From q) ws
later q r ws h = All-weaker (From r) (From q) (λ a g. omega arith) ws

places : (k : ℕ) (m : Mode) (p : ℕ) (bs : List ℕ) → All (From (p + k)) (words_past k m p bs)
unfolding words_past
places k m p [] = All-nil (From (p + k))
places (suc k) m p (b ∷ bs) = later (p + suc k) (suc p + k) (words_past k Within (suc p) bs) (omega arith) (places k Within (suc p) bs)
places zero m p (b ∷ bs) =
    let n = prefix_len inner bs in
    cond_both (passes m b) _ _ (All (From (p + 0)))
    (λ passed. later (p + 0) (suc p + 0) (words_past 0 (after m b) (suc p) bs) (omega arith) (places 0 (after m b) (suc p) bs))
    (λ stopped. All-cons (From (p + 0)) _ _ (omega arith) (later (p + 0) (suc p + n) (words_past n Within (suc p) bs) (omega arith) (places n Within (suc p) bs)))

ordered_past : (k : ℕ) (m : Mode) (p : ℕ) (bs : List ℕ) → Ordered (words_past k m p bs)
unfolding words_past
ordered_past k m p [] = tt
ordered_past (suc k) m p (b ∷ bs) = ordered_past k Within (suc p) bs
ordered_past zero m p (b ∷ bs) =
    let n = prefix_len inner bs in
    cond_both (passes m b) _ _ Ordered (λ passed. ordered_past 0 (after m b) (suc p) bs)
    (λ stopped. (later (end_of (here p b bs)) (suc p + n) (words_past n Within (suc p) bs) (omega (arith, end_is p b bs)) (places n Within (suc p) bs), ordered_past n Within (suc p) bs))

uncovered : (ws : List At) (j q : ℕ) → All (From q) ws → j < q → covered ws j ≡ false
uncovered [] j q h l = refl
uncovered (a ∷ ws) j q h l =
    let far : q ≤ a.place = All-head (From q) a ws h in
    or_from _ _ (and_left _ _ (lt-leb a.place j (omega arith))) (uncovered ws j q (All-tail (From q) a ws h) l)

-- whether the byte b belongs to a comment, read in the mode m
abbrev opens : Mode → ℕ → Bool
opens Fresh b = eqb b 99
opens Within b = false
opens Comment b = true

-- the mode at the byte i
abbrev mode_at : Mode → List ℕ → ℕ → Mode
mode_at m bs zero = m
mode_at m [] (suc i) = m
mode_at m (b ∷ bs) (suc i) = mode_at (after m b) bs i

abbrev wanted : Mode → List ℕ → ℕ → Bool
wanted m bs i = inner (get_or bs i 0) && not (opens (mode_at m bs i) (get_or bs i 0))

want_passed : (m : Mode) (b : ℕ) → passes m b ≡ true → (inner b && not (opens m b)) ≡ false
want_passed Fresh b e = grind (arith, nat_tests)
want_passed Within b e = grind (arith, nat_tests)
want_passed Comment b e = and_right (inner b) _ refl

want_stopped : (m : Mode) (b : ℕ) → passes m b ≡ false → (inner b && not (opens m b)) ≡ true
want_stopped Fresh b e = grind (arith, nat_tests)
want_stopped Within b e = grind (arith, nat_tests)
want_stopped Comment b e = cc

stopped_within : (m : Mode) (b : ℕ) → passes m b ≡ false → after m b ≡ Within
stopped_within Fresh b e = grind (arith, nat_tests)
stopped_within Within b e = grind (arith, nat_tests)
stopped_within Comment b e = cc

inner_within : (b : ℕ) → inner b ≡ true → after Within b ≡ Within
inner_within b e = stopped_within Within b (not-true (blank b) e)

front_wanted : (bs : List ℕ) (i : ℕ) → i < prefix_len inner bs → wanted Within bs i ≡ true
front_wanted [] i h = absurd (omega arith)
front_wanted (b ∷ bs) zero h = and_from _ _ (prefix_len_passes inner (b ∷ bs) 0 0 h) refl
front_wanted (b ∷ bs) (suc i) h =
    let e = prefix_len_passes inner (b ∷ bs) 0 0 (omega arith) in
    ap (λ m. wanted m bs i) (inner_within b e) ∙ front_wanted bs i (omega (arith, inner_more b bs e))

covers : (k : ℕ) (m : Mode) (p : ℕ) (bs : List ℕ) (i : ℕ) → (0 < k → m ≡ Within) → k ≤ prefix_len inner bs → k ≤ i → i < length bs → covered (words_past k m p bs) (p + i) ≡ wanted m bs i
unfolding words_past
covers k m p [] i w h low high = absurd (omega arith)
covers (suc k) m p (b ∷ bs) zero w h low high = absurd (omega arith)
covers (suc k) m p (b ∷ bs) (suc i) w h low high =
    let e = prefix_len_passes inner (b ∷ bs) 0 0 (omega arith) in
    let shift : p + suc i ≡ suc p + i = omega arith in
    let mode : after m b ≡ Within = ap (λ m. after m b) (w (omega arith)) ∙ inner_within b e in
    ap (covered (words_past k Within (suc p) bs)) shift
    ∙ covers k Within (suc p) bs i (λ _. refl) (omega (arith, inner_more b bs e)) (omega arith) (omega arith)
    ∙ ap (λ m. wanted m bs i) (sym mode)
covers zero m p (b ∷ bs) zero w h low high =
    ⊎_elim
    (λ passed.
    ap (λ ws. covered ws (p + 0)) (cond-true (passes m b) _ _ passed)
    ∙ uncovered (words_past 0 (after m b) (suc p) bs) (p + 0) (suc p + 0) (places 0 (after m b) (suc p) bs) (omega arith)
    ∙ sym (want_passed m b passed))
    (λ stopped.
    ap (λ ws. covered ws (p + 0)) (cond-false (passes m b) _ _ stopped)
    ∙ or_left _ _ (and_from _ _ (le-leb p (p + 0) (omega arith)) (lt-ltb (p + 0) (end_of (here p b bs)) (omega (arith, end_is p b bs))))
    ∙ sym (want_stopped m b stopped))
    (cases_Bool (passes m b))
covers zero m p (b ∷ bs) (suc i) w h low high =
    let n = prefix_len inner bs in
    let shift : p + suc i ≡ suc p + i = omega arith in
    ⊎_elim
    (λ passed.
    ap (λ ws. covered ws (p + suc i)) (cond-true (passes m b) _ _ passed)
    ∙ ap (covered (words_past 0 (after m b) (suc p) bs)) shift
    ∙ covers 0 (after m b) (suc p) bs i (λ z. absurd (omega arith)) (omega arith) (omega arith) (omega arith))
    (λ stopped.
    let mode = stopped_within m b stopped in
    ap (λ ws. covered ws (p + suc i)) (cond-false (passes m b) _ _ stopped)
    ∙ ⊎_elim
    (λ inside.
    or_left _ _ (and_from _ _ (le-leb p (p + suc i) (omega arith)) (lt-ltb (p + suc i) (end_of (here p b bs)) (omega (arith, end_is p b bs))))
    ∙ sym (ap (λ m. wanted m bs i) mode ∙ front_wanted bs i inside))
    (λ behind.
    ap (λ t. t || covered (words_past n Within (suc p) bs) (p + suc i)) (and_right (leb p (p + suc i)) _ (le-ltb (p + suc i) (end_of (here p b bs)) (omega (arith, end_is p b bs))))
    ∙ ap (covered (words_past n Within (suc p) bs)) shift
    ∙ covers n Within (suc p) bs i (λ _. refl) (omega arith) behind (omega arith)
    ∙ ap (λ m. wanted m bs i) (sym mode))
    (cases_lt i n))
    (cases_Bool (passes m b))

-- one byte more
mode_step : (m : Mode) (bs : List ℕ) (i : ℕ) → i < length bs → mode_at m bs (suc i) ≡ after (mode_at m bs i) (get_or bs i 0)
mode_step m [] i h = absurd (omega arith)
mode_step m (b ∷ bs) zero h = refl
mode_step m (b ∷ bs) (suc i) h = mode_step (after m b) bs i (omega arith)

start_le : (text : List ℕ) (i : ℕ) → line_start text i ≤ i
start_le text zero = omega arith
start_le text (suc i) = cond_both (eqb (get_or text i 0) 10) (suc i) (line_start text i) (λ s. s ≤ suc i) (λ e. omega arith) (λ e. omega (arith, start_le text i))

-- the mode at the byte i of a line that begins at s with the byte c
abbrev lined : ℕ → ℕ → ℕ → Mode
lined s i c = cond (eqb s i) Fresh (cond (eqb c 99) Comment Within)

after_line : (m : Mode) (b : ℕ) → b ≡ 10 → after m b ≡ Fresh
after_line Fresh b e = grind (arith, nat_tests)
after_line Within b e = grind (arith, nat_tests)
after_line Comment b e = grind (arith, nat_tests)

after_other : (t : Bool) (b : ℕ) → eqb b 10 ≡ false → after (cond t Comment Within) b ≡ cond t Comment Within
after_other true b e = cond-false (eqb b 10) _ _ e
after_other false b e = cond-false (eqb b 10) _ _ e

opens_lined : (t : Bool) (b : ℕ) → opens (cond t Comment Within) b ≡ t
opens_lined true b = refl
opens_lined false b = refl

lined_step : (text : List ℕ) (s i : ℕ) → s ≤ i → eqb (get_or text i 0) 10 ≡ false → after (lined s i (get_or text s 0)) (get_or text i 0) ≡ lined s (suc i) (get_or text s 0)
lined_step text s i h other =
    let b = get_or text i 0 in
    let c = get_or text s 0 in
    ⊎_elim
    (λ same.
    ap (λ m. after m b) (cond-true (eqb s i) Fresh _ (eq-eqb s i same))
    ∙ ap (λ m. cond (eqb b 99) Comment m) (cond-false (eqb b 10) _ _ other)
    ∙ ap (λ j. cond (eqb (get_or text j 0) 99) Comment Within) (sym same))
    (λ apart. ap (λ m. after m b) (cond-false (eqb s i) Fresh _ (ne_eqb s i apart)) ∙ after_other (eqb c 99) b other)
    (cases_eq s i)
    ∙ sym (cond-false (eqb s (suc i)) Fresh _ (ne_eqb s (suc i) (λ q. omega arith)))

mode_is : (text : List ℕ) (i : ℕ) → i ≤ length text → mode_at Fresh text i ≡ lined (line_start text i) i (get_or text (line_start text i) 0)
mode_is text zero h = refl
mode_is text (suc i) h =
    let b = get_or text i 0 in
    let s = line_start text i in
    mode_step Fresh text i (omega arith)
    ∙ ap (λ m. after m b) (mode_is text i (omega arith))
    ∙ ⊎_elim
    (λ line.
    after_line _ b (eqb-true b 10 line)
    ∙ sym (cond-true (eqb (suc i) (suc i)) Fresh _ (eq-eqb (suc i) (suc i) refl))
    ∙ ap (λ r. lined r (suc i) (get_or text r 0)) (sym (cond-true (eqb b 10) (suc i) s line)))
    (λ other.
    lined_step text s i (start_le text i) other
    ∙ ap (λ r. lined r (suc i) (get_or text r 0)) (sym (cond-false (eqb b 10) (suc i) s other)))
    (cases_Bool (eqb b 10))

commented_is : (text : List ℕ) (i : ℕ) → i ≤ length text → opens (mode_at Fresh text i) (get_or text i 0) ≡ commented text i
commented_is text i h =
    let s = line_start text i in
    let c = get_or text s 0 in
    ap (λ m. opens m (get_or text i 0)) (mode_is text i h)
    ∙ ⊎_elim
    (λ same. ap (λ m. opens m (get_or text i 0)) (cond-true (eqb s i) Fresh _ (eq-eqb s i same)) ∙ ap (λ j. eqb (get_or text j 0) 99) (sym same))
    (λ apart. ap (λ m. opens m (get_or text i 0)) (cond-false (eqb s i) Fresh _ (ne_eqb s i apart)) ∙ opens_lined (eqb c 99) (get_or text i 0))
    (cases_eq s i)

all_covered : (text : List ℕ) (i : ℕ) → i < length text → covered (words_of text) i ≡ (inner (get_or text i 0) && not (commented text i))
unfolding words_from
all_covered text i h =
    let start : i ≡ 0 + i = omega arith in
    ap (covered (words_past 0 Fresh 0 text)) start
    ∙ covers 0 Fresh 0 text i (λ z. absurd (omega arith)) (omega arith) (omega arith) h
    ∙ ap (λ t. inner (get_or text i 0) && not t) (commented_is text i (omega arith))

pub parts : (text : List ℕ) → Parts text (words_of text)
unfolding words_from
parts text = record { stand = stand text Fresh 0; order = ordered_past 0 Fresh 0 text; cover = all_covered text }
