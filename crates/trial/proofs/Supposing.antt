-- Assuming the complements of literals, each of another variable in range.
use Rattle.std.proofs.Common.{◌≡◌, ℕ, zero, suc, ◌+◌, ◌<◌, Bool, true, false, ◌||◌, eqb, List, [], ◌∷◌, ◌++◌, map, length, get_or, take, None, sym, refl, ap, ◌∙◌, arith}
use mathlib.Core.List.{map-map}
use Rattle.std.proofs.lemmas.Bool.{or_parts, or_from}
use Rattle.std.proofs.lemmas.List.{length-map, map_push, take_more}
use Rattle.cnf.specs.declared.literals.Literal.{Literal}
use Rattle.cnf.specs.declared.literals.Forced.{Forced}
use Rattle.cnf.specs.Literals.{complement}
use Rattle.cnf.specs.Arranging.{outside, names, beyond, repeats}
use Rattle.cnf.proofs.Arranging.{beyond_within}
use Rattle.engine.specs.Meaning.{Meaning, highest, values_of, entry, with_trail, joined_by, no_assume, Consistent}
use Rattle.engine.proofs.Consistent.{within_inside}
use Rattle.engine.proofs.Keeping.{get_or_in}
use Rattle.engine.proofs.Refusing.{assume_done}
use Rattle.trial.specs.Trying.{supposed}

-- the literals on the trail
pub values_supposed : (ls : List Literal) → values_of (supposed ls) ≡ map complement ls
values_supposed ls = map-map (λ (f : Forced). f.literal) (λ (l : Literal). entry (complement l) 0) ls

pub supposed_length : (ls : List Literal) → length (supposed ls) ≡ length ls
supposed_length ls = length-map ls (λ (l : Literal). entry (complement l) 0)

-- a variable has a value just if it is named
names_supposed : (x : ℕ) (ls : List Literal) → names x (values_of (supposed ls)) ≡ names x ls
names_supposed x [] = refl
names_supposed x (l ∷ ls) = ap (λ (b : Bool). eqb x l.variable || b) (names_supposed x ls)

-- the variable at each place is new there
new_at : (before ls : List Literal) (i : ℕ) (d : Literal) → repeats before ls ≡ false → i < length ls
    → (names (get_or ls i d).variable before ≡ false) × (names (get_or ls i d).variable (take i ls) ≡ false)
new_at before [] i d e h = absurd (omega arith)
new_at before (l ∷ ls) zero d e h = ((or_parts (names l.variable before) _ e).0, refl)
new_at before (l ∷ ls) (suc i) d e h =
    let x = (get_or ls i d).variable in
    let ih = new_at (l ∷ before) ls i d (or_parts (names l.variable before) _ e).1 (omega arith) in
    let p = or_parts (eqb x l.variable) (names x before) ih.0 in
    (p.1, or_from (eqb x l.variable) (names x (take i ls)) p.0 ih.1)

-- and in range
inside_at : (ls : List Literal) (i : ℕ) (d : Literal) → beyond highest ls ≡ false → i < length ls → outside highest (get_or ls i d) ≡ false
inside_at ls i d e h = let w = beyond_within highest ls e (get_or ls i d) (get_or_in ls i d h) in within_inside (get_or ls i d) w.0 w.1

-- a trail that is empty
pub none_yet : (m : Meaning) → m.trail ≡ [] → m ≡ with_trail [] m
none_yet m e = λ i. record { texts = m.texts; on = m.on; trail = e i; opened = m.opened; answers = m.answers; text_limit = m.text_limit; literal_limit = m.literal_limit }

-- once i literals are assumed, the next can be
pub next_allowed : (m : Meaning) (ls : List Literal) (i : ℕ) (d : Literal) → i < length ls → (before : Meaning) (l : Literal)
    → before ≡ with_trail (supposed (take i ls)) m → l ≡ complement (get_or ls i d) → m.opened ≡ true → Consistent ls → no_assume before l ≡ None
next_allowed m ls i d h before l b e o c =
    let k = get_or ls i d in
    let during = with_trail (supposed (take i ls)) m in
    ap (λ (n : Meaning). no_assume n l) b
    ∙ ap (no_assume during) e
    ∙ assume_done during (complement k) o (inside_at ls i d c.0 h) (names_supposed k.variable (take i ls) ∙ (new_at [] ls i d c.1 h).1)

-- and then stands on the trail
pub next_done : (m : Meaning) (ls : List Literal) (i : ℕ) (d : Literal) → i < length ls → (before : Meaning) (l : Literal)
    → before ≡ with_trail (supposed (take i ls)) m → l ≡ complement (get_or ls i d)
    → (after : Meaning) → after ≡ joined_by l 0 before → after ≡ with_trail (supposed (take (i + 1) ls)) m
next_done m ls i d h before l b e after a =
    a
    ∙ ap (joined_by l 0) b
    ∙ ap (λ (k : Literal). with_trail (supposed (take i ls) ++ entry k 0 ∷ []) m) e
    ∙ ap (λ (t : List Forced). with_trail t m)
    (sym (map_push (λ (k : Literal). entry (complement k) 0) (take i ls) (get_or ls i d)) ∙ ap supposed (sym (take_more ls i d h)))
