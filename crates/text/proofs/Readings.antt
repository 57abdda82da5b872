-- What is read is in standard form.
use Rattle.std.proofs.Common.{◌≡◌, ℕ, zero, suc, ◌≤◌, min, Bool, true, false, cond, ltb, List, [], ◌∷◌, length, Ok, Err, All, sym, refl, subst, inl, inr, arith, rules}
use Rattle.std.proofs.lemmas.Bool.{ltb-false}
use Rattle.std.proofs.lemmas.List.Elements.{All-nil, All-cons}
use Rattle.cnf.specs.declared.literals.Literal.{Literal}
use Rattle.cnf.specs.declared.faults.ClauseFault.TheVariants.{OutOfRange, Repeated}
use Rattle.cnf.specs.Literals.{earlier}
use Rattle.cnf.specs.Order.{inserted}
use Rattle.cnf.specs.Clauses.{Clause, IsClause}
use Rattle.cnf.specs.Arranging.{Arrangement, outside, names, joined_by}
use Rattle.cnf.proofs.Ascents.{in_range}
use Rattle.cnf.proofs.Arranging.{inserted_in, inserted_rising}
use Rattle.words.specs.Lexis.{Shape, name, number, end, natural, is_zero}
use Rattle.words.specs.Texts.{At, words_of}
use Rattle.text.specs.declared.faults.TextFault.{TextFault}
use Rattle.text.specs.declared.faults.TextFault.TheVariants.{Word, Variables}
use Rattle.text.specs.Formulas.{State, before, format, variables, clauses, between, inside, Item, nothing, variable_count, heading, clause, whole, Moved, refuses, moves, moved, closes, joins_clause, is_p, is_cnf, capped, counted, literal_of, Read, with_clause, follows, reads, formula_of}
use Rattle.text.specs.Round.{StandardRead}

-- a clause so far is a clause
abbrev Sound : (h : ℕ) → Arrangement → Type 0
Sound h (Ok c) = IsClause h c
Sound h (Err fault) = Unit {0}

joined_sound : (h : ℕ) (a : Arrangement) (l : Literal) (place : ℕ) → Sound h a → Sound h (joined_by h a l place)
joined_sound h (Err (OutOfRange first)) l place s = tt
joined_sound h (Err (Repeated first)) l place s = grind arith
joined_sound h (Ok c) l place s = go (outside h l) refl (names l.variable c) refl
  where
    go : (b : Bool) → outside h l ≡ b → (d : Bool) → names l.variable c ≡ d
        → Sound h (cond b (Err (OutOfRange place)) (cond d (Err (Repeated place)) (Ok (inserted earlier l c))))
    go true e d f = tt
    go false e true f = tt
    go false e false f = record {
      rising = inserted_rising l c s.rising f;
      within = λ k m. elim (inserted_in l c k m) [
        | inl p ↦ let r = in_range h l e in subst (λ (x : Literal). (1 ≤ x.variable) × (x.variable ≤ h)) (sym p) (r.0, r.1)
        | inr n ↦ s.within k n
      ];
    }

-- a state behind the heading, over v variables
abbrev Over : (v : ℕ) → State → Type 0
Over v before = ⊥
Over v format = ⊥
Over v variables = ⊥
Over v (clauses u) = ⊥
Over v (between u left) = u ≡ v
Over v (inside u left a) = (u ≡ v) × Sound (min u 512) a

abbrev Gives : (v : ℕ) → Item → Type 0
Gives v nothing = Unit {0}
Gives v (variable_count u place) = ⊥
Gives v (heading u) = ⊥
Gives v (clause c) = IsClause (min v 512) c
Gives v (whole u) = u ≡ v

abbrev Keeps : (v : ℕ) → Moved → Type 0
Keeps v (refuses fault) = Unit {0}
Keeps v (moves s item) = Over v s × Gives v item

closes_keeps : (v u left : ℕ) (a : Arrangement) → u ≡ v → Sound (min u 512) a → Keeps v (closes u left a)
closes_keeps v u left (Ok c) e s = (e, subst (λ (k : ℕ). IsClause (min k 512) c) e s)
closes_keeps v u left (Err fault) e s = tt

number_keeps : (v u left : ℕ) (a : Arrangement) (w : List ℕ) (place : ℕ) → u ≡ v → Sound (min u 512) a
    → Keeps v (cond (is_zero w) (closes u left a) (joins_clause u left a w place))
number_keeps v u left a w place e s = grind (arith, closes_keeps v u left a e s, joined_sound (min u 512) a (literal_of w) place s)

empty_clause : (h : ℕ) → IsClause h []
empty_clause h = search rules

moved_keeps : (v : ℕ) (s : State) (shape : Shape) (place : ℕ) → Over v s → Keeps v (moved s shape place)
moved_keeps v before shape place o = absurd o
moved_keeps v format shape place o = absurd o
moved_keeps v variables shape place o = absurd o
moved_keeps v (clauses u) shape place o = absurd o
moved_keeps v (between u zero) (name w) place o = tt
moved_keeps v (between u zero) (number w) place o = tt
moved_keeps v (between u zero) end place o = (o, o)
moved_keeps v (between u (suc left)) (name w) place o = tt
moved_keeps v (between u (suc left)) (number w) place o = number_keeps v u left (Ok []) w place o (empty_clause (min u 512))
moved_keeps v (between u (suc left)) end place o = tt
moved_keeps v (inside u left a) (name w) place o = tt
moved_keeps v (inside u left a) (number w) place o = number_keeps v u left a w place o.0 o.1
moved_keeps v (inside u left a) end place o = tt

-- what is read behind a heading of v variables
abbrev Has : (v : ℕ) → Read → Type 0
Has v (Ok f) = (f.highest ≡ v) × All (IsClause (min v 512)) f.all
Has v (Err fault) = Unit {0}

with_has : (v : ℕ) (c : Clause) (r : Read) → IsClause (min v 512) c → Has v r → Has v (with_clause c r)
with_has v c (Ok f) g h = (h.0, All-cons (IsClause (min v 512)) c f.all g h.1)
with_has v c (Err fault) g h = tt

follows_has : (v : ℕ) (m : Moved) (on : State → Read) → Keeps v m → ((t : State) → Over v t → Has v (on t)) → Has v (follows m on)
follows_has v (refuses fault) on k h = tt
follows_has v (moves s nothing) on k h = h s k.0
follows_has v (moves s (variable_count u place)) on k h = absurd k.1
follows_has v (moves s (heading u)) on k h = absurd k.1
follows_has v (moves s (clause c)) on k h = with_has v c (on s) k.1 (h s k.0)
follows_has v (moves s (whole u)) on k h = (k.1, All-nil (IsClause (min v 512)))

reads_has : (n v : ℕ) (s : State) (ws : List At) → Over v s → Has v (reads n s ws)
reads_has n v s [] o = follows_has v (moved s end n) _ (moved_keeps v s end n o) (λ t p. tt)
reads_has n v s (a ∷ more) o =
    follows_has v (moved s a.word a.place) _ (moved_keeps v s a.word a.place o) (λ t p. reads_has n v t more p)

has_standard : (v : ℕ) (r : Read) → v ≤ 512 → Has v r → StandardRead r
has_standard v (Ok f) few h =
    let cap : min v 512 ≡ f.highest = let e = h.0 in omega arith in
    let few' : f.highest ≤ 512 = let e = h.0 in omega arith in
    record { few = few'; clauses = subst (λ (k : ℕ). All (IsClause k) f.all) cap h.1 }
has_standard v (Err fault) few h = tt

-- a state in the heading or before it
abbrev Early : State → Type 0
Early before = Unit {0}
Early format = Unit {0}
Early variables = Unit {0}
Early (clauses v) = Unit {0}
Early (between v left) = ⊥
Early (inside v left a) = ⊥

-- a move there stays there or completes the heading
abbrev Begins : Moved → Type 0
Begins (refuses fault) = Unit {0}
Begins (moves s nothing) = Early s
Begins (moves s (variable_count v place)) = Early s
Begins (moves s (heading v)) = (left : ℕ) × (s ≡ between v left)
Begins (moves s (clause c)) = ⊥
Begins (moves s (whole v)) = ⊥

begins_if : (b : Bool) (m : Moved) (fault : TextFault) → Begins m → Begins (cond b m (refuses fault))
begins_if true m fault k = k
begins_if false m fault k = tt

moved_begins : (s : State) (shape : Shape) (place : ℕ) → Early s → Begins (moved s shape place)
moved_begins before (name w) place e = begins_if (is_p w) (moves format nothing) (Word place) tt
moved_begins before (number w) place e = tt
moved_begins before end place e = tt
moved_begins format (name w) place e = begins_if (is_cnf w) (moves variables nothing) (Word place) tt
moved_begins format (number w) place e = tt
moved_begins format end place e = tt
moved_begins variables (name w) place e = tt
moved_begins variables (number w) place e =
    begins_if (natural w) (moves (clauses (capped w)) (variable_count (capped w) place)) (Word place) tt
moved_begins variables end place e = tt
moved_begins (clauses v) (name w) place e = tt
moved_begins (clauses v) (number w) place e =
    begins_if (natural w) (moves (between v (counted w)) (heading v)) (Word place) (counted w, refl)
moved_begins (clauses v) end place e = tt
moved_begins (between v left) shape place e = absurd e
moved_begins (inside v left a) shape place e = absurd e

-- a completed heading has at most 512 variables
headed : (v : ℕ) (r : Read) → (v ≤ 512 → StandardRead r) → StandardRead (cond (ltb 512 v) (Err Variables) r)
headed v r h = grind (arith, ltb-false)

follows_standard : (m : Moved) (on : State → Read) → Begins m → ((t : State) → Early t → StandardRead (on t))
    → ((v : ℕ) (t : State) → Over v t → Has v (on t)) → StandardRead (follows m on)
follows_standard (refuses fault) on k early late = tt
follows_standard (moves s nothing) on k early late = early s k
follows_standard (moves s (variable_count v place)) on k early late = early s k
follows_standard (moves s (heading v)) on k early late =
    headed v (on s) (λ few. has_standard v (on s) few (late v s (subst (Over v) (sym k.1) refl)))
follows_standard (moves s (clause c)) on k early late = absurd k
follows_standard (moves s (whole v)) on k early late = absurd k

reads_standard : (n : ℕ) (s : State) (ws : List At) → Early s → StandardRead (reads n s ws)
reads_standard n s [] e = follows_standard (moved s end n) _ (moved_begins s end n e) (λ t p. tt) (λ v t p. tt)
reads_standard n s (a ∷ more) e =
    follows_standard (moved s a.word a.place) _ (moved_begins s a.word a.place e)
    (λ t p. reads_standard n t more p) (λ v t p. reads_has n v t more p)

-- what a text reads as is in standard form
pub formula_standard : (text : List ℕ) → StandardRead (formula_of text)
formula_standard text = reads_standard (length text) before (words_of text) tt
