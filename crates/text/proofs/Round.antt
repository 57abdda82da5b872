-- A formula in standard form, once written, reads back as itself.
use Rattle.std.proofs.Common.{◌≡◌, ℕ, suc, ◌+◌, ◌^◌, ◌<◌, ◌≤◌, min, Bool, true, false, cond, eqb, ltb, List, [], ◌∷◌, ◌++◌, length, get_or, take, drop, Ok, Err, decimal, All, Result, sym, refl, ap, ◌∙◌, subst, inl, inr, append_assoc, arith}
use mathlib.Core.List.Memᴰ
use mathlib.Core.List.Memᴰ.{head as here}
use mathlib.Core.List.Memᴰ.{tail as there}
use Rattle.std.specs.List.{flat_map}
use Rattle.std.proofs.lemmas.Bool.{cond-false, or_from, ne_eqb, le-ltb}
use Rattle.std.proofs.lemmas.List.{append-nil, take_at}
use Rattle.std.proofs.lemmas.List.Elements.{All-nil, All-cons, All-head, All-tail}
use Rattle.cnf.specs.declared.literals.Literal.{Literal}
use Rattle.cnf.specs.Clauses.{Clause, ◌∈◌, Rising, Within, IsClause}
use Rattle.cnf.specs.Arranging.{joined_by}
use Rattle.cnf.proofs.Arranging.{inserted_last, names_not, in_push}
use Rattle.words.specs.declared.lexis.Mode.{Mode}
use Rattle.words.specs.declared.lexis.Mode.TheVariants.{Fresh, Within as InLine, Comment}
use Rattle.words.specs.Lexis.{number, passes, is_zero}
use Rattle.words.specs.Texts.{words_from}
use Rattle.words.proofs.Spoken.{Solid, Spelled, spoken_none, spoken_space, spoken_line, spoken_word, decimal_natural, decimal_value, decimal_spelled, minus_spelled, decimal_not_zero, minus_not_zero, decimal_no_minus}
use Rattle.lines.specs.Texts.{literal_text, literal_word, clause_line, formula_text}
use Rattle.text.specs.Formulas.{State, before, format, variables, clauses, between, inside, moved, capped, counted, literal_of, Formula', Read, with_clause, reads, formula_of}
use Rattle.lines.specs.declared.faults.WriteFault.{WriteFault}
use Rattle.lines.specs.Writes.{Writes}
use Rattle.lines.proofs.Chains.{writes_ok}
use Rattle.text.specs.Standard.{text_of}
use Rattle.text.specs.Round.{Standard, StandardRead, ReadsBack}
use Rattle.text.proofs.Readings.{formula_standard}

-- what is written of a literal
pub record Written (l : Literal) : Type 0 where
  pub spelled : Spelled (literal_text l)
  pub not_zero : is_zero (literal_text l) ≡ false
  pub reads_as : literal_of (literal_text l) ≡ l

abbrev digits_or : (negated : Bool) → List ℕ → List ℕ
digits_or negated ds = cond negated (45 ∷ ds) ds

written : (l : Literal) → 1 ≤ l.variable → l.variable ≤ 512 → Written l
written l low high = go l.negated refl
  where
    v : ℕ
    v = l.variable

    fits : v < 2 ^ 64
    fits = omega arith

    same : capped (decimal v) ≡ v
    same = let e = decimal_value v fits in omega arith

    go : (b : Bool) → l.negated ≡ b → Written l
    go true e =
        let text : literal_text l ≡ 45 ∷ decimal v = ap (λ (n : Bool). digits_or n (decimal v)) e in
        record {
          spelled = subst Spelled (sym text) (minus_spelled v (omega arith) fits);
          not_zero = ap is_zero text ∙ minus_not_zero (decimal v);
          reads_as = ap literal_of text ∙ ap (λ (n : ℕ). record { variable = n; negated = true }) same ∙ ap (λ (n : Bool). record { variable = v; negated = n }) (sym e);
        }
    go false e =
        let text : literal_text l ≡ decimal v = ap (λ (n : Bool). digits_or n (decimal v)) e in
        record {
          spelled = subst Spelled (sym text) (decimal_spelled v fits);
          not_zero = ap is_zero text ∙ decimal_not_zero v (omega arith) fits;
          reads_as =
              ap literal_of text
              ∙ cond-false (eqb (get_or (decimal v) 0 0) 45) (record { variable = capped (drop 1 (decimal v)); negated = true }) (record { variable = capped (decimal v); negated = false }) (decimal_no_minus v fits)
              ∙ ap (λ (n : ℕ). record { variable = n; negated = false }) same
              ∙ ap (λ (n : Bool). record { variable = v; negated = n }) (sym e);
        }

-- a reader that is not in a comment
abbrev Reading : Mode → Type 0
Reading Fresh = Unit {0}
Reading InLine = Unit {0}
Reading Comment = ⊥

opens : (m : Mode) → Reading m → (w : List ℕ) → Spelled w → passes m (get_or w 0 0) ≡ false
opens Fresh r w s = s.fresh
opens InLine r w s = s.within
opens Comment r w s = absurd r

-- a number with a space behind it
number_space : (m : Mode) → Reading m → (p : ℕ) (w rest : List ℕ) → Spelled w
    → words_from m p (w ++ 32 ∷ rest) ≡ record { word = number w; place = p } ∷ words_from InLine (suc (p + length w)) rest
number_space m r p w rest s =
    spoken_word m p w 32 rest s.some s.solid (opens m r w s) refl
    ∙ rw (s.is_number, spoken_space (p + length w) rest)

-- a number with a line feed behind it
number_line : (m : Mode) → Reading m → (p : ℕ) (w rest : List ℕ) → Spelled w
    → words_from m p (w ++ 10 ∷ rest) ≡ record { word = number w; place = p } ∷ words_from Fresh (suc (p + length w)) rest
number_line m r p w rest s =
    spoken_word m p w 10 rest s.some s.solid (opens m r w s) refl
    ∙ rw (s.is_number, spoken_line (p + length w) rest)

-- the word 0
zero_spelled : Spelled (48 ∷ [])
zero_spelled = record { some = omega arith; solid = All-cons Solid 48 [] refl (All-nil Solid); fresh = refl; within = refl; is_numeral = refl; is_number = refl }

-- a literal above those before it joins them
joins : (h : ℕ) (d : Clause) (l : Literal) (p : ℕ) → 1 ≤ l.variable → l.variable ≤ h
    → ((k : Literal) → k ∈ d → k.variable < l.variable) → joined_by h (Ok d) l p ≡ Ok (d ++ l ∷ [])
joins h d l p low high below =
    rw (
      or_from (eqb l.variable 0) (ltb h l.variable) (ne_eqb l.variable 0 (λ e. omega arith)) (le-ltb h l.variable high),
      names_not l.variable d below,
      inserted_last l d below,
    )

-- what is left of a clause: above the literals before it, by rising variable, within the range
pub record Follows (h : ℕ) (d ls : Clause) : Type 0 where
  pub above : (k l : Literal) → k ∈ d → l ∈ ls → k.variable < l.variable
  pub rising : Rising ls
  pub within : Within h ls

follows_on : (h : ℕ) (d : Clause) (l : Literal) (ls : Clause) → Follows h d (l ∷ ls) → Follows h (d ++ l ∷ []) ls
follows_on h d l ls f = record {
  above = λ k j m n. elim (in_push d l k m) [
    | inl o ↦ f.above k j o (there n)
    | inr e ↦ subst (λ (i : Literal). i.variable < j.variable) (sym e) (f.rising.0 j n)
  ];
  rising = f.rising.1;
  within = λ k m. f.within k (there m);
}

-- the rest of a clause's line, behind the literals d, from a state that takes a number as inside the clause
clause_reads : (n v k : ℕ) (s : State) (m : Mode) → v ≤ 512 → Reading m → (p : ℕ) (d ls : Clause) (rest : List ℕ) (after : Read)
    → ((w : List ℕ) (q : ℕ) → moved s (number w) q ≡ moved (inside v k (Ok d)) (number w) q)
    → Follows v d ls → ((q : ℕ) → reads n (between v k) (words_from Fresh q rest) ≡ after)
    → reads n s (words_from m p (flat_map literal_word ls ++ (48 ∷ 10 ∷ rest))) ≡ with_clause (d ++ ls) after
clause_reads n v k s m few reading p d [] rest after same f then =
    ap (reads n s) (number_line m reading p (48 ∷ []) rest zero_spelled)
    ∙ rw (same (48 ∷ []) p, then (suc (p + 1)), append-nil d)
clause_reads n v k s m few reading p d (l ∷ ls) rest after same f then =
    let range = f.within l (here refl) in
    let low = range.0 in
    let high = range.1 in
    let w = written l low (omega arith) in
    let text = literal_text l in
    let more = flat_map literal_word ls ++ (48 ∷ 10 ∷ rest) in
    let far = suc (p + length text) in
    let cap : min v 512 ≡ v = omega arith in
    let on : State → Read = λ t. reads n t (words_from InLine far more) in
    rw (line l ls rest, number_space m reading p text more w.spelled, same text p, w.not_zero, w.reads_as, cap)
    (rw (joins v d l p low high (λ i o. f.above i l o (here refl)), ← append_assoc d (l ∷ []) ls)
    (clause_reads n v k (inside v k (Ok (d ++ l ∷ []))) InLine few tt far (d ++ l ∷ []) ls rest after (λ w q. refl) (follows_on v d l ls f) then))
  where
    line : (l : Literal) (ls : Clause) (rest : List ℕ)
        → flat_map literal_word (l ∷ ls) ++ (48 ∷ 10 ∷ rest) ≡ literal_text l ++ (32 ∷ (flat_map literal_word ls ++ (48 ∷ 10 ∷ rest)))
    line l ls rest = simp append_assoc

-- all clauses, line by line
clauses_read : (n v : ℕ) (cs : List Clause) (p : ℕ) → v ≤ 512 → All (IsClause v) cs
    → reads n (between v (length cs)) (words_from Fresh p (flat_map clause_line cs)) ≡ Ok (record { highest = v; all = cs })
clauses_read n v [] p few g = ap (reads n (between v 0)) (spoken_none Fresh p)
clauses_read n v (c ∷ cs) p few g =
    ap (λ (l : List ℕ). reads n (between v (suc (length cs))) (words_from Fresh p l)) (append_assoc (flat_map literal_word c) (48 ∷ 10 ∷ []) (flat_map clause_line cs))
    ∙ clause_reads n v (length cs) (between v (suc (length cs))) Fresh few tt p [] c (flat_map clause_line cs) (Ok (record { highest = v; all = cs })) (λ w q. refl)
    (record { above = λ k l m o. absurd (Memᴰ.not-nil m); rising = (All-head (IsClause v) c cs g).rising; within = (All-head (IsClause v) c cs g).within })
    (λ q. clauses_read n v cs q few (All-tail (IsClause v) c cs g))

-- the heading line
module _ (n v c : ℕ) (few : v ≤ 512) (fits : c < 2 ^ 64) (rest : List ℕ) where
  -- from the number of clauses on
  count_reads : (p : ℕ) (after : Read) → ((q : ℕ) → reads n (between v c) (words_from Fresh q rest) ≡ after)
      → reads n (clauses v) (words_from InLine p (decimal c ++ (10 ∷ rest))) ≡ after
  count_reads p after then =
      let same : counted (decimal c) ≡ c = let e = decimal_value c fits in omega arith in
      ap (reads n (clauses v)) (number_line InLine tt p (decimal c) rest (decimal_spelled c fits))
      ∙ rw (decimal_natural c fits, le-ltb 512 v few, same) (then (suc (p + length (decimal c))))

  -- from the number of variables on
  variables_read : (p : ℕ) (after : Read) → ((q : ℕ) → reads n (between v c) (words_from Fresh q rest) ≡ after)
      → reads n variables (words_from InLine p (decimal v ++ (32 ∷ (decimal c ++ (10 ∷ rest))))) ≡ after
  variables_read p after then =
      let more = decimal c ++ (10 ∷ rest) in
      let small : v < 2 ^ 64 = omega arith in
      let same : capped (decimal v) ≡ v = let e = decimal_value v small in omega arith in
      ap (reads n variables) (number_space InLine tt p (decimal v) more (decimal_spelled v small))
      ∙ rw (decimal_natural v small, same) (count_reads (suc (p + length (decimal v))) after then)

  pub heading_reads : (after : Read) → ((q : ℕ) → reads n (between v c) (words_from Fresh q rest) ≡ after)
      → reads n before (words_from Fresh 0 (112 ∷ 32 ∷ 99 ∷ 110 ∷ 102 ∷ 32 ∷ (decimal v ++ (32 ∷ (decimal c ++ (10 ∷ rest)))))) ≡ after
  heading_reads after then =
      let more = decimal v ++ (32 ∷ (decimal c ++ (10 ∷ rest))) in
      ap (reads n before) (spoken_word Fresh 0 (112 ∷ []) 32 (99 ∷ 110 ∷ 102 ∷ 32 ∷ more) (omega arith) (All-cons Solid 112 [] refl (All-nil Solid)) refl refl)
      ∙ ap (reads n format) (spoken_space 1 (99 ∷ 110 ∷ 102 ∷ 32 ∷ more) ∙ spoken_word InLine 2 (99 ∷ 110 ∷ 102 ∷ []) 32 more (omega arith) (All-cons Solid 99 (110 ∷ 102 ∷ []) refl (All-cons Solid 110 (102 ∷ []) refl (All-cons Solid 102 [] refl (All-nil Solid)))) refl refl)
      ∙ ap (reads n variables) (spoken_space 5 more)
      ∙ variables_read 6 after then

-- a formula in standard form, once written, reads back
pub reads_back : (f : Formula') → Standard f → length f.all < 2 ^ 64 → formula_of (formula_text f.highest f.all) ≡ Ok f
reads_back f std fits =
    let v = f.highest in
    let text = formula_text v f.all in
    ap (λ (l : List ℕ). reads (length text) before (words_from Fresh 0 l)) (line (decimal v) (decimal (length f.all)) (flat_map clause_line f.all))
    ∙ heading_reads (length text) v (length f.all) std.few fits (flat_map clause_line f.all) (Ok f) (λ q. clauses_read (length text) v f.all q std.few std.clauses)
  where
    line : (a b c : List ℕ)
        → 112 ∷ 32 ∷ 99 ∷ 110 ∷ 102 ∷ 32 ∷ ((((a ++ 32 ∷ []) ++ b) ++ 10 ∷ []) ++ c) ≡ 112 ∷ 32 ∷ 99 ∷ 110 ∷ 102 ∷ 32 ∷ (a ++ (32 ∷ (b ++ (10 ∷ c))))
    line a b c = simp append_assoc

-- what a writer left of a formula reads back
pub written_back : (f : Formula') (out : List ℕ) (r : Result ℕ WriteFault) (out' : List ℕ) → length f.all < 2 ^ 64
    → Writes out 0 (text_of f) r out' → ReadsBack f r out'
written_back f out (Err fault) out' fits w = tt
written_back f out (Ok n) out' fits w = λ std.
    let puts = (writes_ok w).1 in
    let end : length (text_of f) ≡ n = let e = puts.next in omega arith in
    ap (λ (l : List ℕ). formula_of (take n l)) puts.after
    ∙ ap formula_of (take_at (text_of f) (drop (0 + length (text_of f)) out) n end)
    ∙ reads_back f std fits

-- what was printed of a text reads as the text does
pub printed_again : (text : List ℕ) (f : Formula') (n : ℕ) (out : List ℕ) → formula_of text ≡ Ok f → ReadsBack f (Ok n) out
    → (g : Formula') → formula_of text ≡ Ok g → formula_of (take n out) ≡ Ok g
printed_again text f n out e back g h = back (subst StandardRead e (formula_standard text)) ∙ sym e ∙ h
