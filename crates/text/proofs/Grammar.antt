-- A text reads as a formula exactly when its words make that formula.
use Rattle.std.proofs.Common.{◌≡◌, ℕ, zero, suc, ◌^◌, ◌<◌, ◌≤◌, min, Bool, true, false, cond, ◌||◌, eqb, ltb, List, [], ◌∷◌, length, Ok, Err, All, sym, refl, ap, ◌∙◌, subst, arith}
use Rattle.std.proofs.lemmas.Bool.{or_from, or_parts, cond-false, ltb-false, le-ltb}
use Rattle.std.proofs.lemmas.List.{length-map}
use Rattle.std.proofs.lemmas.List.Elements.{All-head, All-tail}
use Rattle.cnf.specs.declared.literals.Literal.{Literal}
use Rattle.cnf.specs.declared.faults.ClauseFault.{ClauseFault}
use Rattle.cnf.specs.declared.faults.ClauseFault.TheVariants.{OutOfRange, Repeated}
use Rattle.cnf.specs.Literals.{earlier}
use Rattle.cnf.specs.Order.{inserted}
use Rattle.cnf.specs.Clauses.{Clause}
use Rattle.cnf.specs.Arranging.{Arrangement, outside, names, joined_by, beyond, repeats, inserted_all, arranged}
use Rattle.cnf.proofs.Arranging.{inserted_names}
use Rattle.words.specs.Lexis.{Shape, name, number, end, natural, numeral, is_zero}
use Rattle.words.specs.declared.lexis.Mode.TheVariants.{Fresh}
use Rattle.words.specs.Numbers.{value}
use Rattle.words.specs.Texts.{At, words_of}
use Rattle.words.proofs.Fewer.{few_words}
use Rattle.words.proofs.Told.{Told, told_from}
use Rattle.text.specs.declared.faults.TextFault.{TextFault}
use Rattle.text.specs.declared.faults.TextFault.TheVariants.{Word, Count, Variables}
use Rattle.text.specs.Formulas.{State, before, format, variables, clauses, between, inside, nothing, variable_count, heading, Moved, refuses, moves, moved, closes, joins_clause, is_p, is_cnf, capped, counted, literal_of, Formula', Read, with_clause, follows, reads, formula_of}
use Rattle.text.specs.Grammar.{shapes, ClauseWords, ClausesWords, FormulaWords, ReadByGrammar}

-- what is told of a word that is there
abbrev ToldShape : Shape → Type 0
ToldShape s = elim s as (λ _. Type 0) [ name w ↦ numeral w ≡ false | number w ↦ numeral w ≡ true | end ↦ ⊥ ]

-- a fault is no formula
no_formula : (fault : TextFault) (f : Formula') → ◌≡◌ {A = Read} (Err fault) (Ok f) → ⊥
no_formula fault f e = cc

-- a clause ahead of a formula
with_ok : (c : Clause) (r : Read) (f : Formula') → with_clause c r ≡ Ok f
    → (g : Formula') × (r ≡ Ok g) × (f.highest ≡ g.highest) × (f.all ≡ c ∷ g.all)
with_ok c (Ok g) f e = (g, refl, cc, cc)
with_ok c (Err fault) f e = absurd (no_formula fault f e)

-- a clause with a fault makes no formula
module _ (n v k : ℕ) (more : List At) (f : Formula') (on : (b : ClauseFault) → reads n (inside v k (Err b)) more ≡ Ok f → ⊥) (place : ℕ) where
  joined_faulty : (b : ClauseFault) (l : Literal) → reads n (inside v k (joined_by (min v 512) (Err b) l place)) more ≡ Ok f → ⊥
  joined_faulty (OutOfRange first) l e = on (OutOfRange first) e
  joined_faulty (Repeated first) l e = grind (arith, on)

  word_faulty : (b : ClauseFault) (s : Shape) → follows (moved (inside v k (Err b)) s place) (λ t. reads n t more) ≡ Ok f → ⊥
  word_faulty b (name w) e = no_formula _ f e
  word_faulty b end e = no_formula _ f e
  word_faulty b (number w) e = grind (arith, no_formula, joined_faulty b (literal_of w))

faulty : (n v k : ℕ) (b : ClauseFault) (ws : List At) (f : Formula') → reads n (inside v k (Err b)) ws ≡ Ok f → ⊥
faulty n v k b [] f e = no_formula _ f e
faulty n v k b (a ∷ more) f e = word_faulty n v k more f (λ c. faulty n v k c more f) a.place b a.word e

-- a clause that was read: its words, and what is read behind it
pub record ReadClause (n v k : ℕ) (seen d : Clause) (ws : List At) (f : Formula') : Type 0 where
  pub ls : List Literal
  pub rest : List At
  pub others : Formula'
  pub words : ClauseWords (shapes ws) ls (shapes rest)
  pub in_range : beyond v ls ≡ false
  pub apart : repeats seen ls ≡ false
  pub first : f.all ≡ inserted_all d ls ∷ others.all
  pub same : f.highest ≡ others.highest
  pub behind : reads n (between v k) rest ≡ Ok others
  pub told : All Told ws → All Told rest

-- a literal that joins
record Joined (n v k place : ℕ) (seen d : Clause) (l : Literal) (more : List At) (f : Formula') : Type 0 where
  inside_range : outside v l ≡ false
  new : names l.variable seen ≡ false
  onward : reads n (inside v k (Ok (inserted earlier l d))) more ≡ Ok f

joined_ok : (n v k place : ℕ) (seen d : Clause) (l : Literal) (more : List At) (f : Formula') → v ≤ 512
    → ((x : ℕ) → names x d ≡ names x seen)
    → reads n (inside v k (joined_by (min v 512) (Ok d) l place)) more ≡ Ok f → Joined n v k place seen d l more f
joined_ok n v k place seen d l more f few same e =
    let cap : min v 512 ≡ v = omega arith in
    go (outside v l) refl (names l.variable d) refl (rw cap at e)
  where
    go : (o : Bool) → outside v l ≡ o → (m : Bool) → names l.variable d ≡ m
        → reads n (inside v k (cond o (Err (OutOfRange place)) (cond m (Err (Repeated place)) (Ok (inserted earlier l d))))) more ≡ Ok f
        → Joined n v k place seen d l more f
    go true p m q e = absurd (faulty n v k _ more f e)
    go false p true q e = absurd (faulty n v k _ more f e)
    go false p false q e = record { inside_range = p; new = sym (same l.variable) ∙ q; onward = e }

-- one word of a clause
module _ (n v k : ℕ) (few : v ≤ 512) (seen d : Clause) (same : (x : ℕ) → names x d ≡ names x seen) (a : At) (more : List At) (f : Formula')
    (on : (l : Literal) → reads n (inside v k (Ok (inserted earlier l d))) more ≡ Ok f → ReadClause n v k (l ∷ seen) (inserted earlier l d) more f) where
  word_reads : (s : Shape) → a.word ≡ s → follows (moved (inside v k (Ok d)) s a.place) (λ t. reads n t more) ≡ Ok f
      → ReadClause n v k seen d (a ∷ more) f
  word_reads (name w) is e = absurd (no_formula _ f e)
  word_reads end is e = absurd (no_formula _ f e)
  word_reads (number w) is e = pick (is_zero w) refl e
    where
      pick : (z : Bool) → is_zero w ≡ z
          → follows (cond z (closes v k (Ok d)) (joins_clause v k (Ok d) w a.place)) (λ t. reads n t more) ≡ Ok f
          → ReadClause n v k seen d (a ∷ more) f
      pick true z e =
          let g = with_ok d (reads n (between v k) more) f e in
          record {
            ls = [];
            rest = more;
            others = g.0;
            words = (w, z, ap (λ (s : Shape). s ∷ shapes more) is);
            in_range = refl;
            apart = refl;
            first = g.3;
            same = g.2;
            behind = g.1;
            told = λ t. All-tail Told a more t;
          }
      pick false z e =
          let l = literal_of w in
          let j = joined_ok n v k a.place seen d l more f few same e in
          let r = on l j.onward in
          record {
            ls = l ∷ r.ls;
            rest = r.rest;
            others = r.others;
            words = (w, shapes more, z, refl, ap (λ (s : Shape). s ∷ shapes more) is, r.words);
            in_range = or_from (outside v l) (beyond v r.ls) j.inside_range r.in_range;
            apart = or_from (names l.variable seen) (repeats (l ∷ seen) r.ls) j.new r.apart;
            first = r.first;
            same = r.same;
            behind = r.behind;
            told = λ t. r.told (All-tail Told a more t);
          }

more_same : (l : Literal) (seen d : Clause) → ((x : ℕ) → names x d ≡ names x seen) → (x : ℕ) → names x (inserted earlier l d) ≡ names x (l ∷ seen)
more_same l seen d same x = inserted_names x l d ∙ ap (λ b. eqb x l.variable || b) (same x)

inside_reads : (n v k : ℕ) → v ≤ 512 → (seen d : Clause) → ((x : ℕ) → names x d ≡ names x seen) → (ws : List At) (f : Formula')
    → reads n (inside v k (Ok d)) ws ≡ Ok f → ReadClause n v k seen d ws f
inside_reads n v k few seen d same [] f e = absurd (no_formula _ f e)
inside_reads n v k few seen d same (a ∷ more) f e =
    word_reads n v k few seen d same a more f
    (λ l h. inside_reads n v k few (l ∷ seen) (inserted earlier l d) (more_same l seen d same) more f h)
    a.word refl e

-- between clauses a number is taken as inside an empty one
begun : (n v k : ℕ) (a : At) (more : List At) (f : Formula') → reads n (between v (suc k)) (a ∷ more) ≡ Ok f → reads n (inside v k (Ok [])) (a ∷ more) ≡ Ok f
begun n v k a more f e = go a.word e
  where
    go : (s : Shape) → follows (moved (between v (suc k)) s a.place) (λ t. reads n t more) ≡ Ok f
        → follows (moved (inside v k (Ok [])) s a.place) (λ t. reads n t more) ≡ Ok f
    go (name w) e = absurd (no_formula _ f e)
    go (number w) e = e
    go end e = absurd (no_formula _ f e)

-- clauses that were read
pub record ReadClauses (v k : ℕ) (ws : List At) (f : Formula') : Type 0 where
  pub words : ClausesWords v (shapes ws) f.all
  pub count : length f.all ≡ k
  pub over : f.highest ≡ v

none_left : (n v : ℕ) (ws : List At) (f : Formula') → All Told ws → reads n (between v 0) ws ≡ Ok f → ReadClauses v 0 ws f
none_left n v [] f told e =
    let q : f ≡ record { highest = v; all = [] } = cc in
    let all = ap (λ (x : Formula'). x.all) q in
    record { words = subst (ClausesWords v []) (sym all) refl; count = ap length all; over = ap (λ (x : Formula'). x.highest) q }
none_left n v (a ∷ more) f told e = go a.word refl e
  where
    go : (s : Shape) → a.word ≡ s → follows (moved (between v 0) s a.place) (λ t. reads n t more) ≡ Ok f → ReadClauses v 0 (a ∷ more) f
    go (name w) is e = absurd (no_formula _ f e)
    go (number w) is e = absurd (no_formula _ f e)
    go end is e = absurd (subst ToldShape is (All-head Told a more told))

clauses_read : (n v k : ℕ) → v ≤ 512 → (ws : List At) (f : Formula') → All Told ws → reads n (between v k) ws ≡ Ok f → ReadClauses v k ws f
clauses_read n v zero few ws f told e = none_left n v ws f told e
clauses_read n v (suc k) few [] f told e = absurd (no_formula _ f e)
clauses_read n v (suc k) few (a ∷ more) f told e =
    let r = inside_reads n v k few [] [] (λ x. refl) (a ∷ more) f (begun n v k a more f e) in
    let below = clauses_read n v k few r.rest r.others (r.told told) r.behind in
    record {
      words = subst (ClausesWords v (shapes (a ∷ more))) (sym r.first) (r.ls, shapes r.rest, r.words, r.in_range, r.apart, refl, below.words);
      count = ap length r.first ∙ ap suc below.count;
      over = r.same ∙ below.over;
    }

-- the words behind a word that was expected
record Expected (n : ℕ) (t : State) (s : Shape) (ws : List At) (f : Formula') : Type 0 where
  rest : List At
  is : shapes ws ≡ s ∷ shapes rest
  told : All Told rest
  read : reads n t rest ≡ Ok f

-- a name is expected
name_read : (n : ℕ) (s t : State) (test : List ℕ → Bool)
    → ((w : List ℕ) (p : ℕ) → moved s (name w) p ≡ cond (test w) (moves t nothing) (refuses (Word p)))
    → ((w : List ℕ) (p : ℕ) → moved s (number w) p ≡ refuses (Word p))
    → ((p : ℕ) → moved s end p ≡ refuses (Count p))
    → (ws : List At) (f : Formula') → All Told ws → reads n s ws ≡ Ok f
    → (p : List ℕ) × (test p ≡ true) × Expected n t (name p) ws f
name_read n s t test names numbers ends [] f told e =
    absurd (no_formula _ f (rw (ends n) at e))
name_read n s t test names numbers ends (a ∷ more) f told e = go a.word refl e
  where
    go : (shape : Shape) → a.word ≡ shape → follows (moved s shape a.place) (λ u. reads n u more) ≡ Ok f
        → (p : List ℕ) × (test p ≡ true) × Expected n t (name p) (a ∷ more) f
    go (number w) is e = absurd (no_formula _ f (rw (numbers w a.place) at e))
    go end is e = absurd (no_formula _ f (rw (ends a.place) at e))
    go (name w) is e = pick (test w) refl (rw (names w a.place) at e)
      where
        pick : (b : Bool) → test w ≡ b → follows (cond b (moves t nothing) (refuses (Word a.place))) (λ u. reads n u more) ≡ Ok f
            → (p : List ℕ) × (test p ≡ true) × Expected n t (name p) (a ∷ more) f
        pick true h e = (w, h, record { rest = more; is = ap (λ (x : Shape). x ∷ shapes more) is; told = All-tail Told a more told; read = e })
        pick false h e = absurd (no_formula _ f e)

count_read : (n : ℕ) (ws : List At) (f : Formula') → All Told ws → reads n variables ws ≡ Ok f
    → (v : List ℕ) × (natural v ≡ true) × Expected n (clauses (capped v)) (number v) ws f
count_read n [] f told e = absurd (no_formula _ f e)
count_read n (a ∷ more) f told e = go a.word refl e
  where
    go : (s : Shape) → a.word ≡ s → follows (moved variables s a.place) (λ t. reads n t more) ≡ Ok f
        → (v : List ℕ) × (natural v ≡ true) × Expected n (clauses (capped v)) (number v) (a ∷ more) f
    go (name w) is e = absurd (no_formula _ f e)
    go end is e = absurd (no_formula _ f e)
    go (number w) is e = pick (natural w) refl e
      where
        pick : (b : Bool) → natural w ≡ b
            → follows (cond b (moves (clauses (capped w)) (variable_count (capped w) a.place)) (refuses (Word a.place))) (λ t. reads n t more) ≡ Ok f
            → (v : List ℕ) × (natural v ≡ true) × Expected n (clauses (capped v)) (number v) (a ∷ more) f
        pick true h e = (w, h, record { rest = more; is = ap (λ (s : Shape). s ∷ shapes more) is; told = All-tail Told a more told; read = e })
        pick false h e = absurd (no_formula _ f e)

body_read : (n v : ℕ) (ws : List At) (f : Formula') → All Told ws → reads n (clauses v) ws ≡ Ok f
    → (c : List ℕ) × (natural c ≡ true) × (v ≤ 512) × Expected n (between v (counted c)) (number c) ws f
body_read n v [] f told e = absurd (no_formula _ f e)
body_read n v (a ∷ more) f told e = go a.word refl e
  where
    go : (s : Shape) → a.word ≡ s → follows (moved (clauses v) s a.place) (λ t. reads n t more) ≡ Ok f
        → (c : List ℕ) × (natural c ≡ true) × (v ≤ 512) × Expected n (between v (counted c)) (number c) (a ∷ more) f
    go (name w) is e = absurd (no_formula _ f e)
    go end is e = absurd (no_formula _ f e)
    go (number w) is e = pick (natural w) refl (ltb 512 v) refl e
      where
        pick : (b : Bool) → natural w ≡ b → (many : Bool) → ltb 512 v ≡ many
            → follows (cond b (moves (between v (counted w)) (heading v)) (refuses (Word a.place))) (λ t. reads n t more) ≡ Ok f
            → (c : List ℕ) × (natural c ≡ true) × (v ≤ 512) × Expected n (between v (counted c)) (number c) (a ∷ more) f
        pick true h many l e = seen many l (rw l at e)
          where
            seen : (many : Bool) → ltb 512 v ≡ many → cond many (Err Variables) (reads n (between v (counted w)) more) ≡ Ok f
                → (c : List ℕ) × (natural c ≡ true) × (v ≤ 512) × Expected n (between v (counted c)) (number c) (a ∷ more) f
            seen true l e = absurd (no_formula _ f e)
            seen false l e =
                (w, h, ltb-false 512 v l, record { rest = more; is = ap (λ (s : Shape). s ∷ shapes more) is; told = All-tail Told a more told; read = e })
        pick false h many l e = absurd (no_formula _ f e)

-- each clause has a word at least
clause_few : (ws : List Shape) (ls : List Literal) (rest : List Shape) → ClauseWords ws ls rest → length rest < length ws
clause_few ws [] rest h = let e = ap length h.2 in omega arith
clause_few ws (l ∷ ls) rest h = let e = ap length h.4 in let b = clause_few h.1 ls rest h.5 in omega arith

clauses_few : (v : ℕ) (ws : List Shape) (cs : List Clause) → ClausesWords v ws cs → length cs ≤ length ws
clauses_few v ws [] h = omega arith
clauses_few v ws (c ∷ cs) h =
    let a = clause_few ws h.0 h.1 h.2 in
    let b = clauses_few v h.1 cs h.6 in
    omega arith

length_shapes : (ws : List At) → length (shapes ws) ≡ length ws
length_shapes ws = length-map ws (λ (a : At). a.word)

-- what is read is by the grammar
by_grammar : (text : List ℕ) (f : Formula') → length text < 2 ^ 64 → formula_of text ≡ Ok f → FormulaWords (shapes (words_of text)) f
by_grammar text f fits e =
    let n = length text in
    let ws = words_of text in
    let one = name_read n before format is_p (λ w p. refl) (λ w p. refl) (λ p. refl) ws f (told_from Fresh 0 text) e in
    let two = name_read n format variables is_cnf (λ w p. refl) (λ w p. refl) (λ p. refl) one.2.rest f one.2.told one.2.read in
    let three = count_read n two.2.rest f two.2.told two.2.read in
    let v = three.0 in
    let four = body_read n (capped v) three.2.rest f three.2.told three.2.read in
    let c = four.0 in
    let rest = four.3.rest in
    let r = clauses_read n (capped v) (counted c) four.2 rest f four.3.told four.3.read in
    let is : shapes ws ≡ name one.0 ∷ name two.0 ∷ number v ∷ number c ∷ shapes rest =
    one.2.is
    ∙ ap (λ (l : List Shape). name one.0 ∷ l) two.2.is
    ∙ ap (λ (l : List Shape). name one.0 ∷ name two.0 ∷ l) three.2.is
    ∙ ap (λ (l : List Shape). name one.0 ∷ name two.0 ∷ number v ∷ l) four.3.is in
    let many = clauses_few (capped v) (shapes rest) f.all r.words in
    let all = ap length is in
    let words = length_shapes ws in
    let bytes = few_words text in
    let over : capped v ≡ f.highest = sym r.over in
    let low = four.2 in
    let vs : value v ≡ capped v = omega arith in
    let count = r.count in
    let cs : value c ≡ length f.all = omega arith in
    record {
      p = one.0;
      cnf = two.0;
      v = v;
      c = c;
      body = shapes rest;
      says_p = one.1;
      says_cnf = two.1;
      v_unsigned = three.1;
      c_unsigned = four.1;
      all_words = is;
      variables = vs ∙ over;
      few = subst (λ (k : ℕ). k ≤ 512) over low;
      count = cs;
      clauses = subst (λ (k : ℕ). ClausesWords k (shapes rest) f.all) over r.words;
    }

-- the words of a list that begins with a word
record Behind (ws : List At) (s : Shape) (more : List Shape) : Type 0 where
  a : At
  rest : List At
  is : ws ≡ a ∷ rest
  word : a.word ≡ s
  others : shapes rest ≡ more

behind : (ws : List At) (s : Shape) (more : List Shape) → shapes ws ≡ s ∷ more → Behind ws s more
behind [] s more e = let z : ◌≡◌ {A = ℕ} 0 1 = cc in absurd (omega arith)
behind (a ∷ rest) s more e = record { a = a; rest = rest; is = refl; word = cc; others = cc }

-- a reader takes the word that it expects
takes : (n : ℕ) (s : State) (ws : List At) (shape : Shape) (more : List Shape) (b : Behind ws shape more)
    → reads n s ws ≡ follows (moved s shape b.a.place) (λ t. reads n t b.rest)
takes n s ws shape more b =
    rw (b.is, b.word)

-- a clause's words read as the clause, from a state that takes a number as inside it
record Taken (n v k : ℕ) (s : State) (d : Clause) (ls : List Literal) (ws : List At) (rest : List Shape) : Type 0 where
  others : List At
  are : shapes others ≡ rest
  read : reads n s ws ≡ with_clause (inserted_all d ls) (reads n (between v k) others)

clause_taken : (n v k : ℕ) → v ≤ 512 → (s : State) (seen d : Clause) → ((x : ℕ) → names x d ≡ names x seen)
    → ((w : List ℕ) (q : ℕ) → moved s (number w) q ≡ moved (inside v k (Ok d)) (number w) q)
    → (ls : List Literal) (ws : List At) (rest : List Shape) → ClauseWords (shapes ws) ls rest
    → beyond v ls ≡ false → repeats seen ls ≡ false → Taken n v k s d ls ws rest
clause_taken n v k few s seen d same as-inside [] ws rest h in_range apart =
    let w = h.0 in
    let b = behind ws (number w) rest h.2 in
    record {
      others = b.rest;
      are = b.others;
      read =
          takes n s ws (number w) rest b
          ∙ rw (as-inside w b.a.place, h.1);
    }
clause_taken n v k few s seen d same as-inside (l ∷ ls) ws rest h in_range apart =
    let w = h.0 in
    let b = behind ws (number w) h.1 h.4 in
    let q = b.a.place in
    let on : State → Read = λ t. reads n t b.rest in
    let r = or_parts (outside v l) (beyond v ls) in_range in
    let u = or_parts (names l.variable seen) (repeats (l ∷ seen) ls) apart in
    let cap : min v 512 ≡ v = omega arith in
    let joins : joined_by v (Ok d) l q ≡ Ok (inserted earlier l d) =
    rw (r.0, same l.variable, u.0) in
    let more = subst (λ (x : List Shape). ClauseWords x ls rest) (sym b.others) h.5 in
    let t = clause_taken n v k few (inside v k (Ok (inserted earlier l d))) (l ∷ seen) (inserted earlier l d) (more_same l seen d same) (λ x y. refl) ls b.rest rest more r.1 u.1 in
    record {
      others = t.others;
      are = t.are;
      read =
          takes n s ws (number w) h.1 b
          ∙ ap (λ (m : Moved). follows m on) (as-inside w q ∙ cond-false (is_zero w) _ _ h.2)
          ∙ ap (λ (x : Literal). on (inside v k (joined_by (min v 512) (Ok d) x q))) h.3
          ∙ ap (λ (x : ℕ). on (inside v k (joined_by x (Ok d) l q))) cap
          ∙ ap (λ (x : Arrangement). on (inside v k x)) joins
          ∙ t.read;
    }

clauses_taken : (n v : ℕ) → v ≤ 512 → (cs : List Clause) (ws : List At) → ClausesWords v (shapes ws) cs
    → reads n (between v (length cs)) ws ≡ Ok (record { highest = v; all = cs })
clauses_taken n v few [] [] h = refl
clauses_taken n v few [] (a ∷ more) h = let z : ◌≡◌ {A = ℕ} 0 1 = cc in absurd (omega arith)
clauses_taken n v few (c ∷ cs) ws h =
    let t = clause_taken n v (length cs) few (between v (suc (length cs))) [] [] (λ x. refl) (λ w q. refl) h.0 ws h.1 h.2 h.3 h.4 in
    let more = subst (λ (x : List Shape). ClausesWords v x cs) (sym t.are) h.6 in
    t.read
    ∙ ap (with_clause (arranged h.0)) (clauses_taken n v few cs t.others more)
    ∙ ap (λ (x : Clause). Ok (record { highest = v; all = x ∷ cs })) h.5

-- what is by the grammar is read
grammar_read : (text : List ℕ) (f : Formula') → length text < 2 ^ 64 → FormulaWords (shapes (words_of text)) f → formula_of text ≡ Ok f
grammar_read text f fits g =
    let n = length text in
    let ws = words_of text in
    let one = behind ws (name g.p) (name g.cnf ∷ number g.v ∷ number g.c ∷ g.body) g.all_words in
    let two = behind one.rest (name g.cnf) (number g.v ∷ number g.c ∷ g.body) one.others in
    let three = behind two.rest (number g.v) (number g.c ∷ g.body) two.others in
    let four = behind three.rest (number g.c) g.body three.others in
    let rest = four.rest in
    let h = f.highest in
    let few = g.few in
    let many = clauses_few h g.body f.all g.clauses in
    let all = ap length g.all_words in
    let words = length_shapes ws in
    let bytes = few_words text in
    let vs = g.variables in
    let cs = g.count in
    let capped_is : capped g.v ≡ h = omega arith in
    let counted_is : counted g.c ≡ length f.all = omega arith in
    takes n before ws (name g.p) _ one
    ∙ rw g.says_p (takes n format one.rest (name g.cnf) _ two
    ∙ rw g.says_cnf (takes n variables two.rest (number g.v) _ three
    ∙ rw (g.v_unsigned, capped_is) (takes n (clauses h) three.rest (number g.c) _ four
    ∙ rw (g.c_unsigned, le-ltb 512 h few, counted_is)
    (clauses_taken n h few f.all rest (subst (λ (x : List Shape). ClausesWords h x f.all) (sym four.others) g.clauses)))))

pub read_by_grammar : ReadByGrammar
read_by_grammar text f fits = (by_grammar text f fits, grammar_read text f fits)
