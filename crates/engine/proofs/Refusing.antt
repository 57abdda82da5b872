-- What the rules of each call say, from the tests that an engine makes.
use Rattle.std.proofs.Common.{rules, ◌≡◌, ℕ, ◌+◌, ◌-◌, Bool, true, false, cond, not, ◌&&◌, ◌||◌, ltb, leb, List, [], length, Some, None, Ok, Err, Option, Result, sym, refl, ap, ◌∙◌, arith}
use Rattle.std.proofs.lemmas.Bool.Decides.{nat_tests}
use Rattle.std.proofs.lemmas.Bool.{cond-true, cond-false, not_from_true, not_from_false}
use Rattle.cnf.specs.declared.literals.Literal.{Literal}
use Rattle.cnf.specs.declared.faults.ClauseFault.{ClauseFault}
use Rattle.cnf.specs.declared.faults.ClauseFault.TheVariants.{OutOfRange, Repeated}
use Rattle.cnf.specs.Clauses.{Clause, literals}
use Rattle.cnf.specs.Arranging.{outside, names, beyond, in_range_until, twice, new_until, arranged, arrangement}
use Rattle.cnf.proofs.Arranging.{arranged_length}
use Rattle.engine.specs.declared.faults.EngineFault.{EngineFault}
use Rattle.engine.specs.declared.faults.EngineFault.TheVariants.{Clause as Faulty, Full, NoSuchText, AlreadyOn, NotOn, HasValue, TrialOpen, NoTrial}
use Rattle.engine.specs.Meaning.{Meaning, highest, values, is_on, no_text, no_room, shut, no_trial, no_put, no_on, no_off, no_assume}
use Rattle.engine.specs.Limits.{judged, unless, placed}
use Rattle.engine.proofs.Keeping.{closed_trial, open_trial}

-- a meaning from its parts
pub alike : {m n : Meaning} → m.texts ≡ n.texts → m.on ≡ n.on → m.trail ≡ n.trail → m.opened ≡ n.opened
    → m.answers ≡ n.answers → m.text_limit ≡ n.text_limit → m.literal_limit ≡ n.literal_limit → m ≡ n
alike a b c d e f g i = record { texts = a i; on = b i; trail = c i; opened = d i; answers = e i; text_limit = f i; literal_limit = g i }

-- literals that make a clause
pub arranges : (ls : List Literal) (c : Clause) → arrangement highest ls ≡ Ok c → (beyond highest ls ≡ false) × (twice ls ≡ false) × (arranged ls ≡ c)
arranges ls c = go (beyond highest ls) (twice ls)
  where
    go : (b t : Bool) → cond b (Err (OutOfRange (in_range_until highest ls))) (cond t (Err (Repeated (new_until [] ls))) (Ok (arranged ls))) ≡ Ok c
        → (b ≡ false) × (t ≡ false) × (arranged ls ≡ c)
    go true t e = cc
    go false true e = cc
    go false false e = let same : arranged ls ≡ c = cc in (refl, refl, same)

-- the rules for literals that make none
pub faulty_rules : (ls : List Literal) (f : ClauseFault) (rest : Option EngineFault) → arrangement highest ls ≡ Err f
    → cond (beyond highest ls) (Some (Faulty (OutOfRange (in_range_until highest ls)))) (cond (twice ls) (Some (Faulty (Repeated (new_until [] ls)))) rest) ≡ Some (Faulty f)
faulty_rules ls f rest = go (beyond highest ls) (twice ls)
  where
    go : (b t : Bool) → cond b (Err (OutOfRange (in_range_until highest ls))) (cond t (Err (Repeated (new_until [] ls))) (Ok (arranged ls))) ≡ Err f
        → cond b (Some (Faulty (OutOfRange (in_range_until highest ls)))) (cond t (Some (Faulty (Repeated (new_until [] ls)))) rest) ≡ Some (Faulty f)
    go true t e = let same : OutOfRange (in_range_until highest ls) ≡ f = cc in ap (λ (x : ClauseFault). Some (Faulty x)) same
    go false true e = let same : Repeated (new_until [] ls) ≡ f = cc in ap (λ (x : ClauseFault). Some (Faulty x)) same
    go false false e = cc

module _ (m : Meaning) where
  pub shut_refused : m.opened ≡ true → shut m ≡ Some TrialOpen
  shut_refused o = cond-true m.opened _ _ o

  pub shut_done : m.opened ≡ false → shut m ≡ None
  shut_done o = cond-false m.opened _ _ o

  pub trial_refused : m.opened ≡ false → no_trial m ≡ Some NoTrial
  trial_refused o = cond-true (not m.opened) _ _ (not_from_false m.opened o)

  pub trial_done : m.opened ≡ true → no_trial m ≡ None
  trial_done o = cond-false (not m.opened) _ _ (not_from_true m.opened o)

  module _ (ls : List Literal) where
    pub put_open : m.opened ≡ true → no_put m ls ≡ Some TrialOpen
    put_open o = cond-true m.opened _ _ o

    pub put_faulty : (f : ClauseFault) → m.opened ≡ false → arrangement highest ls ≡ Err f → no_put m ls ≡ Some (Faulty f)
    put_faulty f o e = cond-false m.opened _ _ o ∙ faulty_rules ls f _ e

    module _ (c : Clause) (o : m.opened ≡ false) (e : arrangement highest ls ≡ Ok c) where
      same_count : length ls ≡ length c
      same_count = sym (arranged_length ls) ∙ ap (λ (d : Clause). length d) (arranges ls c e).2

      only_room : no_put m ls ≡ cond (no_room m (length c)) (Some Full) None
      only_room =
          cond-false m.opened _ _ o ∙ cond-false (beyond highest ls) _ _ (arranges ls c e).0 ∙ cond-false (twice ls) _ _ (arranges ls c e).1
          ∙ ap (λ (k : ℕ). cond (no_room m k) (Some Full) None) same_count

      pub put_full : no_room m (length c) ≡ true → no_put m ls ≡ Some Full
      put_full r = only_room ∙ cond-true (no_room m (length c)) _ _ r

      pub put_done : no_room m (length c) ≡ false → no_put m ls ≡ None
      put_done r = only_room ∙ cond-false (no_room m (length c)) _ _ r

  module _ (n : ℕ) where
    pub on_open : m.opened ≡ true → no_on m n ≡ Some TrialOpen
    on_open o = cond-true m.opened _ _ o

    pub on_none : m.opened ≡ false → no_text m n ≡ true → no_on m n ≡ Some NoSuchText
    on_none o t = cond-false m.opened _ _ o ∙ cond-true (no_text m n) _ _ t

    pub on_already : m.opened ≡ false → no_text m n ≡ false → is_on m n ≡ true → no_on m n ≡ Some AlreadyOn
    on_already o t b = cond-false m.opened _ _ o ∙ cond-false (no_text m n) _ _ t ∙ cond-true (is_on m n) _ _ b

    pub on_done : m.opened ≡ false → no_text m n ≡ false → is_on m n ≡ false → no_on m n ≡ None
    on_done o t b = cond-false m.opened _ _ o ∙ cond-false (no_text m n) _ _ t ∙ cond-false (is_on m n) _ _ b

    pub off_open : m.opened ≡ true → no_off m n ≡ Some TrialOpen
    off_open o = cond-true m.opened _ _ o

    pub off_none : m.opened ≡ false → no_text m n ≡ true → no_off m n ≡ Some NoSuchText
    off_none o t = cond-false m.opened _ _ o ∙ cond-true (no_text m n) _ _ t

    pub off_not : m.opened ≡ false → no_text m n ≡ false → is_on m n ≡ false → no_off m n ≡ Some NotOn
    off_not o t b = cond-false m.opened _ _ o ∙ cond-false (no_text m n) _ _ t ∙ cond-true (not (is_on m n)) _ _ (not_from_false (is_on m n) b)

    pub off_done : m.opened ≡ false → no_text m n ≡ false → is_on m n ≡ true → no_off m n ≡ None
    off_done o t b = cond-false m.opened _ _ o ∙ cond-false (no_text m n) _ _ t ∙ cond-false (not (is_on m n)) _ _ (not_from_true (is_on m n) b)

  module _ (l : Literal) where
    pub assume_shut : m.opened ≡ false → no_assume m l ≡ Some NoTrial
    assume_shut o = cond-true (not m.opened) _ _ (not_from_false m.opened o)

    pub assume_outside : m.opened ≡ true → outside highest l ≡ true → no_assume m l ≡ Some (Faulty (OutOfRange 0))
    assume_outside o r = cond-false (not m.opened) _ _ (not_from_true m.opened o) ∙ cond-true (outside highest l) _ _ r

    pub assume_valued : m.opened ≡ true → outside highest l ≡ false → names l.variable (values m) ≡ true → no_assume m l ≡ Some HasValue
    assume_valued o r v =
        cond-false (not m.opened) _ _ (not_from_true m.opened o) ∙ cond-false (outside highest l) _ _ r ∙ cond-true (names l.variable (values m)) _ _ v

    pub assume_done : m.opened ≡ true → outside highest l ≡ false → names l.variable (values m) ≡ false → no_assume m l ≡ None
    assume_done o r v =
        cond-false (not m.opened) _ _ (not_from_true m.opened o) ∙ cond-false (outside highest l) _ _ r ∙ cond-false (names l.variable (values m)) _ _ v

-- what a call says that gives a value tells why it is refused, if it is
pub unless_fault : {T : Type 0} (refusal : Option EngineFault) (x : T) (fault : EngineFault) → Err fault ≡ unless refusal x → refusal ≡ Some fault
unless_fault (Some e) x fault p = search (p, rules)
unless_fault None x fault p = search (p, rules)

pub unless_none : {T : Type 0} (refusal : Option EngineFault) (x y : T) → Ok y ≡ unless refusal x → refusal ≡ None
unless_none (Some e) x y p = search (p, rules)
unless_none None x y p = refl

-- and so does what a look says
pub judged_fault : (refusal : Option EngineFault) (fault : EngineFault) → Err fault ≡ judged refusal → refusal ≡ Some fault
judged_fault refusal = unless_fault refusal tt

pub judged_none : (refusal : Option EngineFault) → Ok tt ≡ judged refusal → refusal ≡ None
judged_none refusal = unless_none refusal tt tt

-- what the first rule refuses is refused for that, whatever rules follow
first_refuses : (b : Bool) (trouble fault : EngineFault) (rest : Option EngineFault) → Err fault ≡ judged (cond b (Some trouble) None)
    → cond b (Some trouble) rest ≡ Some fault
first_refuses true trouble fault rest p = search (p, rules)
first_refuses false trouble fault rest p = search (p, rules)

-- so is a call that an open trial shuts out, and one that needs a trial; one that is let in finds no trial open, or one
module _ (m : Meaning) where
  pub shut_refuses : (fault : EngineFault) (rest : Option EngineFault) → Err fault ≡ judged (shut m) → cond m.opened (Some TrialOpen) rest ≡ Some fault
  shut_refuses = first_refuses m.opened TrialOpen

  pub shut_passes : Ok tt ≡ judged (shut m) → m.opened ≡ false
  shut_passes p = closed_trial m (judged_none _ p)

  pub trial_refuses : (fault : EngineFault) (rest : Option EngineFault) → Err fault ≡ judged (no_trial m) → cond (not m.opened) (Some NoTrial) rest ≡ Some fault
  trial_refuses = first_refuses (not m.opened) NoTrial

  pub trial_passes : Ok tt ≡ judged (no_trial m) → m.opened ≡ true
  trial_passes p = open_trial m (judged_none _ p)

-- the search for a place among as many texts is refused by the rule for numbers
pub placed_is : (m : Meaning) (texts n : ℕ) → texts ≡ length m.texts → placed texts n ≡ unless (cond (no_text m n) (Some NoSuchText) None) (n - 1)
placed_is m texts n e = ap (λ (k : ℕ). placed k n) e ∙ go (no_text m n)
  where
    go : (b : Bool) → cond {A = Result ℕ EngineFault} b (Err NoSuchText) (Ok (n - 1)) ≡ unless (cond b (Some NoSuchText) None) (n - 1)
    go true = refl
    go false = refl

-- the rule for room is the test of what is left
pub no_room_is : (m : Meaning) (texts many k : ℕ) → texts ≡ length m.texts → many ≡ literals m.texts
    → no_room m k ≡ not (ltb texts m.text_limit && leb (many + k) m.literal_limit)
no_room_is m texts many k e f =
    (λ i. leb m.text_limit (sym e i) || ltb m.literal_limit (sym f i + k)) ∙ either_way m.text_limit m.literal_limit texts (many + k)
  where
    either_way : (t l a b : ℕ) → (leb t a || ltb l b) ≡ not (ltb a t && leb b l)
    either_way t l a b = grind (arith, nat_tests)
