-- The way back over the steps: what the loop keeps.
use Rattle.std.proofs.Common.{◌≡◌, ℕ, suc, ◌+◌, ◌-◌, ◌*◌, ◌<◌, ◌≤◌, min, Bool, true, false, List, [], ◌∷◌, map, length, get_or, Some, None, sym, refl, ap, ◌∙◌, subst, arith}
use Rattle.std.proofs.lemmas.Option.{none-some, same_Some}
use mathlib.Core.List.Memᴰ
use lib.Seq.{paste}
use Rattle.cnf.specs.declared.literals.Forced.{Forced as Entry}
use Rattle.cnf.specs.declared.literals.Literal.{Literal}
use Rattle.cnf.specs.Literals.{complement}
use Rattle.cnf.specs.Clauses.{Clause, ◌∈◌}
use Rattle.cnf.proofs.Arranging.{all_cons}
use Rattle.drup.specs.History.{Step, learned, table, next_number, text, Live}
use Rattle.drup.specs.Marks.{Marks, marked}
use Rattle.drup.specs.Backward.{ConflictOver, NothingOver, gathered, Row, arcs, conflict_row, asked, fails}
use Rattle.drup.specs.Box.{Checks, Stands}
use Rattle.drup.specs.Reading.{marks_of}
use Rattle.drup.proofs.Trials.{row_alive, row_few}
use Rattle.drup.proofs.Going.{at_first, past_strike, past_lemma, past_conflict, at_nothing}
use Rattle.engine.specs.Meaning.{Meaning, On, text_of, with_mark, most, counted_by}
use Rattle.job.specs.declared.rows.StepRow.{StepRow}
use Rattle.job.specs.declared.rows.StepRow.TheVariants.{Lemma, Strike}
use Rattle.job.specs.declared.jobs.reports.Tally.{Tally}
use Rattle.job.specs.View.{View, blank_row, blank_step, text_in, texts, marks}
use Rattle.job.specs.History.{inputs_of, before, machine_of}
use Rattle.job.specs.CheckLists.{Framed, row_start, arcs_of, recorded}
use Rattle.job.specs.CheckShowing.{Shows, Holds}
use Rattle.job.specs.CheckJudging.{Passed, Failed}
use Rattle.job.specs.CheckWalking.{nothing, added, Addable, BackLemma, Back, Roomy, Ready, verdict_in, TurnsDown}
use Rattle.job.proofs.Histories.{length_steps}
use Rattle.job.proofs.CheckFit.{Fit}
use Rattle.job.proofs.CheckShown.{shown_conflict, shown_nothing, shown_gathered}
use Rattle.job.proofs.CheckJudgement.{few_answers, holds_after}
use Rattle.job.proofs.CheckStepping.{as_strike, as_lemma, its_number, its_range, shows_off, holds_off, shows_on, holds_on}
use Rattle.job.proofs.CheckFraming.{texts_framed, rows_framed, clauses_framed, steps_framed, start_framed, framed_recorded, framed_self, holds_framed, inputs_framed, before_framed}
use Rattle.job.proofs.CheckMarking.{mark_at, all_marked_lem}

-- i steps are left
pub record Going (s₀ : View) (i : ℕ) (s : View) (m : Meaning) (t : Tally) : Type 0 where
  pub framed : Framed s₀ s
  pub rows : List Row
  pub count : ℕ
  pub stands : Stands (machine_of s₀) (before s₀ i) (verdict_in s rows) count
  pub arc_list : s.arcs ≡ arcs_of s₀ rows
  pub counted : m.answers ≡ min count most
  pub holds : Holds m s₀
  pub shows : Shows m (inputs_of s₀) (before s₀ i)
  pub all_lemmas : t.lemmas ≡ length rows
  pub all_arcs : t.arcs ≡ arcs rows
  -- at most one lemma to a step, with at most 513 arcs
  pub few_lemmas : t.lemmas + i ≤ s₀.taken
  pub few_arcs : t.arcs + 513 * i ≤ 513 * s₀.taken

-- at the last step
pub going_first : (s : View) (m : Meaning) → Ready s m → Going s s.taken s m (record { lemmas = 0; arcs = 0 })
going_first s m r = record {
  framed = framed_self s;
  rows = [];
  count = 0;
  stands = subst (λ (k : Marks). Stands (machine_of s) (before s s.taken) (record { kept = k; rows = [] }) 0) (sym r.kept) (at_first (machine_of s));
  arc_list = r.no_arcs;
  counted = r.uncounted;
  holds = r.holds;
  shows = r.shows;
  all_lemmas = refl;
  all_arcs = refl;
  few_lemmas = omega arith;
  few_arcs = omega arith;
}

shows_after : (m m' : Meaning) (inputs : List Clause) (steps : List Step) (k : ℕ) → m' ≡ counted_by k m → Shows m inputs steps → Shows m' inputs steps
shows_after m m' inputs steps k e s =
    subst (λ (x : Meaning). Shows x inputs steps) (sym e)
    (record { level = s.level; has_all = s.has_all; same_text = s.same_text; live_on = s.live_on; on_live = s.on_live })

module _ (s₀ : View) (o : Fit s₀) (rooms : Roomy s₀) (i : ℕ) (h : i < s₀.taken) (s : View) (m : Meaning) (t : Tally) (g : Going s₀ (suc i) s m t) where
  module _ (n : ℕ) (e : get_or s₀.steps i blank_step ≡ Strike n) where
    on_strike : (s' : View) (m' : Meaning) (more : Tally) → s' ≡ s → m' ≡ with_mark n true m → more ≡ nothing → Going s₀ i s' m' (added t more)
    on_strike s' m' more p q u =
        subst (λ (x : View). Going s₀ i x m' (added t more)) (sym p)
        (subst (λ (x : Meaning). Going s₀ i s x (added t more)) (sym q)
        (subst (λ (x : Tally). Going s₀ i s (with_mark n true m) (added t x)) (sym u)
        (record {
          framed = g.framed;
          rows = g.rows;
          count = g.count;
          stands = past_strike (machine_of s₀) (verdict_in s g.rows) g.count n (before s₀ i)
              (subst (λ (steps : List Step). Stands (machine_of s₀) steps (verdict_in s g.rows) g.count) (as_strike s₀ o i h n e) g.stands);
          arc_list = g.arc_list;
          counted = g.counted;
          holds = holds_on s₀ o i h n e m g.holds g.shows;
          shows = shows_on s₀ o i h n e m g.holds g.shows;
          all_lemmas = (let a = g.all_lemmas in omega arith);
          all_arcs = (let a = g.all_arcs in omega arith);
          few_lemmas = (let a = g.few_lemmas in omega arith);
          few_arcs = (let a = g.few_arcs in omega arith);
        })))

  module _ (n : ℕ) (e : get_or s₀.steps i blank_step ≡ Lemma n) where
    abbrev off : Meaning
    off = with_mark n false m

    holds : Holds off s₀
    holds = holds_off s₀ o i h n e m g.holds g.shows

    shows : Shows off (inputs_of s₀) (before s₀ i)
    shows = shows_off s₀ o i h n e m g.holds g.shows

    number : n ≡ next_number (inputs_of s₀) (before s₀ i)
    number = its_number s₀ o i h n e

    range : (s₀.inputs < n) × (n ≤ s₀.clauses)
    range = its_range s₀ o i h n e

    stands : Stands (machine_of s₀) (learned (text_in (texts s₀) n) ∷ before s₀ i) (verdict_in s g.rows) g.count
    stands = subst (λ (steps : List Step). Stands (machine_of s₀) steps (verdict_in s g.rows) g.count) (as_lemma s₀ o i h n e) g.stands

    -- its mark
    its_mark : (b : Bool) → (get_or s.rows (n - 1) blank_row).kept ≡ b → marks_of (marks s) (next_number (inputs_of s₀) (before s₀ i)) ≡ b
    its_mark b f =
        let c = clauses_framed s₀ s g.framed in
        let a = range.0 in
        let z = range.1 in
        ap (marks_of (marks s)) (sym number) ∙ mark_at s.clauses s.rows n (omega arith) (omega arith) ∙ f

    on_idle : (s' : View) (m' : Meaning) (more : Tally) → (get_or s.rows (n - 1) blank_row).kept ≡ false → s' ≡ s → m' ≡ off → more ≡ nothing → Going s₀ i s' m' (added t more)
    on_idle s' m' more f p q u =
        subst (λ (x : View). Going s₀ i x m' (added t more)) (sym p)
        (subst (λ (x : Meaning). Going s₀ i s x (added t more)) (sym q)
        (subst (λ (x : Tally). Going s₀ i s off (added t x)) (sym u)
        (record {
          framed = g.framed;
          rows = g.rows;
          count = g.count;
          stands = past_lemma (machine_of s₀) (verdict_in s g.rows) g.count (text_in (texts s₀) n) (before s₀ i) stands (its_mark false f);
          arc_list = g.arc_list;
          counted = g.counted;
          holds = holds;
          shows = shows;
          all_lemmas = (let a = g.all_lemmas in omega arith);
          all_arcs = (let a = g.all_arcs in omega arith);
          few_lemmas = (let a = g.few_lemmas in omega arith);
          few_arcs = (let a = g.few_arcs in omega arith);
        })))

    same_lemma : map complement (text_in (texts s) n) ≡ map complement (text_in (texts s₀) n)
    same_lemma = ap (λ (ts : List Clause). map complement (text_in ts n)) (texts_framed s₀ s g.framed)

    more_counted : (m' : Meaning) (k : ℕ) → m' ≡ counted_by k off → m'.answers ≡ min (g.count + k) most
    more_counted m' k q = ap (λ (x : Meaning). x.answers) q ∙ ap (λ (a : ℕ). min (a + k) most) g.counted ∙ (let z : min (min g.count most + k) most ≡ min (g.count + k) most = omega arith in z)

    on_passed : (s' : View) (m' : Meaning) (more : Tally) → (get_or s.rows (n - 1) blank_row).kept ≡ true → more.lemmas ≡ 1 → Passed s off n more.arcs s' m' → Going s₀ i s' m' (added t more)
    on_passed s' m' more f one p = go
      where
        answers : List Entry
        answers = p.answers

        row : List ℕ
        row = gathered (text_of off) answers (p.at ∷ [])

        conflict : ConflictOver (On off) (text_of off) (map complement (text_in (texts s₀) n)) answers p.at
        conflict = subst (λ (ls : List Literal). ConflictOver (On off) (text_of off) ls answers p.at) same_lemma p.conflict

        all_on : (k : ℕ) → k ∈ row → On off k
        all_on = row_alive (text_of off) (text_of off) (On off) (map complement (text_in (texts s₀) n)) answers p.at conflict

        in_range : (k : ℕ) → k ∈ row → (1 ≤ k) × (k ≤ s₀.clauses)
        in_range k x = holds.numbered k (all_on k x)

        -- the model's row
        same_row : row ≡ gathered (text (table (inputs_of s₀) (before s₀ i))) answers (p.at ∷ [])
        same_row =
            shown_gathered off (inputs_of s₀) (before s₀ i) shows (map complement (text_in (texts s₀) n)) answers (p.at ∷ []) conflict.right
            (all_cons (Live (inputs_of s₀) (before s₀ i)) (shows.on_live p.at conflict.live) (λ k x. absurd (Memᴰ.not-nil x)))

        its_row : Row
        its_row = conflict_row (inputs_of s₀) (before s₀ i) answers p.at

        short : length row ≤ suc s₀.variables
        short =
            let a = few_answers off s₀ holds o (map complement (text_in (texts s₀) n)) answers conflict.right in
            let b = row_few (text_of off) answers p.at in
            omega arith

        fits : row_start s n + length row ≤ length s.arcs
        fits =
            let a = rooms n range.0 range.1 in
            let b = short in
            let c = start_framed s₀ s g.framed n in
            let d = g.framed.same_places in
            omega arith

        new_marks : marks_of (marks (recorded s n row)) ≡ marked its_row.antecedents (marks_of (marks s))
        new_marks =
            all_marked_lem s.clauses row s.rows (let a = rows_framed s₀ s g.framed in let b = clauses_framed s₀ s g.framed in omega (arith, o.rooms.0))
            (λ k x. (holds_framed s₀ s g.framed off holds).numbered k (all_on k x))
            ∙ ap (λ (r : List ℕ). marked r (marks_of (marks s))) same_row

        new_arcs : (recorded s n row).arcs ≡ arcs_of s₀ (its_row ∷ g.rows)
        new_arcs =
            ap (λ (a : List ℕ). paste a (row_start s n) row (length row)) g.arc_list
            ∙ ap (λ (a : ℕ). paste (arcs_of s₀ g.rows) a row (length row)) (start_framed s₀ s g.framed n ∙ ap (row_start s₀) number)
            ∙ ap (λ (r : List ℕ). paste (arcs_of s₀ g.rows) (row_start s₀ its_row.lemma_number) r (length r)) same_row

        new_stands : Stands (machine_of s₀) (before s₀ i) (verdict_in (recorded s n row) (its_row ∷ g.rows)) (g.count + asked answers)
        new_stands =
            subst (λ (k : Marks). Stands (machine_of s₀) (before s₀ i) (record { kept = k; rows = its_row ∷ g.rows }) (g.count + asked answers)) (sym new_marks)
            (past_conflict (machine_of s₀) (verdict_in s g.rows) g.count (text_in (texts s₀) n) (before s₀ i) stands (its_mark true f) answers p.at
            (shown_conflict off (inputs_of s₀) (before s₀ i) shows (map complement (text_in (texts s₀) n)) answers p.at conflict))

        same_length : length row ≡ length its_row.antecedents
        same_length = ap length same_row

        more_arcs : more.arcs ≡ length row
        more_arcs = p.counts

        go : Going s₀ i s' m' (added t more)
        go =
            subst (λ (x : View). Going s₀ i x m' (added t more)) (sym p.lists)
            (record {
              framed = framed_recorded s₀ s g.framed n row fits in_range;
              rows = its_row ∷ g.rows;
              count = g.count + asked answers;
              stands = new_stands;
              arc_list = new_arcs;
              counted = more_counted m' (asked answers) p.engine;
              holds = holds_after off m' s₀ (asked answers) p.engine holds;
              shows = shows_after off m' (inputs_of s₀) (before s₀ i) (asked answers) p.engine shows;
              all_lemmas = (let b = g.all_lemmas in omega (arith, one));
              all_arcs = (let a = more_arcs in let b = g.all_arcs in let d = same_length in omega arith);
              few_lemmas = (let b = g.few_lemmas in omega (arith, one));
              few_arcs = (let a = more_arcs in let b = g.few_arcs in let d = short in let r = o.range in omega arith);
            })

    on_failed : (s' : View) (m' : Meaning) → (get_or s.rows (n - 1) blank_row).kept ≡ true → Failed s off n s' m' → Framed s₀ s' × TurnsDown s₀ (suc i) m'
    on_failed s' m' f p = (
      subst (Framed s₀) (sym p.lists) g.framed,
      record {
        count = g.count + asked p.answers;
        checks = subst (λ (k : ℕ). Checks (machine_of s₀) (fails (suc k) (g.count + asked p.answers))) (length_steps (text_in (texts s₀)) s₀.steps i)
            (at_nothing (machine_of s₀) (verdict_in s g.rows) g.count (text_in (texts s₀) n) (before s₀ i) stands (its_mark true f) p.answers
            (shown_nothing off (inputs_of s₀) (before s₀ i) shows (map complement (text_in (texts s₀) n)) p.answers
            (subst (λ (ls : List Literal). NothingOver (On off) (text_of off) ls p.answers) same_lemma p.nothing)));
        counted = more_counted m' (asked p.answers) p.engine;
        holds = holds_after off m' s₀ (asked p.answers) p.engine holds;
        level = (shows_after off m' (inputs_of s₀) (before s₀ i) (asked p.answers) p.engine shows).level;
      },
    )

  here_too : get_or s.steps i blank_step ≡ get_or s₀.steps i blank_step
  here_too = ap (λ (steps : List StepRow). get_or steps i blank_step) (steps_framed s₀ s g.framed)

  pub going_on : (s' : View) (m' : Meaning) (more : Tally) → Back s m (get_or s.steps i blank_step) (Some more) s' m' → Going s₀ i s' m' (added t more)
  going_on s' m' more b = go (get_or s.steps i blank_step) (sym here_too) b
    where
      lemma : (n : ℕ) → get_or s₀.steps i blank_step ≡ Lemma n → (k : Bool) → (get_or s.rows (n - 1) blank_row).kept ≡ k → BackLemma s (with_mark n false m) n k (Some more) s' m' → Going s₀ i s' m' (added t more)
      lemma n e true f p = on_passed n e s' m' more f p.0 p.1
      lemma n e false f p = on_idle n e s' m' more f p.1 p.2 (same_Some more nothing p.0)

      go : (r : StepRow) → get_or s₀.steps i blank_step ≡ r → Back s m r (Some more) s' m' → Going s₀ i s' m' (added t more)
      go (Strike n) e p = on_strike n e s' m' more p.1 p.2 (same_Some more nothing p.0)
      go (Lemma n) e p = lemma n e (get_or s.rows (n - 1) blank_row).kept refl p

  pub going_fails : (s' : View) (m' : Meaning) → Back s m (get_or s.steps i blank_step) None s' m' → Framed s₀ s' × TurnsDown s₀ (suc i) m'
  going_fails s' m' b = go (get_or s.steps i blank_step) (sym here_too) b
    where
      lemma : (n : ℕ) → get_or s₀.steps i blank_step ≡ Lemma n → (k : Bool) → (get_or s.rows (n - 1) blank_row).kept ≡ k → BackLemma s (with_mark n false m) n k None s' m' → Framed s₀ s' × TurnsDown s₀ (suc i) m'
      lemma n e true f p = on_failed n e s' m' f p
      lemma n e false f p = absurd (none-some nothing p.0)

      go : (r : StepRow) → get_or s₀.steps i blank_step ≡ r → Back s m r None s' m' → Framed s₀ s' × TurnsDown s₀ (suc i) m'
      go (Strike n) e p = absurd (none-some nothing p.0)
      go (Lemma n) e p = lemma n e (get_or s.rows (n - 1) blank_row).kept refl p

-- what a step back asks for
module _ (s₀ : View) (o : Fit s₀) (i k : ℕ) (e : i ≡ suc k) (s : View) (m : Meaning) (t : Tally) (g : Going s₀ i s m t) where
  pub going_next : Going s₀ (suc k) s m t
  going_next = subst (λ (j : ℕ). Going s₀ j s m t) e g

  pub shows_there : Shows m (inputs_of s) (before s (suc k))
  shows_there =
      subst (λ (is : List Clause). Shows m is (before s (suc k))) (sym (inputs_framed s₀ s g.framed))
      (subst (Shows m (inputs_of s₀)) (sym (before_framed s₀ s g.framed (suc k))) going_next.shows)

-- what a step back counts can be added
pub can_add : (s₀ : View) → Fit s₀ → (i : ℕ) (s : View) (m : Meaning) (t more : Tally) → Going s₀ i s m (added t more) → Addable t more
can_add s₀ o i s m t more g =
    let a = g.few_lemmas in
    let b = g.few_arcs in
    let d = o.rooms.3 in
    (omega arith, omega arith)
