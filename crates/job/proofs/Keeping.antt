-- A job's facts of its view, and which writes leave them.
use Rattle.std.proofs.Common.{◌≡◌, ℕ, suc, ◌+◌, ◌<◌, ◌≤◌, true, false, List, length, get_or, set, sym, refl, ap, ◌∙◌, subst, arith, get_or-set_other, Bool}
use lib.Seq.{paste}
use Rattle.std.proofs.lemmas.List.{length-set}
use Rattle.std.proofs.lemmas.List.Edits.{length-paste}
use Rattle.cnf.specs.declared.literals.Literal.{Literal}
use Rattle.cnf.specs.Clauses.{Clause}
use Rattle.drup.specs.History.{Step, table, ended}
use Rattle.drup.specs.Laws.{entry_of, strike_of}
use Rattle.job.specs.declared.rows.ClauseRow.{ClauseRow}
use Rattle.job.specs.declared.rows.StepRow.{StepRow}
use Rattle.job.specs.declared.jobs.Job.{Job}
use Rattle.job.specs.View.{View, blank_row, blank_step, clause_at, text_in, texts, with_rows, with_step_rows, with_lits, bare, with_arcs, with_judged}
use Rattle.job.specs.History.{down_from, steps_from, inputs_of, before, machine_of}
use Rattle.job.specs.Sound.{Range, Rooms, Counts, Laid, Rising, Complete, is_next, Numbered, Unended, step_or_none, Dated, Ordered, Sound}
use Rattle.job.specs.Calls.{laying}
use Rattle.job.specs.Seen.{view}
use Rattle.job.proofs.Histories.{down_same, steps_same, table_up, lemma_range, length_down}
use Rattle.job.proofs.Texts.{laid_within, laid_same, texts_same, clause_kept}
use Rattle.drup.specs.Forward.{Machine}

-- of each job
pub sound : (j : Job) → Sound (view j)
sound j = record {
  range = j.range;
  rooms = j.rooms;
  counts = j.counts;
  laid = j.laid;
  rising = j.rising;
  complete = j.complete;
  numbered = j.numbered;
  unended = j.unended;
  dated = j.dated;
  ordered = j.ordered;
}

-- and what a job with this view has to show
abbrev pub Held : View → Type 0
Held s = record {
  range : Range s.variables s.places s.room;
  rooms : Rooms s.places s.room s.rows s.steps s.lits;
  counts : Counts s.places s.room s.inputs s.clauses s.taken s.used;
  laid : Laid s.rows s.clauses s.used;
  rising : Rising s.variables (texts s) s.clauses;
  complete : Complete (texts s) s.inputs s.steps s.taken s.clauses;
  numbered : Numbered (texts s) s.inputs s.steps s.taken;
  unended : Unended (texts s) s.steps s.taken;
  dated : Dated s.rows (texts s) s.inputs s.steps s.taken s.clauses;
  ordered : Ordered s.rows s.clauses;
}

pub held : (s : View) → Sound s → Held s
held s o = record {
  range = o.range;
  rooms = o.rooms;
  counts = o.counts;
  laid = o.laid;
  rising = o.rising;
  complete = o.complete;
  numbered = o.numbered;
  unended = o.unended;
  dated = o.dated;
  ordered = o.ordered;
}

-- other literals behind those in use
pub sound_lits : (s : View) (lits : List Literal) → length lits ≡ length s.lits → texts (with_lits lits s) ≡ texts s → Sound s
    → Sound (with_lits lits s)
sound_lits s lits e same o = record {
  range = o.range;
  rooms = (o.rooms.0, o.rooms.1, (let h = o.rooms.2 in omega arith));
  counts = o.counts;
  laid = o.laid;
  rising = subst (λ ts. Rising s.variables ts s.clauses) (sym same) o.rising;
  complete = subst (λ ts. Complete ts s.inputs s.steps s.taken s.clauses) (sym same) o.complete;
  numbered = subst (λ ts. Numbered ts s.inputs s.steps s.taken) (sym same) o.numbered;
  unended = subst (λ ts. Unended ts s.steps s.taken) (sym same) o.unended;
  dated = subst (λ ts. Dated s.rows ts s.inputs s.steps s.taken s.clauses) (sym same) o.dated;
  ordered = o.ordered;
}

-- a clause is written behind those in use
pub sound_laid : (s : View) (c : Clause) → s.used + length c ≤ s.room → Sound s → Sound (laying s c (length c))
sound_laid s c fits o =
    let room : s.clauses ≤ length s.rows = (let a = o.rooms.0 in let b = o.counts.1 in omega arith) in
    let wide : s.used + length c ≤ length s.lits = (let a = o.rooms.2 in omega arith) in
    let lits = paste s.lits s.used c (length c) in
    sound_lits s lits (length-paste s.lits s.used c (length c) wide (omega arith))
    (texts_same s.rows s.rows lits s.lits s.clauses room room
    (λ k h. clause_kept s.lits s.used c wide (get_or s.rows k blank_row) (laid_within s.rows s.clauses s.used o.laid k h)))
    o

-- rows that differ only in their marks, or behind those in use
module _ (s : View) (rows : List ClauseRow) (e : length rows ≡ length s.rows)
    (same : (k : ℕ) → k < s.clauses → bare (get_or rows k blank_row) ≡ bare (get_or s.rows k blank_row)) (o : Sound s) where
  pub texts_marked : texts (with_rows rows s) ≡ texts s
  texts_marked =
      let room : s.clauses ≤ length s.rows = (let a = o.rooms.0 in let b = o.counts.1 in omega arith) in
      texts_same rows s.rows s.lits s.lits s.clauses (omega arith) room
      (λ k h. ap (λ (row : ClauseRow). clause_at s.lits row) (same k h))

  pub sound_rows : Sound (with_rows rows s)
  sound_rows = record {
    range = o.range;
    rooms = ((let h = o.rooms.0 in omega arith), o.rooms.1, o.rooms.2);
    counts = o.counts;
    laid = laid_same rows s.rows s.clauses s.used
        (λ k h. (ap (λ (row : ClauseRow). row.start) (same k h), ap (λ (row : ClauseRow). row.len) (same k h)))
        ∙ o.laid;
    rising = subst (λ ts. Rising s.variables ts s.clauses) (sym texts_marked) o.rising;
    complete = subst (λ ts. Complete ts s.inputs s.steps s.taken s.clauses) (sym texts_marked) o.complete;
    numbered = subst (λ ts. Numbered ts s.inputs s.steps s.taken) (sym texts_marked) o.numbered;
    unended = subst (λ ts. Unended ts s.steps s.taken) (sym texts_marked) o.unended;
    dated = subst (λ ts. Dated rows ts s.inputs s.steps s.taken s.clauses) (sym texts_marked)
        (λ k h. (
          ap (λ (row : ClauseRow). row.entered) (same k h) ∙ (o.dated k h).0,
          ap (λ (row : ClauseRow). row.struck) (same k h) ∙ (o.dated k h).1,
        ));
    ordered = λ k h step e.
        let a = ap (λ (row : ClauseRow). row.struck) (same k h) in
        let b = ap (λ (row : ClauseRow). row.entered) (same k h) in
        let c = o.ordered k h step (sym a ∙ e) in
        omega arith;
  }

  -- and the machine stays
  pub machine_marked : machine_of (with_rows rows s) ≡ machine_of s
  machine_marked =
      ap (λ (ts : List Clause). machine_read s.variables s.places s.room ts s.inputs s.steps s.taken) texts_marked
    where
      machine_read : (variables places room : ℕ) → List Clause → (inputs : ℕ) → List StepRow → (taken : ℕ) → Machine
      machine_read variables places room ts inputs steps taken = record {
        variables = variables;
        clause_places = places;
        literal_places = room;
        inputs = down_from (text_in ts) inputs;
        steps = steps_from (text_in ts) steps taken;
      }

-- a row is written behind those in use
pub sound_behind : (s : View) (p : ℕ) (row : ClauseRow) → s.clauses ≤ p → Sound s → Sound (with_rows (set s.rows p row) s)
sound_behind s p row above o =
    sound_rows s (set s.rows p row) (length-set s.rows p row)
    (λ k h. ap bare (get_or-set_other s.rows p k row blank_row (λ at. omega arith))) o

-- other arcs, and another judgement
pub sound_arcs : (s : View) (arcs : List ℕ) → Sound s → Sound (with_arcs arcs s)
sound_arcs s arcs o = record {
  range = o.range;
  rooms = o.rooms;
  counts = o.counts;
  laid = o.laid;
  rising = o.rising;
  complete = o.complete;
  numbered = o.numbered;
  unended = o.unended;
  dated = o.dated;
  ordered = o.ordered;
}

pub sound_judged : (s : View) (judged : Bool) → Sound s → Sound (with_judged judged s)
sound_judged s judged o = record {
  range = o.range;
  rooms = o.rooms;
  counts = o.counts;
  laid = o.laid;
  rising = o.rising;
  complete = o.complete;
  numbered = o.numbered;
  unended = o.unended;
  dated = o.dated;
  ordered = o.ordered;
}

-- a history up to a step, told by another text that has the same clauses so far, and by rows with the same steps so far
module _ (s : View) (o : Sound s) (last : ℕ) (h : last ≤ s.taken) (text : ℕ → Clause)
    (agree : (n : ℕ) → 1 ≤ n → n ≤ length (table (inputs_of s) (before s last)) → text_in (texts s) n ≡ text n) (steps : List StepRow)
    (same : (j : ℕ) → j < last → get_or s.steps j blank_step ≡ get_or steps j blank_step) where
  so_far : (k : ℕ) → k < last → is_next (inputs_of s) (before s k) (get_or s.steps k blank_step) ≡ true
  so_far k b = o.numbered k (omega arith)

  pub same_inputs : down_from text s.inputs ≡ inputs_of s
  same_inputs =
      let a = table_up (text_in (texts s)) s.inputs s.steps last so_far 0 last (omega arith) in
      let b = length_down (text_in (texts s)) s.inputs in
      sym (down_same (text_in (texts s)) text s.inputs (λ n low high. agree n low (omega arith)))

  pub same_before : (k : ℕ) → k ≤ last → steps_from text steps k ≡ before s k
  same_before k b =
      sym (steps_same (text_in (texts s)) text s.steps steps (length (table (inputs_of s) (before s last))) k agree
      (λ j c. same j (omega arith))
      (λ j c n e. lemma_range (text_in (texts s)) s.inputs s.steps last so_far j (omega arith) n e))

  pub same_numbered : (k : ℕ) → k < last → is_next (down_from text s.inputs) (steps_from text steps k) (get_or steps k blank_step) ≡ true
  same_numbered k b =
      let e = same_inputs in
      let f = same_before k (omega arith) in
      let g = same k b in
      cc (so_far k b)

  pub same_unended : (k : ℕ) → k < last → ended (steps_from text steps k) ≡ false
  same_unended k b = ap ended (same_before k (omega arith)) ∙ o.unended k (omega arith)

-- a step is written behind those in use
pub sound_next : (s : View) (row : StepRow) → Sound s → Sound (with_step_rows (set s.steps s.taken row) s)
sound_next s row o =
    let long = length-set s.steps s.taken row in
    let ins = same_inputs s o s.taken (omega arith) (text_in (texts s)) (λ n low high. refl) (set s.steps s.taken row) kept in
    let all = same_before s o s.taken (omega arith) (text_in (texts s)) (λ n low high. refl) (set s.steps s.taken row) kept s.taken (omega arith) in
    record {
      range = o.range;
      rooms = (o.rooms.0, (let h = o.rooms.1 in omega arith), o.rooms.2);
      counts = o.counts;
      laid = o.laid;
      rising = o.rising;
      complete = o.complete ∙ ap (λ (e : List Step). length (table (inputs_of s) e)) (sym all);
      numbered = same_numbered s o s.taken (omega arith) (text_in (texts s)) (λ n low high. refl) (set s.steps s.taken row) kept;
      unended = same_unended s o s.taken (omega arith) (text_in (texts s)) (λ n low high. refl) (set s.steps s.taken row) kept;
      dated = λ k h. (
        (o.dated k h).0 ∙ ap (λ (e : List Step). entry_of (inputs_of s) e (suc k)) (sym all),
        (o.dated k h).1 ∙ ap (λ (e : List Step). step_or_none (strike_of e (suc k))) (sym all),
      );
      ordered = o.ordered;
    }
  where
    kept : (j : ℕ) → j < s.taken → get_or s.steps j blank_step ≡ get_or (set s.steps s.taken row) j blank_step
    kept j h = sym (get_or-set_other s.steps s.taken j row blank_step (λ at. omega arith))
