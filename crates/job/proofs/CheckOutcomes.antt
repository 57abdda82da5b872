-- From the lists after the way back to the model's verdict.
use Rattle.std.proofs.Common.{◌≡◌, ℕ, suc, ◌-◌, ◌*◌, ◌<◌, ◌≤◌, min, true, List, [], ◌∷◌, length, replicate, sym, refl, ap, ◌∙◌, subst, mul-le-mul, arith}
use lib.Seq.{paste}
use Rattle.cnf.specs.Clauses.{Clause, ◌∈◌}
use Rattle.drup.specs.History.{Step, learned, struck, table, lemmas, ended}
use Rattle.drup.specs.Marks.{sieved}
use Rattle.drup.specs.Forward.{Machine}
use Rattle.drup.specs.Backward.{Row, Verdict, report, accepted, fails}
use Rattle.drup.specs.Backward.{Report as Told}
use Rattle.drup.specs.Box.{arcs_needed, Checks}
use Rattle.drup.specs.Agreement.{Certified}
use Rattle.drup.specs.Reading.{marks_of, numbers_at, verdict_at}
use Rattle.drup.proofs.Trimmed.{certified, reported}
use Rattle.drup.proofs.Visited.{fails_at}
use Rattle.drup.proofs.Reading.{read_back}
use Rattle.engine.specs.Meaning.{Meaning, most}
use Rattle.job.specs.declared.jobs.reports.Tally.{Tally}
use Rattle.job.specs.declared.jobs.reports.Report.{Report}
use Rattle.job.specs.View.{View, text_in, texts, marks}
use Rattle.job.specs.History.{inputs_of, steps_of, machine_of}
use Rattle.job.specs.CheckLists.{arcs_of, Framed}
use Rattle.job.specs.CheckWalking.{Roomy, verdict_in, Judges, TurnsDown}
use Rattle.job.specs.Checking.{told, Accepts}
use Rattle.job.proofs.Histories.{length_down}
use Rattle.job.proofs.CheckFit.{Fit}
use Rattle.job.proofs.CheckFraming.{machine_framed, start_framed, framed_twice}
use Rattle.job.proofs.CheckStepping.{inputs_stay}
use Rattle.job.proofs.CheckArcs.{Fits, row_read}

lemmas_entered : (inputs : List Clause) (steps : List Step) → lemmas steps ≤ length (table inputs steps)
lemmas_entered inputs [] = omega arith
lemmas_entered inputs (learned c ∷ earlier) = let h = lemmas_entered inputs earlier in omega arith
lemmas_entered inputs (struck n ∷ earlier) = lemmas_entered inputs earlier

module _ (s : View) (o : Fit s) where
  -- so many answers can be counted
  few_counted : (count : ℕ) → count ≤ arcs_needed (machine_of s) → min count most ≡ count
  few_counted count h =
      let a = lemmas_entered (inputs_of s) (steps_of s) in
      let b = o.all_in in
      let c = o.rooms.2 in
      let d = o.range in
      let e : lemmas (steps_of s) * suc s.variables ≤ 4096 * 513 = mul-le-mul {n₁ = lemmas (steps_of s)} {m₁ = suc s.variables} {n₂ = 4096} {m₂ = 513} (omega arith) (omega arith) in
      omega arith

  module _ (s' : View) (m' : Meaning) (t' : Tally) (e : ended (steps_of s) ≡ true) (rooms : Roomy s) (j : Judges s s' m' t') where
    v : Verdict
    v = verdict_in s' j.rows

    worth : Certified (machine_of s) v
    unfolding v
    worth = certified (machine_of s) (verdict_in s' j.rows) (report (inputs_of s) (verdict_in s' j.rows) j.count) o.formed e j.checks

    fits : (row : Row) → row ∈ j.rows → Fits s row
    unfolding v
    fits row x =
        let (c, earlier, place, derives) = worth.rows_right row x in
        let a = derives.its_number in
        let b = inputs_stay (inputs_of s) earlier in
        let d = length_down (text_in (texts s)) s.inputs in
        let later : s.inputs < row.lemma_number = omega arith in
        let z = worth.all_numbers row.lemma_number (worth.rows_kept row x) in
        record { later = later; short = derives.short; room = rooms row.lemma_number later (let y = o.all_in in omega (arith, z.1)) }

    only : (row : Row) → row ∈ j.rows → (r : Row) → r ∈ j.rows → r.lemma_number ≡ row.lemma_number → r ≡ row
    unfolding v
    only row x r y p =
        let (c, earlier, place, derives) = worth.rows_right row x in
        let kept = worth.rows_kept row x in
        let one = worth.every_row c earlier place (ap (marks_of (marks s')) (sym derives.its_number) ∙ kept) in
        let its = derives.its_number ∙ sym one.derives.its_number in
        one.the_only r y (p ∙ its) ∙ sym (one.the_only row x its)

    pub verdict_read : verdict_at (machine_of s) (marks s') s'.arcs ≡ verdict_in s' j.rows
    unfolding v
    verdict_read =
        read_back (machine_of s) (verdict_in s' j.rows) (report (inputs_of s) (verdict_in s' j.rows) j.count) (marks s') s'.arcs j.checks refl
        (λ row x.
        let (c, earlier, place, derives) = worth.rows_right row x in
        ap (λ (a : List ℕ). numbers_at a ((row.lemma_number - suc (length (inputs_of s))) * suc s.variables) (suc s.variables)) j.arc_list
        ∙ ap (λ (k : ℕ). numbers_at (arcs_of s j.rows) ((row.lemma_number - suc k) * suc s.variables) (suc s.variables)) (length_down (text_in (texts s)) s.inputs)
        ∙ row_read s j.rows row fits (only row x) x (λ k y. (derives.live k y).numbered))

    pub count_told : m'.answers ≡ j.count
    count_told = j.counted ∙ few_counted j.count (reported (machine_of s) (verdict_in s' j.rows) (report (inputs_of s) (verdict_in s' j.rows) j.count) o.formed j.checks).answers_few

    pub arcs_there : s'.arcs ≡ arcs_of s (verdict_at (machine_of s) (marks s') s'.arcs).rows
    arcs_there = j.arc_list ∙ ap (λ (x : Verdict). arcs_of s x.rows) (sym verdict_read)

    -- the check accepts, with this report
    pub accepts_there :
        (r : Report) → r.inputs ≡ length (sieved (marks_of (marks s')) (inputs_of s)) → r.lemmas ≡ t'.lemmas → r.arcs ≡ t'.arcs → r.answers ≡ m'.answers
        → Checks (machine_of s) (accepted (verdict_at (machine_of s) (marks s') s'.arcs) (told r))
    accepts_there r a b c d =
        let b' = b ∙ j.all_lemmas in
        let c' = c ∙ j.all_arcs in
        let d' = d ∙ count_told in
        let same : told r ≡ report (inputs_of s) (verdict_in s' j.rows) j.count =
        λ i. record { input_count = a i; lemma_count = b' i; arc_count = c' i; answer_count = d' i } in
        subst (λ (x : Verdict). Checks (machine_of s) (accepted x (told r))) (sym verdict_read)
        (subst (λ (x : Told). Checks (machine_of s) (accepted (verdict_in s' j.rows) x)) (sym same) j.checks)

  -- a lemma does not pass
  module _ (step : ℕ) (m' : Meaning) (t : TurnsDown s step m') where
    failing_count : m'.answers ≡ t.count
    failing_count = t.counted ∙ few_counted t.count (fails_at (machine_of s) o.formed step t.count t.checks).answers_few

    pub fails_there : Checks (machine_of s) (fails step m'.answers)
    fails_there = subst (λ (k : ℕ). Checks (machine_of s) (fails step k)) (sym failing_count) t.checks

-- the arc list with rows, from a job that differs only in marks and arcs
arcs_framed : (s s₁ : View) → Framed s s₁ → (rows : List Row) → arcs_of s₁ rows ≡ arcs_of s rows
arcs_framed s s₁ f [] = ap (λ (k : ℕ). replicate k 0) f.same_places
arcs_framed s s₁ f (row ∷ rows) =
    λ i. paste (arcs_framed s s₁ f rows i) (start_framed s s₁ f row.lemma_number i) row.antecedents (length row.antecedents)

module _ (s s₁ : View) (f : Framed s s₁) (o₁ : Fit s₁) (m₂ m₃ : Meaning) (q : m₃.answers ≡ m₂.answers) where
  pub accepts : (s₂ : View) (t : Tally) (r : Report) → ended (steps_of s₁) ≡ true → Roomy s₁ → Framed s₁ s₂ → Judges s₁ s₂ m₂ t
      → r.inputs ≡ length (sieved (marks_of (marks s₂)) (inputs_of s₂)) → r.lemmas ≡ t.lemmas → r.arcs ≡ t.arcs → r.answers ≡ m₃.answers
      → Accepts s r s₂
  accepts s₂ t r e rooms g j a b c d =
      let same = machine_framed s s₁ f in
      let a' = a ∙ ap (λ (x : Machine). length (sieved (marks_of (marks s₂)) x.inputs)) (machine_framed s₁ s₂ g) in
      record {
        framed = framed_twice s s₁ s₂ f g;
        checks = subst (λ (x : Machine). Checks x (accepted (verdict_at x (marks s₂) s₂.arcs) (told r))) same
            (accepts_there s₁ o₁ s₂ m₂ t e rooms j r a' b c (d ∙ q));
        arc_list = arcs_there s₁ o₁ s₂ m₂ t e rooms j
            ∙ arcs_framed s s₁ f (verdict_at (machine_of s₁) (marks s₂) s₂.arcs).rows
            ∙ ap (λ (x : Machine). arcs_of s (verdict_at x (marks s₂) s₂.arcs).rows) same;
      }

  pub turns_down : (step : ℕ) → TurnsDown s₁ step m₂ → Checks (machine_of s) (fails step m₃.answers)
  turns_down step t =
      subst (λ (x : Machine). Checks x (fails step m₃.answers)) (machine_framed s s₁ f)
      (subst (λ (k : ℕ). Checks (machine_of s₁) (fails step k)) (sym q) (fails_there s₁ o₁ step m₂ t))
