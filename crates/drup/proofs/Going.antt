-- A check on its way: steps for a loop that goes back over a job's steps.
use Rattle.std.proofs.Common.{◌≡◌, ℕ, suc, ◌+◌, true, false, List, [], ◌∷◌, map, length, refl, inl, inr}
use Rattle.cnf.specs.Literals.{complement}
use Rattle.cnf.specs.Clauses.{Clause}
use Rattle.cnf.specs.declared.literals.Forced.{Forced}
use Rattle.drup.specs.History.{Step, learned, next_number, struck}
use Rattle.drup.specs.Forward.{Machine}
use Rattle.drup.specs.Backward.{Conflict, Nothing, Verdict, accepted, asked, conflict_row, fails, report, with_row}
use Rattle.drup.specs.Box.{Checks, Stands, empty_kept}

module _ (m : Machine) where
  -- at the last step, with the empty lemma kept
  pub at_first : Stands m m.steps (empty_kept m) 0
  at_first outcome b = b

  module _ (so_far : Verdict) (count : ℕ) where
    pub past_strike : (n : ℕ) (earlier : List Step) → Stands m (struck n ∷ earlier) so_far count → Stands m earlier so_far count
    past_strike n earlier s = s

    module _ (c : Clause) (earlier : List Step) (s : Stands m (learned c ∷ earlier) so_far count) where
      pub past_lemma : so_far.kept (next_number m.inputs earlier) ≡ false → Stands m earlier so_far count
      past_lemma out outcome b = s outcome (inl (out, b))

      module _ (k : so_far.kept (next_number m.inputs earlier) ≡ true) (answers : List Forced) where
        pub past_conflict :
            (n : ℕ) → Conflict m.inputs earlier (map complement c) answers n
            → Stands m earlier (with_row (conflict_row m.inputs earlier answers n) so_far) (count + asked answers)
        past_conflict n right outcome b = s outcome (inr (inl (k, answers, n, right, b)))

        pub at_nothing :
            Nothing m.inputs earlier (map complement c) answers
            → Checks m (fails (suc (length earlier)) (count + asked answers))
        at_nothing right = s (fails (suc (length earlier)) (count + asked answers)) (inr (inr (k, answers, right, refl)))

    -- at the end
    pub at_end : Stands m [] so_far count → Checks m (accepted so_far (report m.inputs so_far count))
    at_end s = s (accepted so_far (report m.inputs so_far count)) refl
