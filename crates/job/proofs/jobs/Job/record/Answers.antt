use Rattle.std.proofs.Common.{◌-◌, Option, Some, None, refl, arith}
use Rattle.std.specs.Option.{IsSome, MatchOption}
use Rattle.job.proofs.jobs.Job.record.Goals as goal

there : {A : Type 0} (o : Option A) (P : Type 0) (Q : A → Type 0) → (P → ⊥) → MatchOption o P Q → IsSome o
there (Some x) P Q f m = refl
there None P Q f m = absurd (f m)

pub unwrap-requires : goal.unwrap-requires
unwrap-requires c =
    there _ _ _ (λ disordered.
    let (step, is, late) = disordered in
    let later = c.args.self.now.ordered (c.args.n - 1) (omega (arith, c.requires.0, c.requires.1)) step is in
    omega arith)
    c.of.ensures
