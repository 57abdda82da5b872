-- What a call enters, and what withdraw takes back.
use Rattle.std.proofs.Common.{◌≡◌, false, ap, arith}
use Rattle.cnf.specs.Arranging.{arranged, beyond, twice}
use Rattle.cnf.proofs.Arranging.{arranged_clause, arranged_has, arranged_in}
use Rattle.drup.specs.Forward.{Machine, clause, lemma, rules, strike, told, withdraw}
use Rattle.drup.specs.Laws.{ClauseFrom, EntryLaw, WithdrawLaw}
use Rattle.drup.proofs.WellFormed.{taken, unbroken}

pub entry_law : EntryLaw
entry_law m ls = (
  λ e.
      let (b, (t, u)) = unbroken (rules m (clause ls)) (omega arith) e in
      (arranged ls, from b t, taken m (clause ls) e),
  λ e.
      let (b, (t, u)) = unbroken (rules m (lemma ls)) (omega arith) e in
      (arranged ls, from b t, taken m (lemma ls) e),
)
  where
    from : beyond m.variables ls ≡ false → twice ls ≡ false → ClauseFrom m ls (arranged ls)
    from b t = (arranged_clause m.variables ls b t, (arranged_in ls, arranged_has ls))

pub withdraw_law : WithdrawLaw
withdraw_law m ls = (
  λ e. ap (λ (x : Machine). told x withdraw) (taken m (lemma ls) e),
  λ e. ap (λ (x : Machine). told x withdraw) (taken m (strike ls) e),
)
