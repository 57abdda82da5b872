use Rattle.std.proofs.Common.{sym, refl, ◌∙◌, true≢false, rules, tests}
use Rattle.std.proofs.lemmas.Bool.Decides.{same_from_decides}
use Rattle.std.proofs.lemmas.Iterator.{YieldsList-from_slice, YieldsList-from_zip, same_from_all}
use Rattle.cnf.proofs.Complements.{same_literal_decides}
use Rattle.drup.proofs.Striking.{same_clause_decides}
use Rattle.job.proofs.jobs.looking.same_clause.Goals as goal

pub returns-then-a-b : goal.returns-then-a-b
returns-then-a-b c =
    let a = c.args.a.now in
    let b = c.args.b.now in
    same_from_decides _ _
    (same_from_all c.all.new.self _ _ a b c.all.ensures.ran (YieldsList-from_zip (YieldsList-from_slice a (search rules)) (YieldsList-from_slice b (search rules))) (search rules)
    (λ x q k. (refl, (same_literal_decides x.0.now x.1.now).0 (search (rules, tests))))
    (λ x q k e. true≢false (sym ((same_literal_decides x.0.now x.1.now).1 e) ∙ search (rules, tests))))
    (same_clause_decides a b)
