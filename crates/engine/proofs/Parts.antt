-- What the parts that engines share say of what an engine stands for.
use Rattle.std.proofs.Common.{◌≡◌, true, List, [], ◌∷◌}
use mathlib.Core.List.Memᴰ
use Rattle.std.proofs.lemmas.Bool.{and_parts}
use Rattle.std.specs.List.{list_all}
use Rattle.cnf.specs.Clauses.{Clause, ◌∈◌, IsClause}
use Rattle.cnf.specs.Ascending.{ascending}
use Rattle.cnf.proofs.Arranging.{all_cons}
use Rattle.cnf.proofs.Rising.{ascending_clause}
use Rattle.cnf.proofs.Derivations.{forced_new}
use Rattle.engine.specs.declared.answers.Answer.{Answer}
use Rattle.engine.specs.declared.answers.Answer.TheVariants.{Conflict, Forced as ForcedBy, Nothing}
use Rattle.engine.specs.Meaning.{Meaning, highest, text_of, values, Says, WellFormed}
use Rattle.engine.specs.Trails.{AnswerJoins}
use Rattle.engine.proofs.Keeping.{forced_inside}

-- a literal that is forced can join the trail
pub answer_joins : (m : Meaning) → WellFormed m → (a : Answer) → Says m a → AnswerJoins a (values m)
answer_joins m well (Conflict n) s = tt
answer_joins m well (ForcedBy f) s =
    (forced_inside m well f.number f.literal s.0 s.1, forced_new (values m) (text_of m f.number) f.literal s.1)
answer_joins m well Nothing s = tt

-- texts with rising variables are clauses
pub rising_clauses : (texts : List Clause) → list_all (ascending 0 highest) texts ≡ true → (c : Clause) → c ∈ texts → IsClause highest c
rising_clauses [] e c m = absurd (Memᴰ.not-nil m)
rising_clauses (t ∷ texts) e c m =
    let p = and_parts (ascending 0 highest t) (list_all (ascending 0 highest) texts) e in
    all_cons (IsClause highest) (ascending_clause highest t p.0) (rising_clauses texts p.1) c m
