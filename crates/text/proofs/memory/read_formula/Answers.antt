use Rattle.std.proofs.Common.{◌≡◌, List, [], ◌∷◌, ◌++◌, map, Ok, Err, vec_items, refl, append_assoc, arith}
use Rattle.std.proofs.lemmas.Grind.{common_steps}
use Rattle.std.proofs.lemmas.List.{map_push}
use Rattle.std.specs.Result.{result_unwrap_or}
use Rattle.cnf.specs.Clauses.{Clause}
use Rattle.cnf.specs.Drafts.{outcome}
use Rattle.text.specs.Formulas.{Read, with_clause, reads, formula_of}
use Rattle.text.specs.Readers.{state_of, words_left, extent_of}
use Rattle.text.specs.Memory.{with_clauses}
use Rattle.text.proofs.memory.read_formula.Goals as goal

-- one clause more goes ahead of the others
with_more : (cs : List Clause) (c : Clause) (r : Read) → with_clauses (cs ++ c ∷ []) r ≡ with_clauses cs (with_clause c r)
with_more cs c (Ok f) = simp append_assoc
with_more cs c (Err fault) = refl

pub loop-clauses-preserved : goal.loop-clauses-preserved
loop-clauses-preserved c =
    let now = c.step.new.self in
    let cs = map vec_items (vec_items c.loop-clauses.clauses) in
    let d = result_unwrap_or (outcome now.draft) [] in
    let on = reads (extent_of now) (state_of now) (words_left now) in
    let more : map vec_items (vec_items c.push.new.self) ≡ cs ++ d ∷ [] = grind (arith, common_steps, map_push) in
    let read : with_clauses cs (with_clause d on) ≡ formula_of c.args.text.now = grind (arith, common_steps) in
    rw (more, with_more) read
