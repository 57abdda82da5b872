-- The table of seen literals.
use Rattle.std.proofs.Common.{◌≡◌, ℕ, zero, suc, Bool, false, ◌||◌, List, ◌∷◌, get_or, replicate, refl, ap, ◌∙◌}
use Rattle.std.proofs.lemmas.Bool.{cond_both}
use Rattle.cnf.specs.declared.literals.Literal.{Literal}
use Rattle.cnf.specs.Clauses.{Clause}
use Rattle.drup.specs.Backward.{holds}
use Rattle.trial.specs.declared.seen.Signs.{Signs}
use Rattle.trial.specs.declared.seen.Seen.{Seen}
use Rattle.trial.specs.Seeing.{no_signs, has_sign, sees, SeesJust}

none_seen : (n k : ℕ) → get_or (replicate n no_signs) k no_signs ≡ no_signs
none_seen zero k = refl
none_seen (suc n) zero = refl
none_seen (suc n) (suc k) = none_seen n k

-- an empty table
pub nothing_seen : (n : ℕ) (l : Literal) → has_sign (get_or (replicate n no_signs) l.variable no_signs) l ≡ false
nothing_seen n l = ap (λ (signs : Signs). has_sign signs l) (none_seen n l.variable) ∙ cond_both l.negated false false (λ (b : Bool). b ≡ false) (λ e. refl) (λ e. refl)

-- one clause more
pub seen_more : (c t : Clause) (clauses : List Clause) (s s' : Seen) → c ≡ t → SeesJust s clauses
    → ((l : Literal) → sees s' l ≡ (holds l c || sees s l)) → SeesJust s' (t ∷ clauses)
seen_more c t clauses s s' e just more l =
    more l ∙ ap (λ (x : Clause). holds l x || sees s l) e ∙ ap (λ (b : Bool). holds l t || b) (just l)
