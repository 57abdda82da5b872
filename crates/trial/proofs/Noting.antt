-- The answers that are noted.
use Rattle.std.proofs.Common.{◌≡◌, ℕ, ◌-◌, ◌<◌, ◌≤◌, [], ◌∷◌, ◌++◌, length, reverse, get_or, ap, ◌∙◌, subst, arith}
use Rattle.std.proofs.lemmas.List.{length-reverse, length-take, reverse-append, get_or-reverse}
use Rattle.cnf.specs.declared.literals.Forced.{Forced}
use Rattle.cnf.specs.Clauses.{◌∈◌}
use Rattle.drup.specs.Backward.{asked}
use Rattle.engine.specs.declared.trails.Trail.{Trail}
use Rattle.engine.specs.Trails.{entries_of}
use Rattle.engine.proofs.Keeping.{get_or_in}
use Rattle.trial.specs.Noted.{latest}

-- one answer more
pub latest_more : (a b : Trail) (x : Forced) → entries_of b ≡ entries_of a ++ x ∷ [] → latest b ≡ x ∷ latest a
latest_more a b x e = ap reverse e ∙ reverse-append (entries_of a) (x ∷ [])

pub latest_length : (a : Trail) → length (latest a) ≡ length (entries_of a)
latest_length a = length-reverse (entries_of a)

-- each is one of them
pub latest_has : (a : Trail) (i : ℕ) (d : Forced) → i < length (entries_of a) → get_or (entries_of a) i d ∈ latest a
latest_has a i d h =
    let xs = entries_of a in
    let long = length-reverse xs in
    let j = length xs - 1 - i in
    let back : length xs - 1 - j ≡ i = omega arith in
    subst (λ (x : Forced). x ∈ reverse xs) (get_or-reverse xs j d (omega arith) ∙ ap (λ (k : ℕ). get_or xs k d) back)
    (get_or_in (reverse xs) j d (omega arith))

-- a trial asks at most 513 times
pub asked_most : (a : Trail) → asked (latest a) ≤ 513
asked_most a = let e = latest_length a ∙ length-take a.len a.entries in let h = a.few in omega arith
