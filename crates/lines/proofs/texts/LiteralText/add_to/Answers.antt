use Rattle.std.proofs.Common.{◌≡◌, ℕ, Bool, true, false, cond, List, [], ◌∷◌, ◌++◌, decimal, refl, ap}
use Rattle.lines.proofs.Additions.{adds_then, adds_as}
use Rattle.lines.proofs.texts.LiteralText.add_to.Goals as goal

-- a byte or nothing, and then more bytes
headed : (is_there : Bool) (b : ℕ) (bs : List ℕ) → cond is_there (b ∷ []) [] ++ bs ≡ cond is_there (b ∷ bs) bs
headed true b bs = refl
headed false b bs = refl

pub returns : goal.returns
returns c =
    let l = c.args.self.now in
    adds_as (headed l.negated 45 (decimal l.variable)) (adds_then c.add_if.ensures (adds_as (ap decimal c.from.ensures) c.add_to.ensures))
