use Rattle.std.proofs.Common.{refl, ◌∙◌}
use Rattle.engine.specs.Meaning.{values_of}
use Rattle.engine.specs.Looks.{forced}
use Rattle.scanning.specs.Seen.{scan_meaning}
use Rattle.scanning.proofs.Reading.{forces_at, forces_none}
use Rattle.scanning.proofs.Scanning.forced_at.Goals as goal

pub returns-in_err-literal : goal.returns-in_err-literal
returns-in_err-literal c =
    rw c.from_residual-in_err-literal.ensures
    (forces_none (scan_meaning c.args.self.now) c.args.number (c.in_err-literal.ensures ∙ (λ i. forced (values_of (c.entries.ensures i)) (c.in_ok-text.ensures.1 i))))

pub returns : goal.returns
returns c =
    (refl, forces_at (scan_meaning c.args.self.now) c.args.number c.in_ok-literal.literal c.in_ok-text.ensures.0 (c.in_ok-literal.ensures ∙ (λ i. forced (values_of (c.entries.ensures i)) (c.in_ok-text.ensures.1 i))))
