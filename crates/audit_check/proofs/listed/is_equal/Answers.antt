use Rattle.std.proofs.Common.{sym, ◌∙◌}
use Rattle.axiom_sets.specs.Compared.{limited_decides}
use Rattle.audit_check.proofs.listed.is_equal.Goals as goal

pub returns : goal.returns
returns c =
    let decides = limited_decides c.args.one.now c.args.other.now in
    (λ h. decides.0 (sym c.eq.ensures ∙ h), λ e. c.eq.ensures ∙ decides.1 e)
