use Rattle.std.proofs.Common.{sym, subst}
use Rattle.refutation_tree.specs.RuleLine.{line_of}
use Rattle.refutation_tree.specs.declared.line.Line.{Line}
use Rattle.refutation_rules.specs.RefutationContext.{IsOutcome}
use Rattle.refutation_rules.proofs.rules.Rules.left_by.Goals as goal

pub returns-in-Differ-clause-outcome : goal.returns-in-Differ-clause-outcome
returns-in-Differ-clause-outcome c =
    subst (λ (l : Line). IsOutcome c.args.self.now c.args.branch.now (line_of l) c.differ.result) (sym c.in-Differ.is)
    c.differ.ensures
