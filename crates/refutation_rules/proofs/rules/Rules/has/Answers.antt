use Rattle.std.proofs.Common.{◌∙◌, sym}
use Rattle.calculus_specs.proofs.Reading.{has-read}
use Rattle.refutation_rules.proofs.rules.Rules.has.Goals as goal

pub returns : goal.returns
returns c =
    c.has.ensures
    ∙ sym (has-read c.args.self.now.table c.len-count.ensures.table c.args.branch.now.facts c.requires.branch.listed
    c.args.node c.args.number c.requires.listed)
