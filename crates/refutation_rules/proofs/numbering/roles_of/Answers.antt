use Rattle.std.proofs.Common.{◌∙◌}
use Rattle.refutation_rules.proofs.Renumbered.{members_within}
use Rattle.refutation_rules.proofs.numbering.roles_of.Goals as goal

pub build-requires : goal.build-requires
build-requires c =
    members_within c.args.named.now _ c.deref.result.now (c.deref.ensures.value ∙ c.in_ok-numbers.ensures) c.requires
