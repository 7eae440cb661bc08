use Rattle.std.proofs.Common.{◌∙◌, sym}
use Rattle.model_builder.proofs.NoChains.{ends_inside}
use Rattle.model_builder.proofs.Ends.{no_chains}
use Rattle.model_builder.proofs.chains.put_chains_by.Goals as goal

pub returns-then-not-has_chains : goal.returns-then-not-has_chains
returns-then-not-has_chains c =
    no_chains c.args.model.now c.args.model.now.size c.args.role_count c.args.roles.now c.args.edges.now c.args.role
    (sym c.has_chains.ensures ∙ c.if-not-has_chains.true)

pub put_reached-requires-clause-inside : goal.put_reached-requires-clause-inside
put_reached-requires-clause-inside c =
    rw c.deref.ensures.value
    (ends_inside _ _ _ _ _ c.requires.ends (c.in_ok-next.ensures.long ∙ c.size.ensures.size) c.in_ok-next.ensures.ends)
