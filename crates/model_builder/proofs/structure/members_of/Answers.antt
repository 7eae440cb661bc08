use Rattle.blocking.specs.Trail.{facts_in}
use Rattle.model_builder.proofs.Members.{members_more}
use Rattle.model_builder.proofs.structure.members_of.Goals as goal

pub loop-element-preserved : goal.loop-element-preserved
loop-element-preserved g c =
    members_more c.args.concepts.now (facts_in c.args.tree.now.entries) c.args.originals.now c.loop-element.element
    c.loop-element.members.items c.put_members.new.members.items c.label-label.result.now
    c.loop-element.invariant c.label-label.ensures.held c.in_ok-put_members.ensures
