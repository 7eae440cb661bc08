use Rattle.std.proofs.Common.{take}
use Rattle.model_builder.specs.Structure.{is_member_of}
use Rattle.model_builder.specs.Gains.{HasMembers}
use Rattle.model_builder.proofs.structure_model.put_members.Given as goal

abbrev pub invariant-loop-member : goal.invariant-loop-member
invariant-loop-member l = HasMembers l.initial.model l.model (is_member_of (take l.member-index l.members))
