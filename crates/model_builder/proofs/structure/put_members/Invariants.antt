use Rattle.std.proofs.Common.{◌≡◌, ◌++◌, drop}
use Rattle.model_builder.specs.Collected.{members_by}
use Rattle.model_builder.proofs.structure.put_members.Given as goal

-- what is put is what stands before this place
abbrev pub invariant-loop-concept : goal.invariant-loop-concept
invariant-loop-concept l =
    l.members.items ++ members_by l.concepts l.element (drop l.concept-index l.label)
    ≡ l.fn.members.items ++ members_by l.concepts l.element l.label
