use Rattle.std.proofs.Common.{◌≡◌, take}
use Rattle.module_extract.specs.Growth.{HasTaken}
use Rattle.module_extract.proofs.growth.Growth.take_all.Given as goal

abbrev pub invariant-loop-name : goal.invariant-loop-name
invariant-loop-name l = HasTaken l.initial.self.marks l.self.marks l.initial.self.pending.items l.self.pending.items
    (take l.name-index l.names)
    × (l.self.members ≡ l.initial.self.members)
