use Rattle.std.proofs.Common.{◌≡◌}
use Rattle.module_extract.specs.Growth.{StaysGrowing, AllSettled, room}
use Rattle.module_extract.proofs.growth.Growth.close.Given as goal

abbrev pub invariant-loop-name : goal.invariant-loop-name
invariant-loop-name l = record {
  growing : StaysGrowing l.axioms l.initial.self l.self;
  limit : l.self.members.limit ≡ l.initial.self.members.limit;
  settled : AllSettled l.axioms l.self;
}

abbrev pub decreases-loop-name : goal.decreases-loop-name
decreases-loop-name l = room l.self
