use Rattle.std.proofs.Common.{◌≡◌}
use Rattle.module_extract.specs.Growth.{StaysGrowing, FirstSettled}
use Rattle.module_extract.proofs.growth.Growth.look_at_each.Given as goal

abbrev pub invariant-loop-place : goal.invariant-loop-place
invariant-loop-place l = record {
  growing : StaysGrowing l.axioms l.initial.self l.self;
  limit : l.self.members.limit ≡ l.initial.self.members.limit;
  settled : FirstSettled l.axioms l.place l.self;
}
