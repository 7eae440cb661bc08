use Rattle.std.proofs.Common.{take}
use Rattle.module_extract.specs.Growth.{HasLooked}
use Rattle.module_extract.proofs.growth.Growth.look_at_all.Given as goal

abbrev pub invariant-loop-place : goal.invariant-loop-place
invariant-loop-place l = HasLooked l.axioms l.initial.self l.self (take l.place-index l.places)
