use Rattle.std.proofs.Common.{take}
use Rattle.search_rules.proofs.Carrying.{CarriesTo}
use Rattle.search_rules.proofs.carries.carried.Given as goal

abbrev pub invariant-loop-lower : goal.invariant-loop-lower
invariant-loop-lower l = CarriesTo l.concepts l.roles l.role l.filler (take l.lower-index l.transitive) l.pairs
