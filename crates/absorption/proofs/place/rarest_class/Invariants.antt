use Rattle.std.proofs.Common.{◌≡◌, true}
use Rattle.absorption.specs.Places.{names_class}
use Rattle.absorption.proofs.place.rarest_class.Given as goal

abbrev pub invariant-loop-name : goal.invariant-loop-name
invariant-loop-name l = names_class l.concepts l.names l.rarest ≡ true
