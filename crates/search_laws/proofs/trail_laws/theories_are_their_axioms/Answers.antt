use Rattle.search_laws.proofs.TrailLaws.{theories_are_their_axioms}
use Rattle.search_laws.proofs.trail_laws.theories_are_their_axioms.Goals as goal

pub returns : goal.returns
returns c = theories_are_their_axioms
