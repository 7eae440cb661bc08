use Rattle.search_laws.proofs.SaysNothing.{runs_say_nothing_there}
use Rattle.search_laws.proofs.beginning_laws.runs_say_nothing_there.Goals as goal

pub returns : goal.returns
returns c = runs_say_nothing_there
