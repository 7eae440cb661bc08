use Rattle.calculus_specs.proofs.Reading.{keeps_state}
use Rattle.calculus_specs.proofs.facts.reading_keeps_what_facts_say.Goals as goal

pub returns : goal.returns
returns g c = keeps_state _ _
