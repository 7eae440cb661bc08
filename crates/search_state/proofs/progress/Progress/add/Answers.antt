use Rattle.calculus_specs.specs.declared.facts.Fact.TheVariants.{Has}
use Rattle.search_state.proofs.LastFact.{lookable}
use Rattle.search_state.proofs.progress.Progress.add.Goals as goal

pub look-requires-clause-lookable : goal.look-requires-clause-lookable
look-requires-clause-lookable g c =
    lookable (g.R.Rules.context c.args.rules.now) c.put_addition.new.self c.in_ok-put_addition.ensures.moved.standing
    (Has c.args.addition.now.node c.args.addition.now.concept) c.in_ok-put_addition.ensures.last
