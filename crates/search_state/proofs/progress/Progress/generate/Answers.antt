use Rattle.search_state.proofs.NewFacts.{new_lookable}
use Rattle.search_state.proofs.progress.Progress.generate.Goals as goal

pub look_at_new_nodes-requires-clause-lookable : goal.look_at_new_nodes-requires-clause-lookable
look_at_new_nodes-requires-clause-lookable g c =
    new_lookable (g.R.Rules.context c.args.rules.now) c.put_new_nodes.new.self c.in_ok-first.ensures.moved.standing
    c.args.new.now c.in_ok-first.first c.in_ok-first.ensures.last
