use Rattle.search_state.proofs.LastFact.{lookable}
use Rattle.search_state.proofs.progress.Progress.retry.Goals as goal

pub look-requires-clause-lookable : goal.look-requires-clause-lookable
look-requires-clause-lookable g c =
    lookable (g.R.Rules.context c.args.rules.now) c.turn.new.self c.in_ok-fact.ensures.moved.standing c.in_ok-fact.fact
    c.in_ok-fact.ensures.last
