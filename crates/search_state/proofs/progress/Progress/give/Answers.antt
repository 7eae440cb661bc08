use Rattle.search_state.proofs.LastFact.{lookable}
use Rattle.search_state.proofs.progress.Progress.give.Goals as goal

pub look-requires-clause-lookable : goal.look-requires-clause-lookable
look-requires-clause-lookable g c =
    lookable (g.R.Rules.context c.args.rules.now) c.put_given.new.self c.in_ok-put_given.ensures.moved.standing
    c.args.given.now.fact c.in_ok-put_given.ensures.last
