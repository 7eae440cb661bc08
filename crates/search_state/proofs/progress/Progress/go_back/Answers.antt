use Rattle.std.proofs.Common.{subst}
use Rattle.search_trace.specs.declared.opens.Back.{Back}
use Rattle.search_state.specs.Turning.{HasGoneBack}
use Rattle.search_state.proofs.Nexts.{closing_is_closed}
use Rattle.search_state.proofs.progress.Progress.go_back.Goals as goal

pub returns-in-Closed : goal.returns-in-Closed
returns-in-Closed g c =
    let w = g.R.Rules.context c.args.rules.now in
    closing_is_closed w c.args.self.now c.close.new.self c.in_ok-mark.ensures.same
    (subst (λ (b : Back). HasGoneBack w c.close.new.self b) c.in-Closed.is c.in_ok-mark.ensures.gone)
