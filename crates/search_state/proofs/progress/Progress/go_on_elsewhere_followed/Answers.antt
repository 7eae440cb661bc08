use Rattle.std.proofs.Common.{◌∙◌, None, subst, sym}
use Rattle.step_agenda.specs.Trail.{facts_in}
use Rattle.search_state.specs.Progress.{ProgressLists, IsClashOf}
use Rattle.search_state.proofs.Idle.{is_idle}
use Rattle.search_state.proofs.progress.Progress.go_on_elsewhere_followed.Goals as goal

pub make-requires-clause-none : goal.make-requires-clause-none
make-requires-clause-none g c =
    subst (λ (s : ProgressLists). IsClashOf (g.R.Rules.context c.args.rules.now) (facts_in s.entries) None)
    (sym c.latest_with_blocks.ensures.same) c.requires.none

pub returns-in-None : goal.returns-in-None
returns-in-None g c =
    is_idle (g.R.Rules.context c.args.rules.now) c.args.self.now c.take_node_in.new.self
    (c.take_node_in.ensures ∙ c.latest_with_blocks.ensures.same) c.requires.searching c.requires.current c.requires.none
