use Rattle.std.proofs.Common.{None, subst, sym}
use Rattle.step_agenda.specs.Trail.{facts_in}
use Rattle.search_state.specs.Progress.{ProgressLists, IsClashOf}
use Rattle.search_state.proofs.progress.Progress.go_on_elsewhere.Goals as goal

pub make-requires-clause-none : goal.make-requires-clause-none
make-requires-clause-none g c =
    subst (λ (s : ProgressLists). IsClashOf (g.R.Rules.context c.args.rules.now) (facts_in s.entries) None)
    (sym c.latest_elsewhere.ensures.same) c.requires.none

pub go_on_elsewhere_with_blocks-requires-clause-none : goal.go_on_elsewhere_with_blocks-requires-clause-none
go_on_elsewhere_with_blocks-requires-clause-none g c =
    subst (λ (s : ProgressLists). IsClashOf (g.R.Rules.context c.args.rules.now) (facts_in s.entries) None)
    (sym c.latest_elsewhere.ensures.same) c.requires.none
