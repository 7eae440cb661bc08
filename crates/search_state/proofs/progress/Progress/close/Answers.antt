use Rattle.search_state.proofs.Nexts.{shown_is_clash}
use Rattle.search_state.proofs.progress.Progress.close.Goals as goal

pub close_child-requires-clause-clash : goal.close_child-requires-clause-clash
close_child-requires-clause-clash g c =
    shown_is_clash (g.R.Rules.context c.args.rules.now) c.args.self.now.entries c.args.clash.now c.requires.shown
