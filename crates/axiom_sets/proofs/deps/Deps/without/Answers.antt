use Rattle.std.proofs.Common.{sym, ◌∙◌}
use Rattle.std.specs.FinSet as set
use Rattle.axiom_sets.proofs.DependencyListed.{if_ok_same, remove_other}
use Rattle.axiom_sets.proofs.deps.Deps.without.Goals as goal

pub returns-else-has : goal.returns-else-has
returns-else-has c =
    let here = c.args.self.now in
    if_ok_same c.try_clone.result here (set.remove here c.args.mark)
    (remove_other here c.args.mark (sym c.has.ensures ∙ c.if-has.false)) c.try_clone.ensures
