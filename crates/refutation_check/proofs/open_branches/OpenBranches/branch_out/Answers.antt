use Rattle.calculus_specs.specs.declared.facts.Fact.TheVariants.{Has}
use Rattle.refutation_check.proofs.Grown.{put_step}
use Rattle.refutation_check.proofs.open_branches.OpenBranches.branch_out.Goals as goal

pub loop-place-preserved : goal.loop-place-preserved
loop-place-preserved c =
    put_step c.loop-place.self c.put_pending.new.self c.args.self.now c.args.facts.now c.loop-place.place (Has 0 0)
    c.loop-place-test.true c.in_ok-put_pending.ensures c.loop-place.invariant
