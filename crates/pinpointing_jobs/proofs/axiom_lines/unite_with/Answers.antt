use Rattle.std.proofs.Common.{◌∙◌, refl}
use Rattle.pinpointing_jobs.proofs.Union.{none_more, one_more}
use Rattle.pinpointing_jobs.proofs.axiom_lines.unite_with.Goals as goal

pub loop-set-init : goal.loop-set-init
loop-set-init c = record { limit = refl; members = none_more c.args.union.now.members }

pub loop-set-preserved : goal.loop-set-preserved
loop-set-preserved c = record {
  limit = c.put_all.ensures.limit ∙ c.loop-set.invariant.limit;
  members =
      one_more c.args.sets.now c.loop-set.set-index c.set-item.result c.args.union.now.members c.loop-set.union.members
      c.put_all.new.self.members c.loop-set-test.true c.set-item.is c.put_all.ensures.members
      c.loop-set.invariant.members;
}
