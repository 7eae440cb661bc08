use Rattle.std.proofs.Common.{◌+◌, ◌||◌, ◌&&◌, ◌∙◌, Bool, eqb, ap, sym}
use Rattle.std.specs.FinSet as set
use Rattle.lane_sieve.specs.Sets.{NumberSet}
use Rattle.subsumption.specs.ClassSets.{has_class}
use Rattle.subsumption.proofs.Members.{put_in}
use Rattle.subsumption.proofs.class_sets.put_if.Goals as goal

pub returns-then-passes-clause-members : goal.returns-then-passes-clause-members
returns-then-passes-clause-members c = λ x.
    ap (λ (m : NumberSet). set.contains m (x + 1)) c.put.ensures.members
    ∙ put_in c.args.set.now.members c.args.class x
    ∙ ap (λ (b : Bool). has_class c.args.set.now x || (eqb x c.args.class && b)) (sym c.if-passes.true)
