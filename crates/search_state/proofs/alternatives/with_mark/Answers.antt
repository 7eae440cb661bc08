use Rattle.std.proofs.Common.{ap, ◌∙◌}
use Rattle.std.specs.FinSet as sets
use Rattle.lane_sieve.specs.Sets.{NumberSet}
use Rattle.search_trace.proofs.Marks.{union_one}
use Rattle.search_state.proofs.alternatives.with_mark.Goals as goal

pub returns : goal.returns
returns c =
    c.in_ok-all.ensures ∙ ap (λ (v : NumberSet). sets.union c.args.marks.now v) c.in_ok-own.ensures
    ∙ union_one c.args.marks.now c.args.mark
