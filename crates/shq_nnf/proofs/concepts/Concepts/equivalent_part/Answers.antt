use Rattle.std.proofs.Common.{ap, ◌∙◌, subst}
use Rattle.calculus_specs.specs.Rows.{Part}
use Rattle.shq_nnf.specs.Counts.{has_counts_within}
use Rattle.shq_nnf.specs.Parts.{StandsForPart}
use Rattle.shq_nnf.proofs.Bounded.{counts_at}
use Rattle.shq_nnf.proofs.Pairs.{equivalent_at}
use Rattle.shq_nnf.proofs.concepts.Concepts.equivalent_part.Goals as goal

pub inclusion_part-requires-clause-left_counts : goal.inclusion_part-requires-clause-left_counts
inclusion_part-requires-clause-left_counts c =
    ap (has_counts_within 100) c.index-classes-place.is
    ∙ counts_at 100 c.args.classes.now c.args.place c.index-classes-place.result c.requires.listed c.requires.counts

pub inclusion_part-requires-clause-right_counts : goal.inclusion_part-requires-clause-right_counts
inclusion_part-requires-clause-right_counts c =
    ap (has_counts_within 100) c.index-classes-next.is
    ∙ counts_at 100 c.args.classes.now c.next_place-next.result c.index-classes-next.result
    c.next_place-next.ensures.within c.requires.counts

pub returns-clause-part : goal.returns-clause-part
returns-clause-part c =
    subst (λ (q : Part). StandsForPart c.inclusion_part.new.self c.in_ok-part.part q)
    (equivalent_at c.args.classes.now c.args.place c.next_place-next.result c.index-classes-place.result
    c.index-classes-next.result c.requires.listed c.next_place-next.ensures.next c.next_place-next.ensures.first
    c.index-classes-place.is c.index-classes-next.is)
    c.in_ok-part.ensures.part
