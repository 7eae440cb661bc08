use Rattle.std.proofs.Common.{◌≡◌, ◌+◌, ◌-◌, ◌<◌, length, ap, ◌∙◌, subst, arith}
use Rattle.calculus_specs.specs.Rows.{Part}
use Rattle.shq_nnf.specs.Counts.{has_counts_within}
use Rattle.shq_nnf.specs.Parts.{StandsForPart, union_parts, part_in}
use Rattle.shq_nnf.proofs.Bounded.{counts_at}
use Rattle.shq_nnf.proofs.Pairs.{union_at}
use Rattle.shq_nnf.proofs.concepts.Concepts.union_part.Goals as goal

pub inclusion_part-requires-clause-left_counts : goal.inclusion_part-requires-clause-left_counts
inclusion_part-requires-clause-left_counts c =
    let lt : c.args.place - 1 < length c.args.classes.now = omega (arith, c.if-place-classes.false) in
    ap (has_counts_within 100) c.index-classes-place.is
    ∙ counts_at 100 c.args.classes.now (c.args.place - 1) c.index-classes-place.result lt c.requires.counts

pub returns-clause-part : goal.returns-clause-part
returns-clause-part c =
    let lt : c.args.place - 1 < length c.args.classes.now = omega (arith, c.if-place-classes.false) in
    let there : c.args.place - 1 + 1 ≡ c.args.place = omega (arith, c.if-place-eq0.false) in
    subst (λ (q : Part). StandsForPart c.inclusion_part.new.self c.in_ok-part.part q)
    (union_at c.args.class.now c.args.classes.now (c.args.place - 1) c.index-classes-place.result lt
    c.index-classes-place.is
    ∙ ap (part_in (union_parts c.args.class.now c.args.classes.now)) there)
    c.in_ok-part.ensures.part
