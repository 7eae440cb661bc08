use Rattle.std.proofs.Common.{◌≡◌, ap, ◌∙◌, subst}
use Rattle.std.specs.Prelude.{slice_get}
use Rattle.std.specs.List.{filter}
use Rattle.std.specs.List.Sorted.{IsStrictlySortedBy}
use Rattle.std.specs.declared.ops.Bound.TheVariants.{Included}
use Rattle.std.specs.BTreeMap.Range.{range_contains}
use Rattle.std.specs.Range.{range_inclusive_start, range_inclusive_end}
use Rattle.finite_model.specs.ModelLists.{ModelLists, tuple_cmp}
use Rattle.finite_model.proofs.Nexts.{first_of_range}
use Rattle.finite_model.proofs.interp.Interp.first_link.Goals as goal

pub returns-clause-first : goal.returns-clause-first
returns-clause-first c =
    let low = c.args.low in
    let high = c.args.high in
    let first =
    first_of_range c.range-links.result c.next.result c.next.new.self c.copied.result c.next.ensures.steps
    c.copied.ensures in
    let keys = c.self.inside.links.keys in
    let range = c.new.result in
    let between : c.range-links.result
    ≡ filter (range_contains tuple_cmp (Included (range_inclusive_start range)) (Included (range_inclusive_end range)))
    keys = c.range-links.ensures.between c.new.ensures.exhausted in
    let bounds :
    filter (range_contains tuple_cmp (Included (range_inclusive_start range)) (Included (range_inclusive_end range)))
    keys
    ≡ filter (range_contains tuple_cmp (Included low) (Included high)) keys =
    ap (λ b. filter (range_contains tuple_cmp (Included b) (Included (range_inclusive_end range))) keys)
    c.new.ensures.start
    ∙ ap (λ b. filter (range_contains tuple_cmp (Included low) (Included b)) keys) c.new.ensures.end in
    first ∙ ap (λ l. slice_get l 0)
    (between ∙ bounds
    ∙ ap (λ (k : ModelLists). filter (range_contains tuple_cmp (Included low) (Included high)) k.links) c.self.view_is)

pub returns-clause-ordered : goal.returns-clause-ordered
returns-clause-ordered c =
    subst (λ (k : ModelLists). IsStrictlySortedBy tuple_cmp k.links) c.self.view_is c.range-links.ensures.ordered
