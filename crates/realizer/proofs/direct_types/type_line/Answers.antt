use Rattle.std.proofs.Common.{ℕ, List, ◌∙◌, ap}
use Rattle.subsumption.specs.Rows.{holds}
use Rattle.subsumption.specs.ClassSets.{has_class}
use Rattle.subsumption.proofs.Grouped.{lowest_by}
use Rattle.realizer.specs.TypeLists.{TypeLists}
use Rattle.realizer.specs.Realization.{is_type, direct_types}
use Rattle.realizer.proofs.direct_types.type_line.Goals as goal

pub returns : goal.returns
unfolding direct_types
returns c =
    let rows = c.args.relation.now in
    let line_of : List ℕ → TypeLists = λ types. record { individual = c.args.individual; types = types } in
    c.new.ensures
    ∙ ap line_of
    (c.in_ok-types.ensures
    ∙ lowest_by rows.count (holds rows) (is_type rows.count (holds rows) (has_class c.args.row.now))
    c.in_ok-groups.groups c.in_ok-groups.ensures)
