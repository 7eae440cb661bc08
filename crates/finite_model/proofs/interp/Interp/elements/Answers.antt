use Rattle.std.proofs.Common.{◌≡◌, ◌+◌, ap, map, rules, ◌∙◌}
use Rattle.std.specs.List.{filter}
use Rattle.std.specs.declared.ops.Bound.TheVariants.{Included, Excluded}
use Rattle.std.specs.BTreeMap.Range.{range_contains}
use Rattle.finite_model.specs.ModelLists.{member_cmp}
use Rattle.finite_model.proofs.Ranges.{members_between}
use Rattle.finite_model.proofs.interp.Interp.elements.Goals as goal

pub returns : goal.returns
returns c =
    let a = c.args.class in
    let between : c.in_ok-collect.field-0.items
    ≡ map (λ m. m.1)
    (filter (range_contains member_cmp (Included (a, 0)) (Excluded (a + 1, 0))) c.args.self.now.members) =
    search rules in
    between ∙ ap (map (λ m. m.1)) (members_between a c.args.self.now.members)
