use Rattle.std.proofs.Common.{◌≡◌, ◌+◌, rules, ◌∙◌}
use Rattle.std.specs.List.{filter}
use Rattle.std.specs.declared.ops.Bound.TheVariants.{Included, Excluded}
use Rattle.std.specs.BTreeMap.Range.{range_contains}
use Rattle.finite_model.specs.ModelLists.{link_cmp}
use Rattle.finite_model.proofs.Ranges.{links_between}
use Rattle.finite_model.proofs.interp.Interp.pairs.Goals as goal

pub returns : goal.returns
returns c =
    let r = c.args.role in
    let between : c.in_ok-collect.field-0.items
    ≡ filter (range_contains link_cmp (Included (r, 0, 0)) (Excluded (r + 1, 0, 0))) c.args.self.now.links =
    search rules in
    between ∙ links_between r c.args.self.now.links
