use Rattle.std.proofs.Common.{◌∙◌, sym}
use Rattle.subsumption.specs.Rows.{holds}
use Rattle.subsumption.proofs.Grouped.{first_where_none}
use Rattle.subsumption.proofs.grouping.is_first.Goals as goal

pub returns : goal.returns
returns c =
    first_where_none c.args.relation.now.count (holds c.args.relation.now) c.args.class c.has_none_before.result
    c.in_ok-equal.equal c.requires.class
    (sym (c.requires.between.inside c.args.class c.requires.class) ∙ sym c.has.ensures ∙ c.if-not-has.false)
    c.in_ok-equal.ensures c.has_none_before.ensures
