use Rattle.std.proofs.Common.{◌≡◌, ap, ◌∙◌}
use Rattle.std.specs.Prelude.{IfOk}
use Rattle.ofn_tree.specs.Items.{items_of}
use Rattle.ofn_reader.specs.Queries.{MeansGroupQuery}
use Rattle.ofn_reader.specs.declared.keywords.AxiomKeyword.TheVariants as W
use Rattle.ofn_reader.specs.declared.keywords.AxiomKind.TheVariants as K
use Rattle.ofn_reader.proofs.Few.{two_asked}
use Rattle.ofn_reader.proofs.queries.read_query_group.Goals as goal

pub returns-else-items-ne2-2-clause-value : goal.returns-else-items-ne2-2-clause-value
returns-else-items-ne2-2-clause-value c =
    let numbered : c.args.keyword ≡ W.Numbered c.in-Numbered-Member.field-0 = c.in-Numbered-Member.is in
    let kind : c.in-Numbered-Member.field-0 ≡ K.Member =
    rw c.in-Numbered-Member.is at c.in-Numbered-Member.field-0-is in
    two_asked
    (λ k is. IfOk c.read_member_query.result
    (MeansGroupQuery c.args.prefixes.now c.read_member_query.new.state.counts k (items_of is)))
    c.args.keyword (W.Numbered K.Member) c.args.items.now c.index-items-0-in-Numbered-Member.result
    c.index-items-1-in-Numbered-Member.result
    (numbered ∙ ap W.Numbered kind) c.index-items-0-in-Numbered-Member.is c.index-items-1-in-Numbered-Member.is
    c.if-items-ne2-2.false c.read_member_query.ensures.value
