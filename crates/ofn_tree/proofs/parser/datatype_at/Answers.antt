use Rattle.std.proofs.Common.{sym, ◌∙◌}
use Rattle.ofn_tree.proofs.Trees.{datatype-at, no_token}
use Rattle.ofn_tree.proofs.parser.datatype_at.Goals as goal

pub returns-then-place-tokens-clause-datatype : goal.returns-then-place-tokens-clause-datatype
returns-then-place-tokens-clause-datatype c =
    c.is_datatype.ensures ∙ sym (datatype-at c.args.tokens.now c.args.place no_token c.if-place-tokens.true)
