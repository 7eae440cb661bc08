use Rattle.std.proofs.Common.{◌+◌, ◌&&◌, sym, ap, ◌∙◌}
use Rattle.ofn_tree.specs.Items.{begins_with_open}
use Rattle.ofn_tree.specs.Parsed.{begins_with_head}
use Rattle.ofn_tree.specs.Token.{tokens_from}
use Rattle.ofn_tree.proofs.Trees.{tokens-at, no_token}
use Rattle.ofn_tree.proofs.parser.heads_group_at.Goals as goal

pub returns-then-is_name : goal.returns-then-is_name
returns-then-is_name c =
    c.opens_at.ensures
    ∙ sym (ap begins_with_head (tokens-at c.args.tokens.now c.args.place no_token c.requires)
    ∙ ap (λ v. v && begins_with_open (tokens_from c.args.tokens.now (c.args.place + 1)))
    (sym c.is_name.ensures ∙ c.if-is_name.true))

pub returns-else-is_name : goal.returns-else-is_name
returns-else-is_name c =
    c.if-is_name.false
    ∙ sym (ap begins_with_head (tokens-at c.args.tokens.now c.args.place no_token c.requires)
    ∙ ap (λ v. v && begins_with_open (tokens_from c.args.tokens.now (c.args.place + 1)))
    (sym c.is_name.ensures ∙ c.if-is_name.false))
