use Rattle.std.proofs.Common.{sym, ap, ◌∙◌}
use Rattle.ofn_tree.specs.Items.{begins_with_open}
use Rattle.ofn_tree.proofs.Trees.{tokens-at, no_token}
use Rattle.ofn_tree.proofs.parser.opens_at.Goals as goal

pub returns-then-place-tokens : goal.returns-then-place-tokens
returns-then-place-tokens c =
    c.is_open.ensures
    ∙ ap begins_with_open (sym (tokens-at c.args.tokens.now c.args.place no_token c.if-place-tokens.true))
