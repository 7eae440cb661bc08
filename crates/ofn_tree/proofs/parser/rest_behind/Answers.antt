use Rattle.std.proofs.Common.{true, false, sym, ◌∙◌}
use Rattle.ofn_tree.proofs.Trees.{rest-at, no_token}
use Rattle.ofn_tree.proofs.parser.rest_behind.Goals as goal

pub returns-then-is_string-clause-rest : goal.returns-then-is_string-clause-rest
returns-then-is_string-clause-rest c =
    c.literal_rest.ensures.rest
    ∙ sym
    (rest-at c.args.tokens.now c.args.place no_token true c.requires (sym c.is_string.ensures ∙ c.if-is_string.true))

pub returns-else-is_string-clause-rest : goal.returns-else-is_string-clause-rest
returns-else-is_string-clause-rest c =
    sym
    (rest-at c.args.tokens.now c.args.place no_token false c.requires (sym c.is_string.ensures ∙ c.if-is_string.false))
