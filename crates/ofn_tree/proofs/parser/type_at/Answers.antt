use Rattle.std.proofs.Common.{true, false, sym, ◌∙◌}
use Rattle.ofn_tree.proofs.Trees.{type-at, no_token}
use Rattle.ofn_tree.proofs.parser.type_at.Goals as goal

pub returns-then-is_carets-clause-typed : goal.returns-then-is_carets-clause-typed
returns-then-is_carets-clause-typed c =
    c.datatype_at.ensures.datatype
    ∙ sym
    (type-at c.args.tokens.now c.args.place no_token true c.requires (sym c.is_carets.ensures ∙ c.if-is_carets.true))

pub returns-else-is_carets-clause-typed : goal.returns-else-is_carets-clause-typed
returns-else-is_carets-clause-typed c =
    c.if-is_carets.false
    ∙ sym
    (type-at c.args.tokens.now c.args.place no_token false c.requires (sym c.is_carets.ensures ∙ c.if-is_carets.false))
