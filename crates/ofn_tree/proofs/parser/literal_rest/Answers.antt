use Rattle.std.proofs.Common.{◌<◌, length, true, false, sym, ◌∙◌, refl, arith}
use Rattle.ofn_tree.proofs.Trees.{literal-at, no_token}
use Rattle.ofn_tree.proofs.parser.literal_rest.Goals as goal

pub returns-then-is_tag-clause-rest : goal.returns-then-is_tag-clause-rest
returns-then-is_tag-clause-rest c =
    let inside : c.args.place < length c.args.tokens.now = omega arith in
    sym
    (literal-at c.args.tokens.now c.args.place no_token true _ inside (sym c.is_tag.ensures ∙ c.if-is_tag.true) refl)

pub returns-clause-rest : goal.returns-clause-rest
returns-clause-rest c =
    let inside : c.args.place < length c.args.tokens.now = omega arith in
    sym (literal-at c.args.tokens.now c.args.place no_token false false inside
    (sym c.is_tag.ensures ∙ c.if-is_tag.false) (sym c.type_at.ensures.typed ∙ c.if-type_at.false))
