use Rattle.std.proofs.Common.{◌∙◌}
use Rattle.ofn_tree.proofs.Trees.{unopened, no_token}
use Rattle.ofn_tree.proofs.parser.tree.Goals as goal

pub returns-then-place-tokens-clause-fault : goal.returns-then-place-tokens-clause-fault
returns-then-place-tokens-clause-fault c =
    c.in_ok-trees.ensures.read.same_fault
    ∙ unopened c.args.end_line c.args.tokens.now c.in_ok-trees.place no_token c.if-place-tokens.true
    (c.in_ok-trees.ensures.ended c.if-place-tokens.true)
