use Rattle.std.proofs.Common.{sym}
use Rattle.refutation_tree.proofs.Words.{no_shape_kind}
use Rattle.refutation_tree.proofs.keywords.shape_kind.Goals as goal

pub returns-in-Err : goal.returns-in-Err
returns-in-Err c = sym (no_shape_kind c.args.word.now c.in-Err.ensures.cases.0)
