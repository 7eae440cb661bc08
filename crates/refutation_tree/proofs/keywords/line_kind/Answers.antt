use Rattle.std.proofs.Common.{sym}
use Rattle.refutation_tree.proofs.Words.{no_line_kind}
use Rattle.refutation_tree.proofs.keywords.line_kind.Goals as goal

pub returns-in-Err : goal.returns-in-Err
returns-in-Err c = sym (no_line_kind c.args.word.now c.in-Err.ensures.cases.0)
