use Rattle.refutation_tree.proofs.Writable.{read_is_writable}
use Rattle.refutation_tree.proofs.laws.what_is_read_can_be_written.Goals as goal

pub returns : goal.returns
returns c = read_is_writable
