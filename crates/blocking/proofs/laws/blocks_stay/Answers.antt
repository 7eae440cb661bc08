use Rattle.blocking.proofs.BlockLists.{going_on, going_back, current_below, less_below, nothing_below}
use Rattle.blocking.proofs.laws.blocks_stay.Goals as goal

pub returns : goal.returns
returns c = record { on = going_on; back = going_back; all = current_below; less = less_below; none = nothing_below }
