use Rattle.std.proofs.Common.{arith}
use Rattle.step_agenda.specs.Trail.{facts_in}
use Rattle.tableau_specs.proofs.TreeShaped.{first_le}
use Rattle.search_state.proofs.beginning.put_start.Goals as goal

pub add-requires : goal.add-requires
add-requires g c = omega (arith, c.requires, first_le c.args.tree.now.first (facts_in c.args.tree.now.entries))
