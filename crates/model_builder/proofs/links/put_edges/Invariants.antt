use Rattle.std.proofs.Common.{take}
use Rattle.model_builder.specs.Structure.{leads_listed}
use Rattle.model_builder.specs.Gains.{HasLinks}
use Rattle.model_builder.proofs.links.put_edges.Given as goal

abbrev pub invariant-loop-edge : goal.invariant-loop-edge
invariant-loop-edge l = HasLinks l.initial.model l.model (leads_listed l.role_count l.roles (take l.edge-index l.edges))
