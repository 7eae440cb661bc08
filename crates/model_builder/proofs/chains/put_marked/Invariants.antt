use Rattle.std.proofs.Common.{◌&&◌, ◌==◌, nat_lt}
use Rattle.model_builder.specs.Structure.{has_chain_of}
use Rattle.model_builder.specs.Walks.{is_seen}
use Rattle.model_builder.specs.Gains.{HasLinks}
use Rattle.model_builder.proofs.chains.put_marked.Given as goal

abbrev pub invariant-loop-to : goal.invariant-loop-to
invariant-loop-to l =
    HasLinks l.initial.model l.model
    (has_chain_of l.role_count l.roles l.role (λ x y. nat_lt y l.to && (l.from == x && is_seen l.marked y)))
