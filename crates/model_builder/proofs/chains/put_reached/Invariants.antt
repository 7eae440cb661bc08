use Rattle.std.proofs.Common.{◌&&◌, nat_lt, length}
use Rattle.role_box.specs.Paths.{has_path}
use Rattle.model_builder.specs.Structure.{has_chain_of}
use Rattle.model_builder.specs.Walks.{is_end}
use Rattle.model_builder.specs.Gains.{HasLinks}
use Rattle.model_builder.proofs.chains.put_reached.Given as goal

abbrev pub invariant-loop-from : goal.invariant-loop-from
invariant-loop-from l =
    HasLinks l.initial.model l.model
    (has_chain_of l.role_count l.roles l.role (λ x y. nat_lt x l.from && has_path (is_end l.next) (length l.next) x y))
