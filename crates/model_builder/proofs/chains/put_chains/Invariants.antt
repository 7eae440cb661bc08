use Rattle.role_box.specs.Closure.{any_below}
use Rattle.model_builder.specs.Structure.{has_chain_by}
use Rattle.model_builder.specs.Gains.{HasLinks}
use Rattle.model_builder.proofs.chains.put_chains.Given as goal

abbrev pub invariant-loop-role : goal.invariant-loop-role
invariant-loop-role l =
    HasLinks l.initial.model l.model
    (λ s x y. any_below l.role (λ t. has_chain_by l.initial.model.size l.role_count l.roles l.edges t s x y))
