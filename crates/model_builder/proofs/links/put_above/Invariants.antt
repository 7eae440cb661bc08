use Rattle.std.proofs.Common.{◌&&◌, ◌==◌}
use Rattle.role_box.specs.Closure.{any_below}
use Rattle.role_box.specs.Paths.{is_below}
use Rattle.model_builder.specs.Gains.{HasLinks}
use Rattle.model_builder.proofs.links.put_above.Given as goal

abbrev pub invariant-loop-upper : goal.invariant-loop-upper
invariant-loop-upper l =
    HasLinks l.initial.model l.model
    (λ s x y. any_below l.upper (λ u. is_below l.roles l.edge.role u && (u == s && l.edge.from == x && l.edge.to == y)))
