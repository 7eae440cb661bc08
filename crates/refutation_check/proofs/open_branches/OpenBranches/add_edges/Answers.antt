use Rattle.std.proofs.Common.{◌≡◌, ◌+◌, ◌-◌, [], ◌∷◌, refl}
use Rattle.calculus_specs.specs.declared.facts.Fact.TheVariants.{Edge, Has}
use Rattle.calculus_specs.specs.State.{new_nodes}
use Rattle.refutation_check.specs.Open.{knowing}
use Rattle.refutation_check.proofs.Grown.{know_step}
use Rattle.refutation_check.proofs.Ranges.{next_edge}
use Rattle.refutation_check.proofs.open_branches.OpenBranches.add_edges.Goals as goal

pub loop-place-preserved : goal.loop-place-preserved
loop-place-preserved c =
    let n = c.args.nodes.now in
    let place = c.loop-place.place in
    let all = knowing c.args.self.now (new_nodes n.from n.role n.concept n.first n.count) in
    let rest = new_nodes n.from n.role n.concept (n.first + (place + 1)) (n.count - (place + 1)) in
    let left = new_nodes n.from n.role n.concept (n.first + place) (n.count - place) in
    let edge = Edge n.role n.from (n.first + place) in
    let has = Has (n.first + place) n.concept in
    let first : knowing c.add.new.self (has ∷ rest) ≡ all =
    know_step c.loop-place.self c.add.new.self all (edge ∷ []) (has ∷ rest) left c.in_ok-add.ensures
    (next_edge n.from n.role n.concept n.first place n.count c.loop-place-test.true) c.loop-place.invariant in
    know_step c.add.new.self c.add-in-loop-place.new.self all (has ∷ []) rest (has ∷ rest) c.in_ok-add-2.ensures refl
    first
