use Rattle.std.proofs.Common.{◌≡◌, ℕ, ◌-◌, ◌<◌, length, refl, sym, subst, arith}
use Rattle.std.specs.Prelude.{All}
use Rattle.std.proofs.lemmas.Result.{IfOk-weaker}
use Rattle.blocking.specs.Trail.{facts_in}
use Rattle.finite_model.specs.ModelLists.{meaning}
use Rattle.search_laws.specs.Elements.{elements}
use Rattle.model_builder.specs.declared.structure_model.Edge.{Edge}
use Rattle.model_builder.specs.Structure.{IsInterpretation}
use Rattle.model_builder.specs.Collected.{IsOfElements}
use Rattle.model_builder.proofs.Numbers.{all_elements}
use Rattle.model_builder.proofs.Members.{members_inside}
use Rattle.model_builder.proofs.Edges.{begins_inside, ends_inside}
use Rattle.model_builder.proofs.Whole.{of_elements}
use Rattle.model_builder.proofs.model.interpretation_of.Goals as goal

pub interpretation-requires-clause-members : goal.interpretation-requires-clause-members
interpretation-requires-clause-members g c =
    rw c.deref.ensures.value
    (members_inside c.args.concepts.now (facts_in c.args.tree.now.entries) c.args.originals.now
    (length c.args.originals.now) c.in_ok-members.members.items c.in_ok-members.ensures)

pub interpretation-requires-clause-begins : goal.interpretation-requires-clause-begins
interpretation-requires-clause-begins g c =
    rw c.deref-2.ensures.value
    (begins_inside c.args.tree.now.first (facts_in c.args.tree.now.entries) c.args.originals.now
    (length c.args.originals.now) c.in_ok-edges.edges.items c.in_ok-edges.ensures)

pub interpretation-requires-clause-ends : goal.interpretation-requires-clause-ends
interpretation-requires-clause-ends g c =
    let all : length c.args.originals.now
    ≡ length (elements c.args.tree.now.first (facts_in c.args.tree.now.entries)) =
    all_elements _ _ _ _ _ c.requires.numbered refl in
    rw c.deref-2.ensures.value
    (subst (λ (n : ℕ). All (λ (e : Edge). e.to < n) c.in_ok-edges.edges.items) (sym all)
    (ends_inside c.args.tree.now.first (facts_in c.args.tree.now.entries) c.args.originals.now
    (length c.args.originals.now) c.in_ok-edges.edges.items c.in_ok-edges.ensures))

pub returns : goal.returns
returns g c =
    let first = c.args.tree.now.first in
    let fs = facts_in c.args.tree.now.entries in
    let size = length c.args.originals.now in
    let members = c.in_ok-members.members.items in
    let edges = c.in_ok-edges.edges.items in
    let places = c.in_ok-places.places.items in
    IfOk-weaker c.interpretation.result
    (λ k. IsInterpretation size c.args.count c.deref.result.now c.args.roles.now c.deref-2.result.now
    c.deref-3.result.now (meaning k))
    (λ k. IsOfElements c.args.concepts.now c.args.roles.now c.args.count first fs (meaning k))
    (λ k is.
    let given : IsInterpretation size c.args.count members c.args.roles.now edges places (meaning k) =
    rw (c.deref.ensures.value, c.deref-2.ensures.value, c.deref-3.ensures.value) at is in
    of_elements c.args.concepts.now c.args.roles.now c.args.count first fs c.args.numbers.now c.args.originals.now size
    members edges places (c.first.result - 1) c.requires.numbered refl (meaning k) c.in_ok-members.ensures
    c.in_ok-edges.ensures c.in_ok-places.ensures (omega (arith, c.first.ensures.first, c.first.ensures.some)) given)
    c.interpretation.ensures
