use Rattle.std.proofs.Common.{ℕ, List, Option, subst}
use Rattle.calculus_specs.specs.Shape.{shape_of}
use Rattle.tableau.specs.Seen.{SeenSets, class_of, is_one, union_parts, has_complement, HasGained}
use Rattle.tableau.proofs.seen.SeenClasses.note_at_node.Goals as goal

pub returns-clause-at_node : goal.returns-clause-at_node
returns-clause-at_node g c =
    let shape = shape_of (g.R.Rules.context c.args.rules.now).table c.args.concept in
    subst (λ (s : SeenSets). HasGained (λ a. is_one a (class_of shape)) s.at_node c.put_if.new.set) c.self.view_is
    (subst (λ (found : Option ℕ). HasGained (λ a. is_one a found) c.self.inside.at_node c.put_if.new.set)
    c.class_of.ensures c.put_if.ensures)

pub returns-clause-complements : goal.returns-clause-complements
returns-clause-complements g c =
    let table = (g.R.Rules.context c.args.rules.now).table in
    subst (λ (s : SeenSets). HasGained (λ a. has_complement table a (union_parts (shape_of table c.args.concept)))
    s.complements c.put_complements.new.set)
    c.self.view_is
    (subst
    (λ (ds : List ℕ). HasGained (λ a. has_complement table a ds) c.self.inside.complements c.put_complements.new.set)
    c.parts_of.ensures c.put_complements.ensures)
