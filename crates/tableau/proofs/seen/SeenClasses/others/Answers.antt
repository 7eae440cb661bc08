use Rattle.std.proofs.Common.{◌≡◌, ℕ, ◌+◌, ◌∙◌, ap, subst}
use Rattle.std.specs.FinSet as sets
use Rattle.lane_sieve.specs.Sets.{NumberSet}
use Rattle.axiom_sets.specs.Sets.{Limited, IsFull}
use Rattle.tableau.specs.Seen.{SeenSets, holds, counted}
use Rattle.tableau.proofs.Left.{left_open}
use Rattle.tableau.proofs.seen.SeenClasses.others.Goals as goal

pub returns-clause-exact : goal.returns-clause-exact
returns-clause-exact c =
    let s = c.args.self.now in
    let root = c.self.inside.at_node in
    let complements = c.counted.result.now in
    let all = c.in_ok-classes.classes.members in
    let root_is : root ≡ s.at_node = ap (λ (t : SeenSets). t.at_node) c.self.view_is in
    let complements_is : complements ≡ counted s = c.counted.ensures.counted in
    let members : c.take_all-2.new.self.members
    ≡ sets.difference (sets.difference all root.members) complements.members =
    c.take_all-2.ensures.members
    ∙ ap (λ (t : NumberSet). sets.difference t complements.members) c.take_all.ensures.members in
    λ a lt.
    ap (λ (t : NumberSet). sets.contains t (a + 1)) members
    ∙ left_open s.at_node.limit a all root.members complements.members (holds s.at_node a) (holds (counted s) a)
    (subst (λ (n : ℕ). IsFull n all) (c.limit.ensures.limit ∙ ap (λ (t : Limited). t.limit) root_is)
    c.in_ok-classes.ensures.members)
    lt
    (ap (λ (t : Limited). holds t a) root_is) (ap (λ (t : Limited). holds t a) complements_is)
