use Rattle.std.proofs.Common.{rules, ◌≡◌, ◌∙◌, ◌<◌, length, take, drop, get_or, ap, arith, List}
use Rattle.std.proofs.lemmas.List.{get_or_default, length-take}
use Rattle.fact_tree.specs.Kept.{Lists, Kept, bare}
use Rattle.fact_tree.specs.Entries.{undone, relinked}
use Rattle.fact_tree.proofs.store.Store.undo.Goals as goal

pub returns : goal.returns
returns g c =
    let u = c.args.lengths in
    let kept = c.args.self.now in
    let first : c.truncate.new.self.items ≡ take u.nodes kept.links = search rules in
    let cut : c.truncate-2.new.self.items ≡ take u.nodes kept.nodes =
    c.truncate-2.ensures.items ∙ ap (λ (k : Kept). take u.nodes k.nodes) c.self.view_is in
    let lt : u.node < length c.truncate-2.new.self.items =
    omega (arith, ap length cut, length-take u.nodes kept.nodes, c.requires.node, c.requires.nodes) in
    let members : c.later_members-members.result.now
    ≡ drop u.members (get_or (take u.nodes kept.nodes) u.node bare).members =
    c.later_members-members.ensures
    ∙ ap (λ (n : Lists). drop u.members n.members)
    (c.index.ensures ∙ get_or_default c.truncate-2.new.self.items u.node c.index.result.now bare lt
    ∙ ap (λ (ns : List Lists). get_or ns u.node bare) cut) in
    let nodes : c.cut_in.new.nodes.items ≡ (undone u kept).nodes = search rules in
    λ i. record { links = (c.relink_in.ensures ∙ (λ j. relinked (members j) (first j))) i; nodes = nodes i }
