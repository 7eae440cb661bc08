use Rattle.std.proofs.Common.{Bool, ap, ◌∙◌, ◌++◌, [], ◌∷◌, List, ℕ}
use Rattle.std.specs.Prelude.{if◌then◌else◌}
use Rattle.branch_facts.specs.NumberedBranch.{NumberedBranch, has_node}
use Rattle.branch_facts.proofs.Same.{knows_is}
use Rattle.branch_facts.proofs.branch_facts.BranchFacts.add_node.Goals as goal

pub returns-clause-added : goal.returns-clause-added
returns-clause-added c =
    let keys : List ℕ = c.self.inside.nodes.keys in
    let view = c.self.view_is in
    let new = knows_is keys c.args.node ∙ ap (λ (k : NumberedBranch). has_node k c.args.node) view ∙ c.requires in
    let nodes =
    c.in_ok-insert_full.ensures.keys ∙ ap (λ (b : Bool). if b then keys else keys ++ c.args.node ∷ []) new
    ∙ ap (λ (k : NumberedBranch). k.nodes ++ c.args.node ∷ []) view in
    λ k. record { nodes = nodes k; facts = (view k).facts }
