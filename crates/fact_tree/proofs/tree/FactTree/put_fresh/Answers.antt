use Rattle.calculus_specs.specs.State.{new_nodes}
use Rattle.fact_tree.proofs.Growing.{on_err_by}
use Rattle.fact_tree.proofs.Fresh.{begins_before}
use Rattle.fact_tree.proofs.tree.FactTree.put_fresh.Goals as goal

pub returns-clause-begins : goal.returns-clause-begins
returns-clause-begins g c =
    on_err_by c.put_pairwise.result _ _
    (begins_before c.args.self.now c.put_nodes.new.self c.put_pairwise.new.self
    (new_nodes c.args.from c.args.role c.args.concept c.args.first c.args.count) c.in_ok-put_nodes.ensures.made)
    c.put_pairwise.ensures.begins
