use Rattle.std.proofs.Common.{ap}
use Rattle.calculus_specs.specs.State.{node_count_from, fresh_facts}
use Rattle.fact_tree.specs.Facts.{TreeFacts}
use Rattle.completion_tree.proofs.Entries.{facts-followed}
use Rattle.completion_tree.proofs.tree.Tree.fresh.Goals as goal

pub invariant_of-self-in-Ok : goal.invariant_of-self-in-Ok
invariant_of-self-in-Ok g c =
    let t = c.self.inside.facts in
    facts-followed c.self.inside.trail c.follow.new.trail c.args.by t.facts c.fresh.new.self.facts
    (fresh_facts c.args.node c.args.role c.args.concept (node_count_from t.first t.facts) c.args.count) c.len-len.result
    c.self.invariant c.len-len.ensures (ap (λ (u : TreeFacts). u.facts) c.in_ok-first.ensures.made) c.in-Ok.ensures.put
