use Rattle.std.proofs.lemmas.List.{get_or_default}
use Rattle.search_rules.proofs.Giving.{one_edge_more}
use Rattle.search_rules.proofs.given_facts.edge_lists.Goals as goal

pub loop-one-preserved : goal.loop-one-preserved
loop-one-preserved c = λ x.
    one_edge_more x c.args.given.now c.loop-one.one-index _ _ _ _ c.loop-one-test.true
    (get_or_default c.args.given.now c.loop-one.one-index _ _ c.loop-one-test.true) (c.loop-one.invariant x)
    (c.in_ok-push_edge.ensures x)
