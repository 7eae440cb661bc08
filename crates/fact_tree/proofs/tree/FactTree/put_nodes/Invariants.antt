use Rattle.std.proofs.Common.{◌≡◌, ◌+◌, ◌-◌}
use Rattle.calculus_specs.specs.State.{new_nodes}
use Rattle.fact_tree.specs.Told.{Continues}
use Rattle.fact_tree.proofs.Law.{count_in}
use Rattle.fact_tree.proofs.Fresh.{with_more}
use Rattle.fact_tree.proofs.tree.FactTree.put_nodes.Given as goal

abbrev pub invariant-loop-place : goal.invariant-loop-place
invariant-loop-place g l = record {
  facts : with_more l.self (new_nodes l.from l.role l.concept (l.first + l.place) (l.count - l.place))
      ≡ with_more l.fn.self (new_nodes l.from l.role l.concept l.first l.count);
  nodes : count_in l.self ≡ l.first + l.place;
  begins : Continues l.fn.self l.self;
}
